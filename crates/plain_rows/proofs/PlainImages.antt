-- The words in use are those of the rows that they say.
use Rattle.std.proofs.Common.{◌≡◌, ℕ, ◌+◌, ◌*◌, ◌/◌, ◌%◌, ◌<◌, List, ◌++◌, map, get_or, take, drop, sym, ap, ◌∙◌, mul_comm, arith}
use Rattle.std.specs.List.{range_with_len}
use Rattle.std.proofs.lemmas.Nat.{div-add-mod', div_below, mod_below}
use Rattle.std.proofs.lemmas.List.FromFn.{fill_by_all}
use Rattle.std.proofs.lemmas.List.{get_or-take, length-take-le, take-append-drop}
use Rattle.rows.specs.declared.room.Room.{Room}
use Rattle.rows.specs.Meaning.{Row}
use Rattle.plain_rows.specs.declared.plain.Table.{Table}
use Rattle.plain_rows.specs.PlainWords.{bit_words, plain_used, coded, image, image_at}
use Rattle.plain_rows.specs.PlainTable.{Good, rows_of}
use Rattle.plain_rows.specs.PlainSound.{row_is, word_at}

image_is : (s : Table) (ws : List ℕ) → Good s ws → image s.room (rows_of s ws) ws ≡ ws
image_is s ws good =
    let L = bit_words s.room.bits in
    let n = 2 * L in
    let front : take (16 * L) ws ≡ map (image_at L (rows_of s ws)) (range_with_len 0 (16 * L)) =
    fill_by_all (image_at L (rows_of s ws)) (take (16 * L) ws) (16 * L) 0 (length-take-le (16 * L) ws good.enough) (λ k h.
    let z : 0 < n = omega arith in
    let r8 : k / n < 8 = div_below k n 8 z (omega arith) in
    let e : k ≡ n * (k / n) + k % n = omega (arith, div-add-mod' k n, mul_comm n (k / n)) in
    get_or-take (16 * L) ws k 0 h ∙ ap (λ (j : ℕ). get_or ws j 0) e ∙ sym (word_at L ws (k / n) (k % n) (mod_below k n z)) ∙ good.ok (k / n) r8 (k % n) (mod_below k n z)
    ∙ ap (λ (r : Row). coded L r.bits (k % n)) (sym (row_is L ws s.rows (k / n) r8))) in
    ap (λ (t : List ℕ). t ++ drop (16 * L) ws) (sym front) ∙ take-append-drop (16 * L) ws

-- the words of a good store with these rows, where the words past those in use are as in us
pub words_are : (s : Table) (ws : List ℕ) (room : Room) (rows : List Row) (us : List ℕ) → Good s ws → s.room ≡ room → rows_of s ws ≡ rows →
    drop (plain_used room) ws ≡ drop (plain_used room) us → ws ≡ image room rows us
words_are s ws room rows us good a b d =
    sym (image_is s ws good) ∙ ap (λ (r : Room). image r (rows_of s ws) ws) a ∙ ap (λ (q : List Row). image room q ws) b
    ∙ ap (λ (t : List ℕ). map (image_at (bit_words room.bits) rows) (range_with_len 0 (plain_used room)) ++ t) d
