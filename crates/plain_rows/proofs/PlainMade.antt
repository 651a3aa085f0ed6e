-- Words that keep bits, set to 0.
use Rattle.std.proofs.Common.{◌≡◌, ℕ, ◌+◌, ◌-◌, ◌*◌, ◌<◌, ◌≤◌, Bool, List, [], length, take, drop, replicate, sym, refl, ap, ◌∙◌, ⊎_elim, arith}
use Rattle.std.proofs.lemmas.List.{get_or_append_left, get_or-replicate, get_or_past, length-replicate, drop_all}
use Rattle.std.proofs.lemmas.Bool.{cases_lt, cases_eq}
use Rattle.rows.specs.declared.room.Room.{Room}
use Rattle.rows.specs.Meaning.{cleared, zeroed}
use Rattle.plain_rows.specs.declared.plain.Filled.{Filled}
use Rattle.plain_rows.specs.PlainWords.{bit_words, value, coded, bits_of, plain_used, plain_wiped}
use Rattle.plain_rows.specs.PlainTable.{Sound, Kept, filled_at, plain_rows}
use Rattle.plain_rows.specs.PlainSound.{word_at}
use Rattle.plain_rows.proofs.PlainPuts.{row_end}
use Rattle.plain_rows.proofs.PlainValues.{coded_word, coded_before, before_none}
use Rattle.rows.proofs.Zeroed.{length-zeroed}

abbrev none : Filled
none = record { bits = 0; puts = 0 }

pub rows_none : (L : ℕ) (ws : List ℕ) → plain_rows L ws (replicate 8 (record { bits = 0; puts = 0 })) ≡ cleared
unfolding plain_rows bits_of
rows_none L ws = refl

filled_none : (row : ℕ) → filled_at (replicate 8 none) row ≡ none
filled_none row = ⊎_elim (λ (h : row < 8). get_or-replicate 8 row none none h) (λ (h : 8 ≤ row). get_or_past (replicate 8 none) row none h) (cases_lt row 8)

no_bits : (ws : List ℕ) → bits_of ws 0 ≡ []
unfolding bits_of
no_bits ws = refl

coded_none : (L i : ℕ) → coded L [] i ≡ 0
coded_none L i = ⊎_elim
    (λ (h : i < L). coded_word L [] i h ∙ ap (λ (l : List Bool). value (take 64 l)) (drop_all (64 * i) [] (omega arith)))
    (λ (h : L ≤ i).
    let j = i - L in
    let e : L + j ≡ i = omega arith in
    ap (λ (k : ℕ). coded L [] k) (sym e) ∙ coded_before L [] j ∙ ⊎_elim
    (λ (z : j ≡ 0). rw z refl)
    (λ (nz : j ≡ 0 → ⊥). before_none [] j (omega (arith, nz)))
    (cases_eq j 0))
    (cases_lt i L)

kept_none : (L : ℕ) (ws : List ℕ) → Kept L (zeroed (16 * L) ws) (replicate 8 none)
kept_none L ws row h i l =
    let p : 2 * L * row + i < 16 * L = omega (arith, row_end (2 * L) row h) in
    let q : 2 * L * row + i < length (replicate (16 * L) 0) = rw (length-replicate {A = ℕ} (16 * L) 0) p in
    word_at L (zeroed (16 * L) ws) row i l ∙ get_or_append_left (replicate (16 * L) 0) (drop (16 * L) ws) 0 (2 * L * row + i) q ∙ get_or-replicate (16 * L) (2 * L * row + i) 0 0 p
    ∙ sym (rw (filled_none row, no_bits) (coded_none L i))

pub sound_none : (room : Room) (ws : List ℕ) → room.puts ≤ 512 → room.bits ≤ 33554432 → plain_used room ≤ length ws →
    Sound room (plain_wiped room ws) (replicate 8 (record { bits = 0; puts = 0 }))
sound_none room ws few narrow enough = record {
  few = few;
  narrow = narrow;
  enough = rw (length-zeroed (plain_used room) ws enough) enough;
  eight = refl;
  within = λ row. rw (filled_none row) (omega arith, omega arith);
  ok = kept_none (bit_words room.bits) ws;
}
