-- The rows of a store that keeps its bits are eight and within the room, and its words lie as the law of the layout says.
use Rattle.std.specs.Prelude.{◌≡◌, ℕ, ◌+◌, ◌-◌, ◌*◌, ◌<◌, ◌≤◌, ◌⊎◌, List, length, drop, nat_lt, slice_index, refl}
use Rattle.std.proofs.Common.{sym, ap, ◌∙◌, ⊎_elim, arith}
use Rattle.std.proofs.lemmas.List.FromFn.{length-map-range_with_len, get_or-map-range_with_len}
use Rattle.std.proofs.lemmas.List.{get_or_past, get_or-take, get_or-drop}
use Rattle.std.proofs.lemmas.Bool.{cases_lt, cond-true, cond-false, lt-ltb, le-ltb}
use Rattle.rows.specs.Meaning.{Row, Within, row_at, empty}
use Rattle.plain_rows.specs.declared.plain.Filled.{Filled}
use Rattle.plain_rows.specs.declared.plain.Table.{Table}
use Rattle.plain_rows.specs.PlainWords.{bit_words, plain_used, word, zeros_before, PlainLaid, bit_at, bits_of}
use Rattle.plain_rows.specs.PlainTable.{Kept, filled_at, words_at, row_of, plain_rows, rows_of}

pub length-bits : (ws : List ℕ) (n : ℕ) → length (bits_of ws n) ≡ n
unfolding bits_of
length-bits ws n = length-map-range_with_len (bit_at ws) 0 n

pub word_at : (L : ℕ) (ws : List ℕ) (row i : ℕ) → i < 2 * L → slice_index (words_at L ws row) i ≡ slice_index ws (2 * L * row + i)
word_at L ws row i h = get_or-take (2 * L) (drop (2 * L * row) ws) i 0 h ∙ get_or-drop (2 * L * row) ws i 0

pub length-rows : (L : ℕ) (ws : List ℕ) (table : List Filled) → length (plain_rows L ws table) ≡ 8
unfolding plain_rows
length-rows L ws table = refl

pub row_is : (L : ℕ) (ws : List ℕ) (table : List Filled) (row : ℕ) → row < 8 → row_at (plain_rows L ws table) row ≡ row_of L ws table row
unfolding plain_rows
row_is L ws table row h = get_or-map-range_with_len (row_of L ws table) 0 8 row row empty h (omega arith)

pub rows_within : (t : Table) (ws : List ℕ) → t.room.puts ≤ 512 → t.room.bits ≤ 33554432 →
    ((row : ℕ) → ((filled_at t.rows row).bits ≤ t.room.bits) × ((filled_at t.rows row).puts ≤ t.room.puts)) → Within t.room (rows_of t ws)
rows_within t ws few narrow within =
    let L = bit_words t.room.bits in
    let rows = rows_of t ws in
    let low : (row : ℕ) → (row < 8) ⊎ (8 ≤ row) → (length (row_at rows row).bits ≤ t.room.bits) × ((row_at rows row).puts ≤ t.room.puts) =
    λ row. ⊎_elim
    (λ h. rw (row_is L ws t.rows row h, length-bits (words_at L ws row) (filled_at t.rows row).bits) (within row))
    (λ h. rw (get_or_past rows row empty (rw (length-rows (bit_words t.room.bits) ws t.rows) h)) (omega arith, omega arith)) in
    record {
      few = few;
      narrow = narrow;
      taken = λ row. (low row (cases_lt row 8)).1;
      long = λ row. (low row (cases_lt row 8)).0;
    }

pub words_lie : (t : Table) (ws : List ℕ) → plain_used t.room ≤ length ws → Kept (bit_words t.room.bits) ws t.rows → PlainLaid t.room (rows_of t ws) ws
words_lie t ws enough ok =
    let L = bit_words t.room.bits in
    let row_bits = λ (row : ℕ). (row_of L ws t.rows row).bits in
    record {
      enough = enough;
      bits = λ row m low h.
          sym (word_at L ws row m (omega arith)) ∙ ok row low m (omega arith) ∙ cond-true (nat_lt m L) (word (row_bits row) m) _ (lt-ltb m L h)
          ∙ ap (λ (r : Row). word r.bits m) (sym (row_is L ws t.rows row low));
      counts = λ row m low h.
          let e : L + m - L ≡ m = omega arith in
          sym (word_at L ws row (L + m) (omega arith)) ∙ ok row low (L + m) (omega arith) ∙ cond-false (nat_lt (L + m) L) _ (zeros_before (row_bits row) (L + m - L)) (le-ltb (L + m) L (omega arith))
          ∙ ap (λ (n : ℕ). zeros_before (row_bits row) n) e
          ∙ ap (λ (r : Row). zeros_before r.bits m) (sym (row_is L ws t.rows row low));
    }
