-- What `extend` and `append` leave.
use Rattle.std.proofs.Common.{◌≡◌, ℕ, ◌+◌, ◌-◌, ◌*◌, ◌/◌, ◌<◌, ◌≤◌, Bool, List, ◌++◌, length, get_or, take, drop, set, replicate, sym, refl, ap, ◌∙◌, arith}
use Rattle.std.proofs.lemmas.List.{append_assoc, replicate-append-replicate, get_or-set_same, length-append, length-replicate, length-take-le, take-append-drop, set-set}
use Rattle.rows.specs.declared.room.Room.{Room}
use Rattle.rows.specs.Meaning.{Row, empty, row_at}
use Rattle.plain_rows.specs.declared.plain.Filled.{Filled}
use Rattle.plain_rows.specs.declared.plain.Table.{Table}
use borrow.Rule.Slice.PartMut.{put_mid}
use Rattle.plain_rows.specs.PlainWords.{bit_words, plain_used, bits_of}
use Rattle.plain_rows.specs.PlainTable.{Good, Grown, IsRow, filled_at, words_at, row_of, rows_of, extended}
use Rattle.plain_rows.specs.PlainSound.{length-bits, length-rows, row_is}
use Rattle.plain_rows.proofs.PlainValues.{Halves, halves}
use Rattle.plain_rows.proofs.PlainPuts.{Written, written, length_words, sound_after, rows_after}

pub row_in : (s : Table) (ws : List ℕ) (row : ℕ) → row < 8 → row_at (rows_of s ws) row ≡ row_of (bit_words s.room.bits) ws s.rows row
row_in s ws row low = row_is (bit_words s.room.bits) ws s.rows row low

pub length_in : (s : Table) (ws : List ℕ) (row : ℕ) → row < 8 → length (row_at (rows_of s ws) row).bits ≡ (filled_at s.rows row).bits
length_in s ws row low = ap (λ (r : Row). length r.bits) (row_in s ws row low) ∙ length-bits (words_at (bit_words s.room.bits) ws row) (filled_at s.rows row).bits

-- ---- within one word: b and `size` are how many words of the row have bits, and how long it is
abbrev part : ℕ → ℕ → List ℕ → List ℕ
part b row ws = take (2 * b * row + 2 * b - 2 * b * row) (drop (2 * b * row) ws)

part_is : (b row : ℕ) (ws : List ℕ) → part b row ws ≡ words_at b ws row
part_is b row ws =
    let e : 2 * b * row + 2 * b - 2 * b * row ≡ 2 * b = omega arith in
    ap (λ (n : ℕ). take n (drop (2 * b * row) ws)) e

-- the words of a row, split at b
pub row_halves : (s : Table) (ws : List ℕ) (row : ℕ) → Good s ws → row < 8 → (b : ℕ) → b ≡ bit_words s.room.bits → (A B : List ℕ) →
    A ≡ take b (part b row ws) → B ≡ drop b (part b row ws) → Halves (bit_words s.room.bits) (row_at (rows_of s ws) row).bits A B
row_halves s ws row good low b b_is A B front back =
    let L = bit_words s.room.bits in
    let rs = words_at L ws row in
    let p : part b row ws ≡ rs = rw b_is (part_is L row ws) in
    rw (front, back, p, b_is, row_in s ws row low)
    (halves L (row_of L ws s.rows row).bits rs (take L rs) (drop L rs) (good.ok row low) (sym (take-append-drop L rs))
    (length-take-le L rs (omega (arith, length_words L ws row good.enough low))))

module _ (s : Table) (ws : List ℕ) (row : ℕ) (good : Good s ws) (low : row < 8) (b size : ℕ) (b_is : b ≡ bit_words s.room.bits) (size_is : size ≡ length (row_at (rows_of s ws) row).bits) where
  abbrev L : ℕ
  L = bit_words s.room.bits

  size_as : size ≡ (filled_at s.rows row).bits
  size_as = size_is ∙ length_in s ws row low

  words_are : part b row ws ≡ words_at L ws row
  words_are = rw b_is (part_is L row ws)

  half : length (words_at L ws row) / 2 ≡ L
  half = omega (arith, length_words L ws row good.enough low)

  pub half_is : length (part b row ws) / 2 ≡ L
  half_is = rw words_are half

  pub row_before : IsRow (length (part b row ws) / 2) (bits_of (part b row ws) size) (part b row ws)
  row_before = rw (words_are, half, size_as) (good.ok row low)

  pub grown : (bit : Bool) (count : ℕ) (us : List ℕ) → size + count ≤ s.room.bits → length us ≡ length (part b row ws) →
      IsRow (length (part b row ws) / 2) (bits_of (part b row ws) size ++ replicate count bit) us →
      Grown row bit count s ws (record { room = s.room; rows = set s.rows row (record { bits = size + count; puts = (filled_at s.rows row).puts }) }) (put_mid (2 * b * row) (2 * b * row + 2 * b - 2 * b * row) ws us)
  grown bit count us fits same fit =
      let new : Filled = record { bits = size + count; puts = (filled_at s.rows row).puts } in
      let old = (row_of L ws s.rows row).bits in
      let wide : length us ≡ 2 * L = same ∙ ap length words_are ∙ length_words L ws row good.enough low in
      let fit_at : IsRow L (old ++ replicate count bit) us = rw (words_are, half, size_as) at fit in
      let e : 2 * b * row + 2 * b - 2 * b * row ≡ 2 * L = omega (arith, b_is) in
      let w : Written L row (old ++ replicate count bit) ws (put_mid (2 * b * row) (2 * b * row + 2 * b - 2 * b * row) ws us) =
      rw (e, b_is) (written L row ws us (old ++ replicate count bit) low good.enough wide fit_at) in
      let long : length (old ++ replicate count bit) ≡ size + count =
      length-append old (replicate count bit) ∙ omega (arith, size_as, length-bits (words_at L ws row) (filled_at s.rows row).bits, length-replicate count bit) in
      record {
        good = sound_after s.room ws _ s.rows row new _ good low w long fits (good.within row).1;
        rows = rows_after s.room ws _ s.rows row new _ good low w long fits (good.within row).1
            ∙ ap (λ (q : Row). set (rows_of s ws) row (extended q bit count)) (sym (row_in s ws row low));
        room = refl;
        rest = w.rest;
      }

-- ---- one run after another
module _ (row : ℕ) (bit : Bool) (a : ℕ) (s : Table) (ws : List ℕ) (t : Table) (vs : List ℕ) (low : row < 8) (l : Grown row bit a s ws t vs) where
  abbrev R : Row
  R = row_at (rows_of s ws) row

  -- the row after a run
  pub grown_row : row_at (rows_of t vs) row ≡ extended R bit a
  grown_row = ap (λ (q : List Row). get_or q row empty) l.rows ∙ get_or-set_same (rows_of s ws) row (extended R bit a) empty (omega (arith, length-rows (bit_words s.room.bits) ws s.rows))

  pub grown_more : (b : ℕ) (u : Table) (us : List ℕ) → Grown row bit b t vs u us → Grown row bit (a + b) s ws u us
  grown_more b u us m =
      let joined : extended (extended R bit a) bit b ≡ extended R bit (a + b) =
      ap (λ (xs : List Bool). let r : Row = record { bits = xs; puts = R.puts } in r)
      (append_assoc R.bits (replicate a bit) (replicate b bit) ∙ ap (λ (xs : List Bool). R.bits ++ xs) (replicate-append-replicate a b bit)) in
      record {
        good = m.good;
        rows = m.rows ∙ ap (λ (q : Row). set (rows_of t vs) row (extended q bit b)) grown_row ∙ ap (λ (q : Row). set (rows_of t vs) row q) joined
            ∙ ap (λ (q : List Row). set q row (extended R bit (a + b))) l.rows ∙ set-set (rows_of s ws) row (extended R bit a) (extended R bit (a + b));
        room = m.room ∙ l.room;
        rest = ap (λ (r : Room). drop (plain_used r) us) (sym l.room) ∙ m.rest ∙ ap (λ (r : Room). drop (plain_used r) vs) l.room ∙ l.rest;
      }
