-- One row's words and its place in the table change, and the others stay.
use Rattle.std.proofs.Common.{◌≡◌, ℕ, suc, ◌+◌, ◌*◌, ◌<◌, ◌≤◌, Bool, List, ◌++◌, length, take, drop, set, sym, ap, ◌∙◌, ⊎_elim, mul-le-mul_left, mul-suc, arith}
use borrow.Rule.Slice.PartMut.{put_mid}
use Rattle.std.proofs.lemmas.List.{get_or-set_same, get_or-set_other, length-set, length-take-le, length-drop, length-append, take-append-drop, take-append-le, drop-append-le, take_at, drop_at, ext_get_or}
use Rattle.std.proofs.lemmas.Slice.{drop-put_mid}
use Rattle.std.proofs.lemmas.Bool.{cases_lt, cases_eq}
use Rattle.rows.specs.declared.room.Room.{Room}
use Rattle.rows.specs.Meaning.{Row, empty}
use Rattle.plain_rows.specs.declared.plain.Filled.{Filled}
use Rattle.plain_rows.specs.PlainWords.{bit_words, bits_of}
use Rattle.plain_rows.specs.PlainTable.{Sound, Kept, IsRow, filled_at, words_at, plain_rows}
use Rattle.plain_rows.specs.PlainSound.{length-rows, row_is}
use Rattle.plain_rows.proofs.PlainValues.{said}

-- rows of n words lie apart, and within 8 of them
below : (n r s : ℕ) → r < s → n * r + n ≤ n * s
below n r s h = omega (arith, mul-suc n r, mul-le-mul_left {m = suc r} {n = s} n h)

pub row_end : (n r : ℕ) → r < 8 → n * r + n ≤ 8 * n
row_end n r h = omega (arith, below n r 8 h)

pub length_words : (L : ℕ) (ws : List ℕ) (row : ℕ) → 16 * L ≤ length ws → row < 8 → length (words_at L ws row) ≡ 2 * L
length_words L ws row enough low =
    length-take-le (2 * L) (drop (2 * L * row) ws) (omega (arith, length-drop (2 * L * row) ws, row_end (2 * L) row low))

-- ws became vs: the words of row `row` are those of the bits bs, and the others are as they were
pub record Written (L row : ℕ) (bs : List Bool) (ws vs : List ℕ) : Type 0 where
  pub fit : IsRow L bs (words_at L vs row)
  pub same : length vs ≡ length ws
  pub others : (r : ℕ) → r < 8 → (r ≡ row → ⊥) → words_at L vs r ≡ words_at L ws r
  pub rest : drop (16 * L) vs ≡ drop (16 * L) ws

-- what a front says
front : (n k : ℕ) (xs ys : List ℕ) → k + n ≤ length xs → take n (drop k (xs ++ ys)) ≡ take n (drop k xs)
front n k xs ys h =
    ap (λ (l : List ℕ). take n l) (drop-append-le k xs ys (omega arith)) ∙ take-append-le n (drop k xs) ys (omega (arith, length-drop k xs))

pub written : (L row : ℕ) (ws us : List ℕ) (bs : List Bool) → row < 8 → 16 * L ≤ length ws → length us ≡ 2 * L → IsRow L bs us →
    Written L row bs ws (put_mid (2 * L * row) (2 * L) ws us)
written L row ws us bs low enough wide fit =
    let n = 2 * L in
    let a = n * row in
    let past = drop n (drop a ws) in
    let end = row_end n row low in
    let in_front : length (take a ws) ≡ a = length-take-le a ws (omega arith) in
    let here : words_at L (put_mid a n ws us) row ≡ us = ap (λ (l : List ℕ). take n l) (drop_at (take a ws) (us ++ past) a in_front) ∙ take_at us past n wide in
    record {
      fit = rw here fit;
      same = length-append (take a ws) (us ++ past) ∙ omega (arith, in_front, length-append us past, length-drop n (drop a ws), length-drop a ws);
      others = λ r h ne. ⊎_elim
          (λ (l : r < row).
          let k : n * r + n ≤ length (take a ws) = omega (arith, in_front, below n r row l) in
          front n (n * r) (take a ws) (us ++ past) k ∙ sym (front n (n * r) (take a ws) (drop a ws) k) ∙ ap (λ (l : List ℕ). take n (drop (n * r) l)) (take-append-drop a ws))
          (λ (l : row ≤ r). ap (λ (l : List ℕ). take n l) (drop-put_mid a n ws us (n * r) (below n row r (omega (arith, ne))) (omega arith) wide))
          (cases_lt r row);
      rest = drop-put_mid a n ws us (16 * L) (omega arith) (omega arith) wide;
    }

-- and its place in the table says `new`
module _ (room : Room) (ws vs : List ℕ) (table : List Filled) (row : ℕ) (new : Filled) (bs : List Bool) (sound : Sound room ws table) (r8 : row < 8)
    (now : Written (bit_words room.bits) row bs ws vs) (long : length bs ≡ new.bits) (fits : new.bits ≤ room.bits) (few : new.puts ≤ room.puts) where
  abbrev L : ℕ
  L = bit_words room.bits

  abbrev none : Filled
  none = record { bits = 0; puts = 0 }

  at_row : filled_at (set table row new) row ≡ new
  at_row = get_or-set_same table row new none (omega (arith, sound.eight))

  at_other : (r : ℕ) → (r ≡ row → ⊥) → filled_at (set table row new) r ≡ filled_at table r
  at_other r ne = get_or-set_other table row r new none ne

  row_new : bits_of (words_at L vs row) new.bits ≡ bs
  row_new = said L (words_at L vs row) bs new.bits now.fit long (omega arith)

  pub kept_after : Kept L vs (set table row new)
  kept_after r h = ⊎_elim
      (λ (e : r ≡ row). rw (e, at_row, row_new) now.fit)
      (λ (ne : r ≡ row → ⊥). rw (at_other r ne, now.others r h ne) (sound.ok r h))
      (cases_eq r row)

  pub sound_after : Sound room vs (set table row new)
  sound_after = record {
    few = sound.few;
    narrow = sound.narrow;
    enough = rw now.same sound.enough;
    eight = length-set table row new ∙ sound.eight;
    within = λ r. ⊎_elim (λ (e : r ≡ row). rw (e, at_row) (fits, few)) (λ (ne : r ≡ row → ⊥). rw (at_other r ne) (sound.within r)) (cases_eq r row);
    ok = kept_after;
  }

  pub rows_after : plain_rows L vs (set table row new) ≡ set (plain_rows L ws table) row (record { bits = bs; puts = new.puts })
  rows_after =
      let old = plain_rows L ws table in
      let made : Row = record { bits = bs; puts = new.puts } in
      ext_get_or empty _ _ (length-rows L vs (set table row new) ∙ sym (length-set old row made ∙ length-rows L ws table)) (λ r h.
      let low : r < 8 = omega (arith, length-rows L vs (set table row new)) in
      row_is L vs (set table row new) r low ∙ ⊎_elim
      (λ (e : r ≡ row).
      let l : row < length old = omega (arith, length-rows L ws table) in
      rw (e, at_row, row_new, get_or-set_same old row made empty l))
      (λ (ne : r ≡ row → ⊥). rw (at_other r ne, now.others r low ne, get_or-set_other old row r made empty ne, row_is L ws table r low))
      (cases_eq r row))
