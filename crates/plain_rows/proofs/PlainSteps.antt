-- What the writes of `write_run` make of a row's words.
use Rattle.std.proofs.Common.{◌≡◌, ℕ, ◌+◌, ◌-◌, ◌*◌, ◌/◌, ◌%◌, ◌^◌, ◌<◌, ◌≤◌, Bool, cond, not, List, ◌++◌, length, get_or, take, set, replicate, sym, refl, ap, ◌∙◌, arith}
use Rattle.std.specs.Int.Bits.{bit_or}
use Rattle.std.specs.Int.Count.{ones}
use Rattle.std.proofs.lemmas.Nat.{or_comm, or_shifted}
use Rattle.std.proofs.lemmas.List.{get_or-set_same, get_or-set_other, length-set, length-replicate, length-take}
use Rattle.std.proofs.lemmas.List.Sums.{count_by-le-length}
use Rattle.plain_rows.specs.PlainWords.{value, word, zeros_before}
use Rattle.plain_rows.specs.PlainTable.{IsRow}
use Rattle.plain_rows.proofs.PlainValues.{value_run, word_low, word_here, word_lt, ones_rest, before_is, Halves, halves, whole, grows}

pub before_le : (bs : List Bool) (m : ℕ) → 64 * m ≤ length bs → zeros_before bs m ≤ length bs
before_le bs m h = omega (arith, before_is bs m h, count_by-le-length not (take (64 * m) bs), length-take (64 * m) bs)

module _ (L : ℕ) (ws A B : List ℕ) (bs : List Bool) (size : ℕ) (bit : Bool) (count r : ℕ) (fit : IsRow L bs ws) (parts : ws ≡ A ++ B) (front : length A ≡ L) (back : L ≤ length B)
    (long : length bs ≡ size) (some : 0 < count) (room : size % 64 + count ≤ 64) (fits : size + count ≤ 64 * L) (run : r ≡ cond bit (2 ^ count - 1) 0 * 2 ^ (size % 64)) where
  abbrev xs : List Bool
  xs = replicate count bit

  abbrev m : ℕ
  m = size / 64

  abbrev x : ℕ
  x = bit_or (get_or A m 0) r

  two : Halves L bs A B
  two = halves L bs ws A B fit parts front

  more : length xs ≡ count
  more = length-replicate count bit

  word_is : get_or A m 0 ≡ word bs m
  word_is = two.words m (omega arith)

  x_is : x ≡ get_or A m 0 + value xs * 2 ^ (size % 64)
  x_is =
      let w : get_or A m 0 < 2 ^ (size % 64) = rw word_is (word_low bs xs size count long more room) in
      or_comm (get_or A m 0) r ∙ ap (λ (t : ℕ). bit_or t (get_or A m 0)) (run ∙ ap (λ (n : ℕ). n * 2 ^ (size % 64)) (sym (value_run bit count)))
      ∙ or_shifted (value xs) (size % 64) (get_or A m 0) w ∙ omega arith

  x_low : x < 2 ^ 64
  x_low = omega (arith, x_is, word_is, word_here bs xs size count long more room, word_lt (bs ++ xs) m)

  at_m : get_or (set A m x) m 0 ≡ x
  at_m = get_or-set_same A m x 0 (omega arith)

  -- where the word is not full then, or is the last
  pub word_only : ((size + count) % 64 ≡ 0 → (size + count) / 64 < L → ⊥) → IsRow L (bs ++ xs) (set A m x ++ B)
  word_only never =
      whole L (bs ++ xs) (set A m x) B
      (grows L A B (set A m x) B bs xs size count long more room fits some two (at_m ∙ x_is) (λ i ne. get_or-set_other A m i x 0 ne)
      (λ a b. absurd (never (omega arith) (omega arith))) (λ j h none. refl))
      (length-set A m x ∙ front)

  pub count_small : get_or B m 0 ≤ size
  count_small = omega (arith, two.counts m (omega arith), before_le bs m (omega (arith, long)), long)

  pub word_and_count : (size + count) % 64 ≡ 0 → (size + count) / 64 < L → (z : ℕ) → z ≡ ones (2 ^ 64 - 1 - get_or (set A m x) m 0) →
      IsRow L (bs ++ xs) (set A m x ++ set B ((size + count) / 64) (get_or B m 0 + z))
  word_and_count full next z z_is =
      let to = (size + count) / 64 in
      let y = get_or B m 0 + z in
      let there : get_or (set B to y) (m + 1) 0 ≡ get_or B m 0 + (64 - ones (get_or (set A m x) m 0)) =
      let e : m + 1 ≡ to = omega arith in
      ap (λ (n : ℕ). get_or (set B to y) n 0) e ∙ get_or-set_same B to y 0 (omega arith) ∙ omega (arith, z_is, ones_rest 64 (get_or (set A m x) m 0) (rw at_m x_low)) in
      whole L (bs ++ xs) (set A m x) (set B to y)
      (grows L A B (set A m x) (set B to y) bs xs size count long more room fits some two (at_m ∙ x_is) (λ i ne. get_or-set_other A m i x 0 ne)
      (λ _ _. there) (λ j h none. get_or-set_other B to j y 0 (λ e. none (omega arith) (omega arith))))
      (length-set A m x ∙ front)
