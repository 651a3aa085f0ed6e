-- The zeros before a position, from a count and a word.
use Rattle.std.proofs.Common.{◌≡◌, ℕ, ◌+◌, ◌-◌, ◌/◌, ◌%◌, ◌^◌, ◌<◌, ◌≤◌, Bool, List, length, get_or, take, ap, mod-lt, arith, pow_pos}
use Rattle.std.specs.Int.Count.{ones, ones-le}
use Rattle.rows.specs.Meaning.{row_at, zeros_in}
use Rattle.plain_rows.specs.declared.plain.Table.{Table}
use Rattle.plain_rows.specs.PlainWords.{bit_words, word}
use Rattle.plain_rows.specs.PlainTable.{Good, rows_of}
use Rattle.plain_rows.proofs.PlainExtends.{length_in}
use Rattle.plain_rows.proofs.PlainValues.{Halves, zeros_from}

module _ (s : Table) (ws : List ℕ) (row p : ℕ) (good : Good s ws) (low : row < 8) (in_row : p < length (row_at (rows_of s ws) row).bits) where
  abbrev bs : List Bool
  bs = (row_at (rows_of s ws) row).bits

  short : length bs ≤ s.room.bits
  short = omega (arith, length_in s ws row low, (good.within row).0)

  pub place : p / 64 < bit_words s.room.bits
  place = omega (arith, short)

  -- A and B are the words of its bits, and its counts
  module _ (A B : List ℕ) (two : Halves (bit_words s.room.bits) bs A B) where
    pub zeros_found : get_or B (p / 64) 0 + (p % 64 + 1 - ones (get_or A (p / 64) 0 % 2 ^ (p % 64 + 1))) ≡ zeros_in (take (p + 1) bs)
    zeros_found =
        let k = p % 64 + 1 in
        let a : ones (get_or A (p / 64) 0 % 2 ^ k) ≡ ones (word bs (p / 64) % 2 ^ k) = ap (λ (n : ℕ). ones (n % 2 ^ k)) (two.words (p / 64) place) in
        let d : ones (word bs (p / 64) % 2 ^ k) ≤ k = ones-le k (word bs (p / 64) % 2 ^ k) (mod-lt (word bs (p / 64)) (pow_pos k)) in
        omega (arith, zeros_from bs (p / 64) k (p + 1) (omega arith) (omega arith) (omega arith), two.counts (p / 64) place, a, d)
