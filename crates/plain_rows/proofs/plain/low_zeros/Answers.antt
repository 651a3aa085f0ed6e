use Rattle.std.proofs.Common.{ℕ, ◌-◌, ◌%◌, ◌^◌, ap, ◌∙◌}
use Rattle.std.specs.Int.Bits.{bit_and}
use Rattle.std.specs.Int.Count.{ones}
use Rattle.std.proofs.lemmas.Nat.{and_mask, mod_below, ones-le, pow_pos}
use Rattle.plain_rows.proofs.plain.low_zeros.Goals as goal

pub overflow_sub-result : goal.overflow_sub-result
overflow_sub-result c =
    let k = c.args.k in
    rw (c.low_ones.ensures, and_mask c.args.word k) (ones-le k (c.args.word % 2 ^ k) (mod_below c.args.word (2 ^ k) (pow_pos k)))

pub returns : goal.returns
returns c =
    ap (λ (m : ℕ). c.args.k - ones (bit_and c.args.word m)) c.low_ones.ensures ∙ ap (λ (n : ℕ). c.args.k - ones n) (and_mask c.args.word c.args.k)
