use Rattle.std.proofs.Common.{◌≡◌, ℕ, ◌-◌, ◌^◌, ap, ◌∙◌, arith}
use Rattle.std.proofs.lemmas.Nat.Bits.{ones_shr}
use Rattle.plain_rows.proofs.plain.low_ones.Goals as goal

pub returns : goal.returns
returns c =
    let e : 64 - (64 - c.args.k) ≡ c.args.k = omega (arith, c.requires.1) in
    ones_shr 64 (64 - c.args.k) (omega arith) ∙ ap (λ (n : ℕ). 2 ^ n - 1) e
