use Rattle.std.proofs.Common.{◌-◌, ◌^◌, arith}
use Rattle.std.proofs.Math.Pow.{ones_lt}
use Rattle.std.proofs.lemmas.Nat.{shl_whole}
use Rattle.plain_rows.proofs.plain.run_at.Goals as goal

pub returns-then-bit : goal.returns-then-bit
returns-then-bit c =
    rw (c.if-bit.true, c.low_ones.ensures) (shl_whole (2 ^ c.args.count - 1) c.args.count c.args.k 64 (ones_lt c.args.count) (omega (arith, c.requires.1)))
