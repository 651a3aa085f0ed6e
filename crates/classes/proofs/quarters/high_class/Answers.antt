use Rattle.std.specs.Prelude.{◌≡◌, ◌+◌, ◌-◌, ◌*◌, ◌/◌, ◌^◌, ◌≤◌}
use Rattle.std.proofs.Common.{arith}
use Rattle.classes.specs.Plan.{class_of}
use Rattle.classes.specs.Quarters.{quarters}
use Rattle.classes.proofs.QuartersBlocks.{quarters_high_class}
use Rattle.classes.proofs.quarters.high_class.Goals as goal

by_top : (c : goal.After-ilog2-top) → (6 ≤ c.ilog2-top.result) × (4 * (c.ilog2-top.result - 6) + (c.args.bytes - 1) / 2 ^ (c.ilog2-top.result - 2) ≡ class_of quarters c.args.bytes)
by_top c =
    let e = c.ilog2-top.ensures in
    let q = quarters_high_class c.args.bytes c.ilog2-top.result c.requires.above c.requires.small e.power_le e.next_power_gt in
    (q.0, q.2)

pub overflow_sub-result : goal.overflow_sub-result
overflow_sub-result c = (by_top c).0

pub overflow_sub-result-2 : goal.overflow_sub-result-2
overflow_sub-result-2 c = omega (arith, by_top c)

pub returns : goal.returns
returns c = (by_top c).1
