use Rattle.std.proofs.Common.{◌-◌, ◌≤◌}
use Rattle.plain_rows.specs.PlainTable.{Grown}
use Rattle.plain_rows.proofs.plain.Table.append.Given as goal

abbrev pub invariant-loop-left : goal.invariant-loop-left
invariant-loop-left l = (l.left ≤ l.count) × Grown l.row.index l.bit (l.count - l.left) l.initial.self l.initial.words l.self l.words

abbrev pub decreases-loop-left : goal.decreases-loop-left
decreases-loop-left l = l.left
