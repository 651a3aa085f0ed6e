use Rattle.std.proofs.Common.{◌≡◌, ◌-◌, ◌+◌, arith}
use Rattle.plain_rows.proofs.PlainExtends.{length_in, grown_more}
use Rattle.plain_rows.proofs.plain.Table.append.Goals as goal

pub extend-requires-clause-inside : goal.extend-requires-clause-inside
extend-requires-clause-inside c =
    omega (arith, length_in c.loop-left.self c.loop-left.words c.args.row.index c.args.row.low, c.min-more.ensures)

pub loop-left-preserved : goal.loop-left-preserved
loop-left-preserved c =
    let l = c.loop-left in
    let more = c.min-more.result in
    let s = c.args.self.now in
    let row = c.args.row in
    let n : c.args.count - l.left + more ≡ c.args.count - (l.left - more) = omega (arith, l.invariant.0, c.min-more.ensures) in
    (omega (arith, l.invariant.0), rw (← n) (grown_more row.index c.args.bit (c.args.count - l.left) s c.args.words.now l.self l.words row.low l.invariant.1 more c.extend.new.self c.extend.new.words c.extend.ensures))
