use Rattle.std.proofs.Common.{arith}
use Rattle.plain_rows.proofs.PlainPushes.{few, good_put, rows_put, words_put}
use Rattle.plain_rows.proofs.plain.PlainRows.push.Goals as goal

pub count-requires : goal.count-requires
count-requires c =
    omega (arith, c.append.ensures.good.few, few c.args.self.now.table c.args.self.now.words.now c.args.row.index c.args.bit c.args.count c.args.row.low c.requires c.append.new.self c.append.new.words c.append.ensures)

pub invariant_of-self : goal.invariant_of-self
invariant_of-self c =
    let s = c.args.self.now in
    let e = c.count.ensures in
    record { good = rw (e.room, e.rows) (good_put s.table s.words.now c.args.row.index c.args.bit c.args.count c.args.row.low c.requires c.append.new.self c.append.new.words c.append.ensures) }

pub returns-clause-rows : goal.returns-clause-rows
returns-clause-rows c =
    let s = c.args.self.now in
    let e = c.count.ensures in
    rw (e.room, e.rows) (rows_put s.table s.words.now c.args.row.index c.args.bit c.args.count c.args.row.low c.requires c.append.new.self c.append.new.words c.append.ensures)

pub returns-clause-words : goal.returns-clause-words
returns-clause-words c =
    words_put c.args.self.now.table c.args.self.now.words.now c.args.row.index c.args.bit c.args.count c.args.row.low c.requires c.append.new.self c.append.new.words c.append.ensures
