use Rattle.plain_rows.proofs.PlainMade.{rows_none, sound_none}
use Rattle.plain_rows.proofs.plain.PlainRowsBitRows.clear.Goals as goal

pub invariant_of-self : goal.invariant_of-self
invariant_of-self c =
    let s = c.args.self.now in
    let e = c.empty.ensures in
    record { good = rw (e.room, e.words, e.rows) (sound_none s.table.room s.words.now s.good.few s.good.narrow s.good.enough) }

pub returns-clause-rows : goal.returns-clause-rows
returns-clause-rows c = rw c.empty.ensures.rows (rows_none _ _)
