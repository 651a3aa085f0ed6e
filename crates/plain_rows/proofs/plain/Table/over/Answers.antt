use Rattle.plain_rows.proofs.PlainMade.{rows_none, sound_none}
use Rattle.plain_rows.proofs.plain.Table.over.Goals as goal

pub returns-clause-good : goal.returns-clause-good
returns-clause-good c =
    let e = c.empty.ensures in
    rw (e.room, e.words, e.rows) (sound_none c.args.room c.args.words.now c.requires.few c.requires.narrow c.requires.enough)

pub returns-clause-rows : goal.returns-clause-rows
returns-clause-rows c = rw c.empty.ensures.rows (rows_none _ _)
