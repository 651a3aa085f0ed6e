use Rattle.run_rows.proofs.RunMade.{sound_wiped}
use Rattle.run_rows.proofs.runs.Table.over.Goals as goal

pub returns-clause-good : goal.returns-clause-good
returns-clause-good c =
    let e = c.empty.ensures in
    rw (e.room, e.words, e.taken) (sound_wiped c.args.room c.args.words.now c.requires.few c.requires.narrow c.requires.enough)
