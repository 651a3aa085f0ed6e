use Rattle.run_rows.proofs.RunMade.{sound_wiped}
use Rattle.run_rows.proofs.runs.RunRowsBitRows.clear.Goals as goal

pub invariant_of-self : goal.invariant_of-self
invariant_of-self c =
    let s = c.args.self.now in
    let e = c.empty.ensures in
    record { good = rw (e.room, e.words, e.taken) (sound_wiped s.table.room s.words.now s.good.few s.good.narrow s.good.enough) }
