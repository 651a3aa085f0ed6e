use Rattle.lines.proofs.Writings.{written_by}
use Rattle.lines.proofs.reading.read.Goals as goal

pub returns-clause-written : goal.returns-clause-written
returns-clause-written c = rw c.by_letter.ensures (written_by c.args.line.now)
