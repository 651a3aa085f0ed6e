use Rattle.lines.proofs.Cutting.{cut_into}
use Rattle.lines.proofs.Orders.{in_order}
use Rattle.lines.proofs.whole.transcript.Goals as goal

pub returns-clause-order : goal.returns-clause-order
returns-clause-order c = in_order c.args.input.now c.text_of.result c.text_of.ensures

pub returns-clause-lines : goal.returns-clause-lines
returns-clause-lines c = cut_into c.args.input.now
