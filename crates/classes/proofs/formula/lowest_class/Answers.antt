use Rattle.std.specs.Prelude.{◌≡◌, Ok}
use Rattle.std.proofs.Common.{rules, sym, subst}
use Rattle.classes.specs.Plan.{Classed, class_answer}
use Rattle.classes.proofs.Plans.{classed}
use Rattle.classes.proofs.formula.lowest_class.Goals as goal

pub returns-clause-lowest : goal.returns-clause-lowest
returns-clause-lowest g c =
    let is : Ok c.class.result ≡ class_answer g.F.Formula.listed c.args.bytes = search rules in
    subst (Classed g.F.Formula.listed c.args.bytes) (sym is) (classed g.F.Formula.listed g.met.F.Formula.plan c.args.bytes)
