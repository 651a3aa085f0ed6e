use Rattle.std.proofs.Common.{◌≡◌, ◌+◌, ◌∷◌, eqb, length, ap, append_assoc, length-append, arith, rules}
use Rattle.std.proofs.lemmas.List.Sorted.{answers_always}
use Rattle.classes.specs.Sixteens.{sixteens}
use Rattle.profile.specs.Stands.{setting}
use Rattle.lines.specs.Answering.{after_line}
use Rattle.lines.specs.Lines.{lines_of}
use Rattle.lines.specs.Reading.{reads}
use Rattle.lines.proofs.Cutting.{next_line}
use Rattle.lines.proofs.whole.run.Goals as goal

pub loop-place-preserved : goal.loop-place-preserved
loop-place-preserved c =
    let inv = c.loop-place.invariant in
    let h = inv.1.0 in
    let steps = c.in-Some.ensures.steps in
    let cut = steps.1 in
    let line = c.without_end.result.now in
    let first = (cut.1.2 (λ b. eqb b 10) (answers_always _ _ _ (λ f a r f' called. search rules))).1 in
    let lines : lines_of c.loop-place.place-iterator.b.rest.now ≡ line ∷ lines_of c.next.new.self.b.rest.now =
    next_line _ _ _ line cut.1.0 cut.0 cut.1.1 first cut.2 c.without_end.ensures.ended c.without_end.ensures.endless in
    let place : c.in-Some.place ≡ c.loop-place.place-iterator.a.start = omega (arith, steps.0) in
    let next : c.next.new.self.a.start ≡ c.loop-place.place-iterator.a.start + 1 = omega (arith, steps.0) in
    let replied = c.in_ok-reply.ensures in (
      omega (arith, inv.0, steps.0, cut.2, cut.1.1, ap length cut.0, length-append c.in-Some.bytes.now c.next.new.self.b.rest.now),
      (
        after_line (setting sixteens) h (reads line),
        replied.stands h inv.1.1,
        rw (next, replied.text h inv.1.1, place, append_assoc) (rw lines at inv.1.2),
      ),
    )
