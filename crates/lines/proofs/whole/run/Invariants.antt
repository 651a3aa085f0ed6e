use Rattle.std.proofs.Common.{◌≡◌, ◌+◌, ◌≤◌, ◌++◌, length, string_bytes}
use Rattle.classes.specs.Sixteens.{sixteens}
use Rattle.profile.specs.History.{History}
use Rattle.profile.specs.Stands.{setting, Stands}
use Rattle.lines.specs.Answering.{replies, run_of}
use Rattle.lines.specs.Lines.{lines_of}
use Rattle.lines.proofs.whole.run.Given as goal

-- at some history the profile stands, and what is written with what is left to answer is the whole text
abbrev pub invariant-loop-place : goal.invariant-loop-place
invariant-loop-place l =
    let place = l.place-iterator.a.start in
    let rest = l.place-iterator.b.rest.now in
    (place + length rest ≤ 32769)
    × ((h : History) × Stands (setting sixteens) h l.profile × (string_bytes l.out ++ replies (setting sixteens) h place (lines_of rest) ≡ run_of l.input))
