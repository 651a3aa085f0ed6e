-- The number of each refusal of the line program.
use Rattle.std.specs.Prelude.{ℕ}
use Rattle.profile.specs.Refusals.{refusal_number}
use Rattle.lines.specs.declared.refusal.LineRefusal.{LineRefusal}
use Rattle.lines.specs.declared.refusal.LineRefusal.TheVariants.{Profile, Unreadable, InputTooLong}

abbrev pub line_refusal_number : LineRefusal → ℕ
line_refusal_number (Profile e) = refusal_number e
line_refusal_number Unreadable = 51
line_refusal_number InputTooLong = 52
