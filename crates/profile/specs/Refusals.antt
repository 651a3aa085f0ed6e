-- The number of each refusal of a profile.
use Rattle.std.specs.Prelude.{ℕ}
use Rattle.classes.specs.Refusals.{class_refusal_number}
use Rattle.profile.specs.declared.refusal.Refusal.{Refusal}
use Rattle.profile.specs.declared.refusal.Refusal.TheVariants.{Class, CountOutOfRange, RecordsFull, TotalTooLarge}

abbrev pub refusal_number : Refusal → ℕ
refusal_number (Class e) = class_refusal_number e
refusal_number CountOutOfRange = 31
refusal_number RecordsFull = 32
refusal_number TotalTooLarge = 33
