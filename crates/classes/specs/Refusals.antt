-- The number of each refusal of a plan, and its text.
use Rattle.std.specs.Prelude.{ℕ, List, ◌++◌, codes, decimal}
use Rattle.classes.specs.declared.refusal.ClassRefusal.{ClassRefusal}
use Rattle.classes.specs.declared.refusal.ClassRefusal.TheVariants.{ZeroRequest, AboveLargest, NoSuchClass}

abbrev pub class_refusal_number : ClassRefusal → ℕ
class_refusal_number ZeroRequest = 11
class_refusal_number AboveLargest = 12
class_refusal_number NoSuchClass = 13

-- the text of a refusal of this number
abbrev pub refused_text : ℕ → List ℕ
refused_text number = codes "refused " ++ decimal number

abbrev pub class_refusal_text : ClassRefusal → List ℕ
class_refusal_text e = refused_text (class_refusal_number e)
