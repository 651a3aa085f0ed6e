-- Which line writes which call: the law of reading.
use Rattle.std.specs.Prelude.{◌≡◌, ℕ, ◌≤◌, List, [], ◌∷◌, ◌++◌, length, Result, MatchResult}
use Rattle.std.specs.Str.Parse.{digits_value, AllDigits}
use Rattle.lines.specs.declared.call.Call.{Call}
use Rattle.lines.specs.declared.call.Call.TheVariants.{Note}
use Rattle.lines.specs.declared.refusal.LineRefusal.{LineRefusal}
use Rattle.lines.specs.declared.refusal.LineRefusal.TheVariants.{Unreadable}

-- ds are one to nine decimal digits, and write x
pub record Writes (ds : List ℕ) (x : ℕ) : Type 0 where
  pub some : 1 ≤ length ds
  pub short : length ds ≤ 9
  pub digits : AllDigits 10 ds
  pub worth : digits_value 10 ds ≡ x

-- text is one space and the digits of each number, and nothing else
abbrev pub Spelt : List ℕ → List ℕ → Type 0
Spelt [] text = text ≡ []
Spelt (x ∷ xs) text = (ds : List ℕ) × (rest : List ℕ) × Writes ds x × (text ≡ 32 ∷ (ds ++ rest)) × Spelt xs rest

-- the byte of the call's letter, and its numbers
abbrev pub letter : Call → ℕ
letter (Note b c) = 110

abbrev pub numbers : Call → List ℕ
numbers (Note b c) = b ∷ c ∷ []

-- the line is the call's letter and its numbers
abbrev pub Written : List ℕ → Call → Type 0
Written line x = (rest : List ℕ) × (line ≡ letter x ∷ rest) × Spelt (numbers x) rest

-- r is the one call that the line writes, or says that it writes none
abbrev pub WrittenBy : List ℕ → Result Call LineRefusal → Type 0
WrittenBy line r =
    MatchResult r (λ x. Written line x × ((y : Call) → Written line y → y ≡ x)) (λ e. (e ≡ Unreadable) × ((x : Call) → Written line x → ⊥))
