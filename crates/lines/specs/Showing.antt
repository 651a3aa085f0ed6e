-- The line that shows an answer or a refusal, with its end, and the text of an error.
use Rattle.std.specs.Prelude.{◌≡◌, ℕ, List, [], ◌∷◌, ◌++◌, codes, decimal, Result, MatchResult}
use Rattle.classes.specs.Refusals.{refused_text}
use Rattle.lines.specs.Refusals.{line_refusal_number}
use Rattle.lines.specs.declared.refusal.LineRefusal.{LineRefusal}
use Rattle.lines.specs.declared.error.TextError.{TextError}
use Rattle.lines.specs.declared.error.TextError.TheVariants.{Refused, NoMemory}
use Rattle.lines.specs.declared.call.Answer.{Answer}
use Rattle.lines.specs.declared.call.Answer.TheVariants.{Noted}

-- a space and the decimal digits of each number, and a line end
abbrev pub numbers_end : List ℕ → List ℕ
numbers_end [] = 10 ∷ []
numbers_end (n ∷ ns) = 32 ∷ (decimal n ++ numbers_end ns)

-- a letter, the numbers, and a line end
abbrev pub shown_line : ℕ → List ℕ → List ℕ
shown_line letter ns = letter ∷ numbers_end ns

abbrev pub answer_line : Answer → List ℕ
answer_line (Noted n) = shown_line 110 (n ∷ [])

-- an exclamation mark, the place of the line and the number of the refusal
abbrev pub refusal_line : ℕ → ℕ → List ℕ
refusal_line place number = shown_line 33 (place ∷ number ∷ [])

abbrev pub refusal_text : LineRefusal → List ℕ
refusal_text e = refused_text (line_refusal_number e)

abbrev pub error_text : TextError → List ℕ
error_text (Refused e) = refusal_text e
error_text NoMemory = codes "out of memory"

-- P of what was made, or memory did not suffice
abbrev pub MadeOrNoMemory : {A : Type 0} → Result A TextError → (A → Type 0) → Type 0
MadeOrNoMemory r P = MatchResult r P (λ e. e ≡ NoMemory)
