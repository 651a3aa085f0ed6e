-- What the reply to one line does to the profile and to the text written so far, and how a run ends.
use Rattle.std.specs.Prelude.{◌≡◌, ℕ, List, ◌++◌, length, Ok, Err, string_bytes, Result, String}
use Rattle.std.specs.declared.alloc.Global.{Global}
use Rattle.profile.specs.declared.profile.Profile.{Profile}
use Rattle.profile.specs.History.{History}
use Rattle.profile.specs.Stands.{setting_of, Stands}
use Rattle.lines.specs.Answering.{answered, after_line, reply_line, input_answer, run_of}
use Rattle.lines.specs.Reading.{reads}
use Rattle.lines.specs.Showing.{MadeOrNoMemory}
use Rattle.lines.specs.declared.error.TextError.{TextError}
use Rattle.lines.specs.declared.error.TextError.TheVariants.{Refused, NoMemory}

pub record Replied {P : Type 0} (blocks : P → List ℕ) (p q : Profile P) (place : ℕ) (line out written : List ℕ) (r : Result (Unit {0}) TextError) : Type 0 where
  pub plan : q.plan ≡ p.plan
  pub stands : (h : History) → Stands (setting_of blocks p) h p → Stands (setting_of blocks p) (after_line (setting_of blocks p) h (reads line)) q
  pub text : (h : History) → Stands (setting_of blocks p) h p →
      MadeOrNoMemory r (λ _. written ≡ out ++ reply_line place (answered (setting_of blocks p) h (reads line)))

-- an input that was run, with its text, and why one was not
pub record Ran (input : List ℕ) (out : String Global) : Type 0 where
  pub within : input_answer (length input) ≡ Ok tt
  pub text : string_bytes out ≡ run_of input

abbrev pub Stopped : List ℕ → TextError → Type 0
Stopped input NoMemory = Unit {0}
Stopped input (Refused e) = input_answer (length input) ≡ Err e
