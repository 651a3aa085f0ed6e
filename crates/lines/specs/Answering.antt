-- What a whole input is answered with.
use Rattle.std.specs.Prelude.{◌≡◌, ℕ, zero, suc, ◌+◌, ◌<◌, cond, List, [], ◌∷◌, ◌++◌, length, Ok, Err, Result, nat_lt, slice_index_or}
use Rattle.std.specs.List.{flat_map}
use Rattle.std.specs.Result.{result_map_both}
use Rattle.classes.specs.Sixteens.{sixteens}
use Rattle.profile.specs.History.{History, Setting, fresh}
use Rattle.profile.specs.Noting.{note_answer, after_note}
use Rattle.profile.specs.Stands.{setting}
use Rattle.lines.specs.Lines.{lines_of}
use Rattle.lines.specs.Reading.{reads}
use Rattle.lines.specs.Refusals.{line_refusal_number}
use Rattle.lines.specs.Showing.{answer_line, refusal_line}
use Rattle.lines.specs.declared.call.Call.{Call}
use Rattle.lines.specs.declared.call.Call.TheVariants.{Note}
use Rattle.lines.specs.declared.call.Answer.{Answer}
use Rattle.lines.specs.declared.call.Answer.TheVariants.{Noted}
use Rattle.lines.specs.declared.refusal.LineRefusal.{LineRefusal}
use Rattle.lines.specs.declared.refusal.LineRefusal.TheVariants.{Profile, InputTooLong}

-- what a line that was read so answers, and the history that it leaves
abbrev pub answered : Setting → History → Result Call LineRefusal → Result Answer LineRefusal
answered s h (Ok (Note b c)) = result_map_both Noted Profile (note_answer s h b c)
answered s h (Err e) = Err e

abbrev pub after_line : Setting → History → Result Call LineRefusal → History
after_line s h (Ok (Note b c)) = after_note s h b c
after_line s h (Err e) = h

-- the text of an answer to the line at a place
abbrev pub reply_line : ℕ → Result Answer LineRefusal → List ℕ
reply_line place (Ok a) = answer_line a
reply_line place (Err e) = refusal_line place (line_refusal_number e)

-- the lines from a place on, at a history
abbrev pub replies : Setting → History → ℕ → List (List ℕ) → List ℕ
replies s h place [] = []
replies s h place (l ∷ ls) = reply_line place (answered s h (reads l)) ++ replies s (after_line s h (reads l)) (place + 1) ls

-- input above 32,768 bytes is not run
abbrev pub input_answer : ℕ → Result (Unit {0}) LineRefusal
input_answer long = cond (nat_lt 32768 long) (Err InputTooLong) (Ok tt)

-- what a new profile over the plan of sixteens answers to the lines of an input
abbrev pub run_of : List ℕ → List ℕ
run_of input = replies (setting sixteens) fresh 1 (lines_of input)

-- the whole output
abbrev pub transcript_of : List ℕ → List ℕ
transcript_of input = elim (input_answer (length input)) [ Ok _ ↦ run_of input | Err e ↦ refusal_line 0 (line_refusal_number e) ]

-- the law of `run_of`: the text of each line's answer, one after the other

-- the history of the lines before the place t, counted from 0
abbrev pub before : Setting → History → List (List ℕ) → ℕ → History
before s h [] t = h
before s h (l ∷ ls) zero = h
before s h (l ∷ ls) (suc t) = before s (after_line s h (reads l)) ls t

-- the output is one text for each line, in their order: what the line is answered with at the history of the lines before it
pub record InOrder (s : Setting) (ls : List (List ℕ)) (out : List ℕ) : Type 0 where
  pub texts : List (List ℕ)
  pub long : length texts ≡ length ls
  pub each : (t : ℕ) → t < length ls → slice_index_or texts t [] ≡ reply_line (t + 1) (answered s (before s fresh ls t) (reads (slice_index_or ls t [])))
  pub whole : out ≡ flat_map (λ x. x) texts
