-- The output of a run is one text for each line, in their order.
use Rattle.std.proofs.Common.{◌≡◌, ℕ, zero, suc, ◌+◌, ◌<◌, ◌≤◌, List, [], ◌∷◌, ◌++◌, length, get_or, IfOk, Ok, Err, string_bytes, Result, String, sym, refl, ap, ◌∙◌, subst, arith}
use Rattle.std.specs.List.{flat_map}
use Rattle.std.specs.declared.alloc.Global.{Global}
use Rattle.std.proofs.lemmas.Bool.{le-ltb}
use Rattle.classes.specs.Sixteens.{sixteens}
use Rattle.profile.specs.History.{History, Setting, fresh}
use Rattle.profile.specs.Stands.{setting}
use Rattle.lines.specs.Answering.{answered, after_line, reply_line, replies, run_of, transcript_of, before, InOrder}
use Rattle.lines.specs.Lines.{lines_of}
use Rattle.lines.specs.Reading.{reads}
use Rattle.lines.specs.Showing.{MadeOrNoMemory}
use Rattle.lines.specs.declared.error.TextError.{TextError}

-- the texts from a place on
abbrev texts_of : Setting → History → ℕ → List (List ℕ) → List (List ℕ)
texts_of s h place [] = []
texts_of s h place (l ∷ ls) = reply_line place (answered s h (reads l)) ∷ texts_of s (after_line s h (reads l)) (place + 1) ls

texts_long : (s : Setting) (h : History) (place : ℕ) (ls : List (List ℕ)) → length (texts_of s h place ls) ≡ length ls
texts_long s h place [] = refl
texts_long s h place (l ∷ ls) = ap suc (texts_long s (after_line s h (reads l)) (place + 1) ls)

texts_joined : (s : Setting) (h : History) (place : ℕ) (ls : List (List ℕ)) → replies s h place ls ≡ flat_map (λ x. x) (texts_of s h place ls)
texts_joined s h place [] = refl
texts_joined s h place (l ∷ ls) = ap (λ rest. reply_line place (answered s h (reads l)) ++ rest) (texts_joined s (after_line s h (reads l)) (place + 1) ls)

text_at : (s : Setting) (h : History) (place : ℕ) (ls : List (List ℕ)) (t : ℕ) → t < length ls →
    get_or (texts_of s h place ls) t [] ≡ reply_line (t + place) (answered s (before s h ls t) (reads (get_or ls t [])))
text_at s h place [] t within = absurd (omega arith)
text_at s h place (l ∷ ls) zero within = ap (λ n. reply_line n (answered s h (reads l))) (omega arith)
text_at s h place (l ∷ ls) (suc t) within =
    let h' = after_line s h (reads l) in
    text_at s h' (place + 1) ls t (omega arith)
    ∙ ap (λ n. reply_line n (answered s (before s h' ls t) (reads (get_or ls t [])))) (omega arith)

run_in_order : (input : List ℕ) → InOrder (setting sixteens) (lines_of input) (run_of input)
run_in_order input = record {
  texts = texts_of (setting sixteens) fresh 1 (lines_of input);
  long = texts_long (setting sixteens) fresh 1 (lines_of input);
  each = text_at (setting sixteens) fresh 1 (lines_of input);
  whole = texts_joined (setting sixteens) fresh 1 (lines_of input);
}

-- the same of the text that was made
pub in_order : (input : List ℕ) (r : Result (String Global) TextError) → MadeOrNoMemory r (λ t. string_bytes t ≡ transcript_of input) →
    IfOk r (λ t. length input ≤ 32768 → InOrder (setting sixteens) (lines_of input) (string_bytes t))
in_order input (Err e) is = tt
in_order input (Ok t) is = λ short.
    let ran : transcript_of input ≡ run_of input = rw (le-ltb 32768 (length input) short, transcript_of) refl in
    subst (InOrder (setting sixteens) (lines_of input)) (sym (is ∙ ran)) (run_in_order input)
