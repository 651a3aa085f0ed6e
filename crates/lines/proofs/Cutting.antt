-- A text is cut into lines.
use Rattle.std.specs.List.{IsFirstMatchOrLen}
use Rattle.std.proofs.Common.{append_assoc, min, ◌-◌, length-drop, append-nil, length-append, length-take, get_or-take, ◌≡◌, ℕ, ◌+◌, ◌<◌, ◌≤◌, eqb, List, [], ◌∷◌, ◌++◌, length, get_or, take, drop, sym, refl, ap, ◌∙◌, inl, inr, arith}
use Rattle.std.proofs.lemmas.List.{drop_more, take_at, take_more, take_all, nil_from_length}
use Rattle.std.proofs.lemmas.List.Elements.{recursion_from_All, All-from_recursion}
use Rattle.std.proofs.lemmas.Grind.{common_steps}
use Rattle.std.proofs.lemmas.Bool.Decides.{nat_tests}
use Rattle.std.proofs.lemmas.Bool.{cases_lt, cond_both, eqb-true, eqb-false}
use Rattle.lines.specs.Lines.{onto_first, lines_of, Endless, Lines, CutInto}

pub cut : (xs ys : List ℕ) → Endless xs → lines_of (xs ++ (10 ∷ ys)) ≡ xs ∷ lines_of ys
cut [] ys h = refl
cut (x ∷ xs) ys h = grind (arith, nat_tests, cut xs ys h.1)

pub last_line : (x : ℕ) (xs : List ℕ) → Endless (x ∷ xs) → lines_of (x ∷ xs) ≡ (x ∷ xs) ∷ []
last_line x [] h = grind (arith, nat_tests)
last_line x (y ∷ ys) h = grind (arith, nat_tests, last_line y ys h.1)

pub only_line : (xs : List ℕ) → 1 ≤ length xs → Endless xs → lines_of xs ≡ xs ∷ []
only_line [] some h = absurd (omega arith)
only_line (x ∷ xs) some h = last_line x xs h

-- the first line, where `bytes` are those up to the first byte 10, or all of them
pub next_line : (text bytes rest line : List ℕ) (i : ℕ) → text ≡ bytes ++ rest → length bytes ≡ min (i + 1) (length text) → IsFirstMatchOrLen (λ b. eqb b 10) text i → 0 < length text →
    ((l : List ℕ) → bytes ≡ l ++ (10 ∷ []) → line ≡ l) → (Endless bytes → line ≡ bytes) → lines_of text ≡ line ∷ lines_of rest
next_line text bytes rest line i is long first some ended unended = elim (cases_lt i (length text)) [
  | inl below ↦
      let at : get_or text i 0 ≡ 10 = eqb-true _ 10 (first.1 below 0) in
      let front : bytes ≡ take i text ++ (10 ∷ []) =
      sym (rw is (take_at bytes rest (i + 1) (omega arith))) ∙ take_more text i 0 below ∙ ap (λ b. take i text ++ (b ∷ [])) at in
      ap lines_of (is ∙ ap (λ b. b ++ rest) front ∙ append_assoc (take i text) (10 ∷ []) rest) ∙ cut (take i text) rest endless ∙ ap (λ l. l ∷ lines_of rest) (sym (ended _ front))
  | inr beyond ↦
      let none : rest ≡ [] = nil_from_length rest (omega (arith, ap length is, length-append bytes rest)) in
      let same : text ≡ bytes = is ∙ rw none (append-nil bytes) in
      let whole : Endless text = rw (take_all i text beyond) at endless in
      only_line text some whole ∙ rw (unended (rw same at whole), none, same) refl
] where
  endless : Endless (take i text)
  endless = recursion_from_All _ _ (λ k d within.
      let low : k < i = omega (arith, length-take i text) in
      rw (get_or-take i text k d low) (eqb-false _ 10 (first.0 k d (omega arith) low)))

-- a text in which no line ends does not end in byte 10
pub unended : (bytes : List ℕ) → Endless bytes → drop (length bytes - 1) bytes ≡ 10 ∷ [] → ⊥
unended bytes h is =
    let one : length bytes - (length bytes - 1) ≡ 1 = sym (length-drop (length bytes - 1) bytes) ∙ ap length is in
    let within : length bytes - 1 < length bytes = omega arith in
    let at : get_or bytes (length bytes - 1) 0 ∷ drop (length bytes - 1 + 1) bytes ≡ 10 ∷ [] = sym (drop_more bytes (length bytes - 1) 0 within) ∙ is in
    All-from_recursion _ bytes h (length bytes - 1) 0 within cc

-- the law of lines

onto : (b : ℕ) (bs : List ℕ) (ls : List (List ℕ)) → (b ≡ 10 → ⊥) → Lines ls bs → Lines (onto_first b ls) (b ∷ bs)
onto b bs [] n h = grind (arith, common_steps)
onto b bs (l ∷ ls) n h = grind (arith, common_steps)

are_lines : (text : List ℕ) → Lines (lines_of text) text
are_lines [] = refl
are_lines (b ∷ bs) =
    cond_both (eqb b 10) _ _ (λ ls. Lines ls (b ∷ bs))
    (λ e. (tt, inl (bs, ap (λ x. x ∷ bs) (eqb-true b 10 e), are_lines bs)))
    (λ e. onto b bs (lines_of bs) (eqb-false b 10 e) (are_lines bs))

same_lines : (ls : List (List ℕ)) (text : List ℕ) → Lines ls text → ls ≡ lines_of text
same_lines [] text h = ap lines_of (sym h)
same_lines (l ∷ ls) text h =
    elim h.1 [
      | inl w ↦ ap (λ t. l ∷ t) (same_lines ls w.0 w.2) ∙ sym (cut l w.0 h.0) ∙ ap lines_of (sym w.1)
      | inr w ↦ ap (λ t. l ∷ t) w.2 ∙ sym (only_line l w.1 h.0) ∙ ap lines_of (sym w.0)
    ]

pub cut_into : (text : List ℕ) → CutInto text (lines_of text)
cut_into text = (are_lines text, λ ls h. same_lines ls text h)
