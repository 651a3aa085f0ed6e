-- `reads` is the relation `Written`, both ways.
use Rattle.std.proofs.Common.{◌≡◌, ℕ, ◌<◌, true, eqb, List, [], ◌∷◌, ◌++◌, length, take, Ok, Err, Result, sym, refl, ap, ◌∙◌, one-add, arith, length-take, MatchResult}
use Rattle.std.specs.Str.Parse.{AllDigits}
use Rattle.std.specs.Char.{is_ascii_digit, digit_value}
use Rattle.std.specs.List.{prefix_len}
use Rattle.std.proofs.lemmas.List.{take-append-drop, take_at, drop_at}
use Rattle.std.proofs.lemmas.Str.Parse.{digit_from_value}
use Rattle.std.proofs.lemmas.List.Sums.{prefix_len-le-length}
use Rattle.std.proofs.lemmas.Bool.Decides.{nat_tests}
use Rattle.std.proofs.lemmas.Bool.{cond_both, eqb-true, and_from, le-leb, le-ltb, ne_eqb}
use Rattle.lines.specs.Reading.{Read, one_to_nine, number_at, last, two_numbers, reads}
use Rattle.profile.specs.Passing.{onward}
use Rattle.lines.specs.Writing.{Writes, Spelt, Written, WrittenBy}
use Rattle.lines.specs.declared.call.Call.{Call}
use Rattle.lines.specs.declared.call.Call.TheVariants.{Note}
use Rattle.lines.specs.declared.refusal.LineRefusal.{LineRefusal}
use Rattle.lines.specs.declared.refusal.LineRefusal.TheVariants.{Unreadable}
use Rattle.lines.proofs.Digits.{front_digits, within_nine}

-- what is read keeps Q, and all else is unreadable
abbrev Reads : {A : Type 0} → (A → Type 0) → Read A → Type 0
Reads Q r = MatchResult r Q (λ e. e ≡ Unreadable)

-- a step of reading: what the first part reads goes on to the second
onward_reads : {A B : Type 0} (r : Read A) (next : A → Read B) (P : A → Type 0) (Q : B → Type 0) → Reads P r → ((a : A) → r ≡ Ok a → P a → Reads Q (next a)) → Reads Q (onward r next)
onward_reads (Ok a) next P Q p step = step a refl p
onward_reads (Err e) next P Q p step = p

last_reads : {A : Type 0} (x : A) (cs : List ℕ) (Q : A → Type 0) → (cs ≡ [] → Q x) → Reads Q (last x cs)
last_reads x [] Q s = s refl
last_reads x (c ∷ cs) Q s = refl

-- what is read is written

nine_reads : (k : ℕ) → Reads (λ n. n ≡ k) (one_to_nine k)
nine_reads k = grind (arith, nat_tests)

abbrev Front : List ℕ → ℕ × List ℕ → Type 0
Front text p = (ds : List ℕ) × Writes ds p.0 × (text ≡ 32 ∷ (ds ++ p.1))

number_written : (text : List ℕ) → Reads (Front text) (number_at text)
number_written [] = refl
number_written (c ∷ cs) =
    let k = prefix_len is_ascii_digit cs in
    let within = prefix_len-le-length is_ascii_digit cs in
    cond_both (eqb c 32) _ _ (Reads (Front (c ∷ cs)))
    (λ e. onward_reads (one_to_nine k) _ (λ n. n ≡ k) (Front (c ∷ cs)) (nine_reads k)
    (λ n is same.
    let w = within_nine k n (sym is) in (
      take n cs,
      record {
        some = simp length-take (omega arith);
        short = simp length-take (omega arith);
        digits = rw same (front_digits cs);
        worth = refl;
      },
      rw (eqb-true c 32 e, take-append-drop n cs) refl,
    )))
    (λ _. refl)

two_written : (text : List ℕ) → Reads (λ p. Spelt (p.0 ∷ p.1 ∷ []) text) (two_numbers text)
two_written text =
    let Q = λ (p : ℕ × ℕ). Spelt (p.0 ∷ p.1 ∷ []) text in
    onward_reads (number_at text) _ (Front text) Q (number_written text) (λ a _ x.
    onward_reads (number_at a.1) _ (Front a.1) Q (number_written a.1) (λ b _ y.
    last_reads _ b.1 Q (λ e. (x.0, a.1, x.1, x.2, (y.0, b.1, y.1, y.2, e)))))

reads_written : (line : List ℕ) → Reads (Written line) (reads line)
reads_written [] = refl
reads_written (c ∷ cs) =
    cond_both (eqb c 110) _ _ (Reads (Written (c ∷ cs)))
    (λ e. onward_reads (two_numbers cs) _ (λ p. Spelt (p.0 ∷ p.1 ∷ []) cs) (Written (c ∷ cs)) (two_written cs)
    (λ p _ spelt. (cs, ap (λ b. b ∷ cs) (eqb-true c 110 e), spelt)))
    (λ _. refl)

-- what is written is read

is_digit : (c : ℕ) → digit_value c < 10 → is_ascii_digit c ≡ true
is_digit c h = let p = digit_from_value c h in and_from _ _ (le-leb 48 c p.0) (le-leb c 57 p.1)

leading_digits : (ds rest : List ℕ) → AllDigits 10 ds → prefix_len is_ascii_digit rest ≡ 0 → prefix_len is_ascii_digit (ds ++ rest) ≡ length ds
leading_digits [] rest h z = z
leading_digits (d ∷ ds) rest h z = rw (is_digit d h.0, leading_digits ds rest h.1 z, one-add) refl

spelt_stops : (xs text : List ℕ) → Spelt xs text → prefix_len is_ascii_digit text ≡ 0
spelt_stops [] text h = ap (prefix_len is_ascii_digit) h
spelt_stops (x ∷ xs) text h = ap (prefix_len is_ascii_digit) h.3

number_read : (x : ℕ) (xs text : List ℕ) (h : Spelt (x ∷ xs) text) → number_at text ≡ Ok (x, h.1)
number_read x xs text h =
    let ds = h.0 in
    let rest = h.1 in
    let n = h.2 in
    let k = leading_digits ds rest n.digits (spelt_stops xs rest h.4) in
    ap number_at h.3
    ∙ rw (k, ne_eqb (length ds) 0 (λ e. omega (arith, n.some)), le-ltb 9 (length ds) n.short, take_at ds rest (length ds) refl, drop_at ds rest (length ds) refl, n.worth) refl

two_read : (a b : ℕ) (text : List ℕ) → Spelt (a ∷ b ∷ []) text → two_numbers text ≡ Ok (a, b)
two_read a b text h = rw (number_read a (b ∷ []) text h, number_read b [] h.1 h.4, h.4.4) refl

written_reads : (line : List ℕ) (x : Call) → Written line x → reads line ≡ Ok x
written_reads line (Note b c) h = ap reads h.1 ∙ rw (two_read b c h.0 h.2) refl

by_cases : (line : List ℕ) (r : Result Call LineRefusal) → reads line ≡ r → Reads (Written line) r → WrittenBy line r
by_cases line (Ok x) e h = (h, λ y w. let z : Ok y ≡ Ok x = sym (written_reads line y w) ∙ e in cc)
by_cases line (Err f) e h =
    (h, λ x w. let z : Err f ≡ Ok x = sym e ∙ written_reads line x w in cc)

pub written_by : (line : List ℕ) → WrittenBy line (reads line)
written_by line = by_cases line (reads line) refl (reads_written line)
