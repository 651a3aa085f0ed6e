-- Digits at the front of a text.
use Rattle.std.proofs.Common.{◌≡◌, ℕ, ◌+◌, ◌*◌, ◌-◌, ◌++◌, length-append, ◌<◌, ◌≤◌, true, leb, List, [], ◌∷◌, length, take, Ok, inl, inr, one-add, arith, lit<}
use Rattle.std.proofs.Math.Nat.{pow-le-pow_right}
use Rattle.std.specs.Str.Parse.{digits_value, AllDigits}
use Rattle.std.specs.Char.{is_ascii_digit, digit_value}
use Rattle.std.specs.List.{prefix_len}
use Rattle.std.proofs.lemmas.Int.Digits.{digits_value-lt, digits_value_push}
use Rattle.std.proofs.lemmas.Str.Parse.{digit_from_value}
use Rattle.std.proofs.lemmas.Str.{digit_value_digit}
use Rattle.std.proofs.lemmas.Bool.Decides.{nat_tests}
use Rattle.std.proofs.lemmas.Bool.{cases_Bool, and_parts, leb-true}
use Rattle.lines.specs.Reading.{one_to_nine}

pub small : (c : ℕ) → is_ascii_digit c ≡ true → digit_value c < 10
small c e = let p : (leb 48 c ≡ true) × (leb c 57 ≡ true) = and_parts _ _ e in omega (arith, digit_value_digit c (leb-true _ _ p.0, leb-true _ _ p.1), leb-true _ _ p.1)

pub front_digits : (xs : List ℕ) → AllDigits 10 (take (prefix_len is_ascii_digit xs) xs)
front_digits [] = tt
front_digits (x ∷ xs) = elim (cases_Bool (is_ascii_digit x)) [ inl e ↦ rw (e, one-add) (small x e, front_digits xs) | inr e ↦ rw e tt ]

digits_parts : (xs ys : List ℕ) → AllDigits 10 (xs ++ ys) → AllDigits 10 xs × AllDigits 10 ys
digits_parts [] ys h = (tt, h)
digits_parts (x ∷ xs) ys h = let p = digits_parts xs ys h.1 in ((h.0, p.0), p.1)

-- n is what these digits write
abbrev pub Worth : List ℕ → ℕ → Type 0
Worth ds n = AllDigits 10 ds → n ≡ digits_value 10 ds

-- one digit more
pub written_more : (ds : List ℕ) (n d m : ℕ) → Worth ds n → m ≡ n * 10 + (d - 48) → Worth (ds ++ (d ∷ [])) m
written_more ds n d m w is digits =
    let p = digits_parts ds (d ∷ []) digits in
    omega (arith, w p.0, digit_value_digit d (digit_from_value d p.1.0), digits_value_push 10 ds d)

-- fewer than nine digits write a number that has room for one digit more
pub below : (ds : List ℕ) → AllDigits 10 ds → length ds ≤ 8 → digits_value 10 ds < 100000000
below ds digits few = omega (arith, digits_value-lt 10 ds digits, pow-le-pow_right {n = 10} (lit< tt) few)

pub room : (ds more : List ℕ) (n d : ℕ) → AllDigits 10 (ds ++ (d ∷ more)) → length (ds ++ (d ∷ more)) ≤ 9 → Worth ds n → (n < 100000000) × (48 ≤ d) × (d ≤ 57)
room ds more n d digits short w =
    let p = digits_parts ds (d ∷ more) digits in
    let few : length ds ≤ 8 = omega (arith, length-append ds (d ∷ more)) in
    let range = digit_from_value d p.1.0 in
    (omega (arith, w p.0, below ds p.0 few), range.0, range.1)

-- what a number of digits from 1 to 9 is
pub within_nine : (k n : ℕ) → Ok n ≡ one_to_nine k → (n ≡ k) × (1 ≤ n) × (n ≤ 9)
within_nine k n e = grind (arith, nat_tests)
