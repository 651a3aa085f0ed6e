-- How a line is read as a call.
use Rattle.std.specs.Prelude.{ℕ, cond, List, [], ◌∷◌, take, drop, Ok, Err, Result, ◌==◌, nat_lt}
use Rattle.std.specs.Str.Parse.{digits_value}
use Rattle.std.specs.Char.{is_ascii_digit}
use Rattle.std.specs.List.{prefix_len}
use Rattle.profile.specs.Passing.{onward}
use Rattle.lines.specs.declared.call.Call.{Call}
use Rattle.lines.specs.declared.call.Call.TheVariants.{Note}
use Rattle.lines.specs.declared.refusal.LineRefusal.{LineRefusal}
use Rattle.lines.specs.declared.refusal.LineRefusal.TheVariants.{Unreadable}

-- what is read, or a line that is no call
abbrev pub Read : Type 0 → Type 0
Read A = Result A LineRefusal

-- a number of digits, if it is from 1 to 9
abbrev pub one_to_nine : ℕ → Read ℕ
one_to_nine k = cond (k == 0) (Err Unreadable) (cond (nat_lt 9 k) (Err Unreadable) (Ok k))

-- the digits at the front of a text as a number, and what follows them
abbrev pub numeral : List ℕ → Read (ℕ × List ℕ)
numeral cs = onward (one_to_nine (prefix_len is_ascii_digit cs)) (λ k. Ok (digits_value 10 (take k cs), drop k cs))

-- a space and the digits after it at the front of a text: the number, and what follows
abbrev pub number_at : List ℕ → Read (ℕ × List ℕ)
number_at [] = Err Unreadable
number_at (c ∷ cs) = cond (c == 32) (numeral cs) (Err Unreadable)

-- x, if nothing follows
abbrev pub last : {A : Type 0} → A → List ℕ → Read A
last x [] = Ok x
last x (c ∷ cs) = Err Unreadable

abbrev pub two_numbers : List ℕ → Read (ℕ × ℕ)
two_numbers text = onward (number_at text) (λ a. onward (number_at a.1) (λ b. last (a.0, b.0) b.1))

-- the call that a letter and the text after it write
abbrev pub reads_as : ℕ → List ℕ → Read Call
reads_as c cs = cond (c == 110) (onward (two_numbers cs) (λ x. Ok (Note x.0 x.1))) (Err Unreadable)

abbrev pub reads : List ℕ → Read Call
reads [] = Err Unreadable
reads (c ∷ cs) = reads_as c cs
