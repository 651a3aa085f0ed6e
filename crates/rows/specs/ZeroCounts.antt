-- How many of some bits are 0.
use Rattle.std.specs.Prelude.{◌≡◌, ℕ, zero, suc, ◌+◌, Bool, true, false, cond, not, List, ◌∷◌, ◌++◌, replicate, refl}
use Rattle.std.proofs.Common.{arith}
use Rattle.std.proofs.lemmas.List.Sums.{sum_by-cons, sum_by-append}
use Rattle.rows.specs.Meaning.{zeros_in}

pub zeros-cons : (b : Bool) (bs : List Bool) → zeros_in (b ∷ bs) ≡ cond (not b) 1 0 + zeros_in bs
zeros-cons b bs = sum_by-cons (λ x. cond (not x) 1 0) b bs

pub zeros-++ : (xs bs : List Bool) → zeros_in (xs ++ bs) ≡ zeros_in xs + zeros_in bs
zeros-++ xs bs = sum_by-append (λ x. cond (not x) 1 0) xs bs

pub zeros-run : (n : ℕ) (bit : Bool) → zeros_in (replicate n bit) ≡ cond bit 0 n
zeros-run zero true = refl
zeros-run zero false = refl
zeros-run (suc n) true = omega (arith, zeros-cons true (replicate n true), zeros-run n true)
zeros-run (suc n) false = omega (arith, zeros-cons false (replicate n false), zeros-run n false)
