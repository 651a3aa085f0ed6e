-- The block sizes of both plans keep what every plan keeps; how many they are, and the largest.
use Rattle.std.specs.Prelude.{◌≡◌, ℕ, zero, suc, ◌+◌, ◌<◌, ◌≤◌, Bool, true, List, [], ◌∷◌, ◌&&◌, length, nat_lt, slice_index, refl}
use Rattle.std.proofs.Common.{add-one, arith, lit≤}
use Rattle.std.proofs.lemmas.Bool.{ltb-true, and_parts}
use Rattle.std.proofs.lemmas.Map.Keys.{below_from_sorted, sorted_from_strictly_increasing}
use Rattle.classes.specs.Plan.{Plan, largest}
use Rattle.classes.specs.Quarters.{quarters}
use Rattle.classes.specs.Sixteens.{sixteens}

-- a test that each number is below the next
abbrev rises : List ℕ → Bool
rises [] = true
rises (x ∷ []) = true
rises (x ∷ y ∷ ys) = nat_lt x y && rises (y ∷ ys)

rising : (xs : List ℕ) → rises xs ≡ true → (k : ℕ) → k + 1 < length xs → slice_index xs k < slice_index xs (k + 1)
rising [] t k l = absurd (omega arith)
rising (x ∷ []) t k l = absurd (omega arith)
rising (x ∷ y ∷ ys) t zero l = ltb-true x y (and_parts _ _ t).0
rising (x ∷ y ∷ ys) t (suc k) l = let rest = rising (y ∷ ys) (and_parts _ _ t).1 k (omega arith) in rw add-one (rw add-one at rest)

-- a list whose test computes to true is a plan
plan_from_test : (bs : List ℕ) → rises bs ≡ true → 1 ≤ length bs → length bs ≤ 256 → 1 ≤ slice_index bs 0 → largest bs ≤ 1048576 → Plan bs
plan_from_test bs t some few first last = record {
  some = some;
  few = few;
  first = first;
  rising = λ i j l w. below_from_sorted bs i j 0 (sorted_from_strictly_increasing bs (rising bs t)) l w;
  last = last;
}

pub quarters_plan : Plan quarters
unfolding quarters
quarters_plan = plan_from_test quarters refl (lit≤ tt) (lit≤ tt) (lit≤ tt) (lit≤ tt)

pub sixteens_plan : Plan sixteens
unfolding sixteens
sixteens_plan = plan_from_test sixteens refl (lit≤ tt) (lit≤ tt) (lit≤ tt) (lit≤ tt)

pub quarters_length : length quarters ≡ 60
unfolding quarters
quarters_length = refl

pub quarters_largest : largest quarters ≡ 1048576
unfolding quarters
quarters_largest = refl

pub sixteens_length : length sixteens ≡ 256
unfolding sixteens
sixteens_length = refl

pub sixteens_largest : largest sixteens ≡ 4096
unfolding sixteens
sixteens_largest = refl
