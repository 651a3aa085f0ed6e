-- The class of a request in any plan.
use Rattle.std.specs.Prelude.{◌≡◌, ℕ, ◌+◌, ◌-◌, ◌*◌, ◌/◌, ◌<◌, ◌≤◌, ltb, List, length, ◌==◌, nat_lt, slice_index}
use Rattle.std.proofs.Common.{ap, inl, inr, arith}
use Rattle.std.proofs.lemmas.Bool.{lt-ltb, le-ltb, ltb-true, ltb-false, eqb-true, eqb-false, cases_eq, cases_lt, cond_both}
use Rattle.std.proofs.lemmas.List.Sums.{prefix_len_is, prefix_len_passes, prefix_len_stops}
use Rattle.std.specs.Result.{result_map_both}
use Rattle.classes.specs.Plan.{Plan, Lowest, Classed, largest, class_of, class_answer}

module _ (bs : List ℕ) (plan : Plan bs) where
  -- a lower class has no larger block
  pub not_above : (i j : ℕ) → i ≤ j → j < length bs → slice_index bs i ≤ slice_index bs j
  not_above i j l w =
      elim (cases_eq i j) [
        | inl e ↦ omega (arith, ap (λ k. slice_index bs k) e)
        | inr n ↦ omega (arith, plan.rising i j (omega arith) w)
      ]

  -- the class of a request, by its block and the one before
  pub class_is : (b c : ℕ) → c < length bs → b ≤ slice_index bs c → (0 < c → slice_index bs (c - 1) < b) → class_of bs b ≡ c
  class_is b c within holds before =
      prefix_len_is (λ x. ltb x b) bs c 0 (omega arith)
      (λ k l. lt-ltb _ _ (omega (arith, before (omega arith), not_above k (c - 1) (omega arith) (omega arith))))
      (λ _. le-ltb _ _ holds)

  -- where the first n blocks rise by 16 bytes, the class of a request up to 16 * n
  pub sixteenth_is : (n : ℕ) → n ≤ length bs → ((c : ℕ) → c < n → slice_index bs c ≡ 16 * (c + 1)) → (b : ℕ) → 1 ≤ b → b ≤ 16 * n → class_of bs b ≡ (b - 1) / 16
  sixteenth_is n within at b some small =
      let c = (b - 1) / 16 in
      class_is b c (omega arith) (omega (arith, at c (omega arith))) (λ above. omega (arith, at (c - 1) (omega arith)))

  -- a request up to the largest has a class, which is the lowest that holds it
  pub has_class : (b : ℕ) → b ≤ largest bs → class_of bs b < length bs
  has_class b l =
      elim (cases_lt (class_of bs b) (length bs)) [
        | inl w ↦ w
        | inr w ↦ absurd (omega (arith, plan.some, ltb-true _ _ (prefix_len_passes (λ x. ltb x b) bs (length bs - 1) 0 (omega (arith, plan.some)))))
      ]

  pub lowest : (b : ℕ) → b ≤ largest bs → Lowest bs b (class_of bs b)
  lowest b l = record {
    class = has_class b l;
    holds = ltb-false _ _ (prefix_len_stops (λ x. ltb x b) bs 0 (has_class b l));
    lowest = λ d w h. elim (cases_lt d (class_of bs b)) [
      | inl m ↦ absurd (omega (arith, h, ltb-true _ _ (prefix_len_passes (λ x. ltb x b) bs d 0 m)))
      | inr m ↦ m
    ];
  }

  pub classed : (b : ℕ) → Classed bs b (class_answer bs b)
  classed b =
      cond_both (b == 0) _ _ (λ r. Classed bs b (result_map_both (class_of bs) (λ e. e) r))
      (λ e. eqb-true b 0 e)
      (λ e. cond_both (nat_lt (largest bs) b) _ _ (λ r. Classed bs b (result_map_both (class_of bs) (λ e. e) r))
      (λ a d w. omega (arith, ltb-true _ _ a, not_above d (length bs - 1) (omega arith) (omega arith)))
      (λ a. (omega (arith, eqb-false b 0 e), lowest b (ltb-false _ _ a))))
