-- The plan of quarters.
use Rattle.std.specs.Prelude.{◌≡◌, ℕ, ◌+◌, ◌-◌, ◌*◌, ◌/◌, ◌%◌, ◌^◌, ◌<◌, ◌≤◌, Bool, true, ◌&&◌, ◌==◌, slice_index, slice_index_or, refl}
use Rattle.std.proofs.Common.{sym, ap, ◌∙◌, add-mul, arith, lit≤, inl, inr}
use Rattle.std.proofs.Math.Nat.{pow-le-pow_right}
use Rattle.std.proofs.lemmas.Nat.{pow_pos, pow-add, div-add-mod', div_below, le-div, mod_below}
use Rattle.std.proofs.lemmas.List.FromFn.{get_or-range_with_len, get_or-map-range_with_len}
use Rattle.std.proofs.lemmas.List.Elements.{All-get_or}
use Rattle.std.proofs.lemmas.List.Sums.{AllPass-from_list_all}
use Rattle.std.specs.List.{range_with_len, list_all}
use Rattle.std.proofs.lemmas.Bool.{lt-ltb, and_parts, eqb-true, cases_lt}
use Rattle.classes.specs.Plan.{class_of}
use Rattle.classes.specs.Quarters.{quarters_block, quarters}
use Rattle.classes.specs.Lawful.{quarters_plan, quarters_length}
use Rattle.classes.proofs.Plans.{class_is, sixteenth_is}

quarters_at : (c : ℕ) → c < 60 → slice_index quarters c ≡ quarters_block c
unfolding quarters
quarters_at c l = get_or-map-range_with_len quarters_block 0 60 c c 0 l (omega arith)

pub quarters_low : (c : ℕ) → c < 4 → slice_index quarters c ≡ 16 * (c + 1)
quarters_low c l = quarters_at c (omega arith) ∙ rw (lt-ltb c 4 l) refl

-- a test that passes at each number below 56 passes at k
at_each : (test : ℕ → Bool) → list_all test (range_with_len 0 56) ≡ true → (k : ℕ) → k < 56 → test k ≡ true
at_each test all k l =
    let ks = range_with_len 0 56 in
    let at : slice_index ks k ≡ k = omega (arith, get_or-range_with_len 0 56 k 0 l) in
    ap test (sym at) ∙ All-get_or (λ n. test n ≡ true) ks k 0 l (AllPass-from_list_all test ks all)

-- from class 4 on, the shift that makes the block loses nothing
abbrev shifts : ℕ → Bool
shifts k = slice_index quarters (k + 4) == (4 + (k % 4 + 1)) * 2 ^ (4 + k / 4) % 2 ^ 32

all_shifts : list_all shifts (range_with_len 0 56) ≡ true
unfolding quarters
all_shifts = refl

pub quarters_high : (c : ℕ) → 4 ≤ c → c < 60 → slice_index quarters c ≡ (4 + ((c - 4) % 4 + 1)) * 2 ^ (4 + (c - 4) / 4) % 2 ^ 32
quarters_high c above small = ap (λ n. slice_index quarters n) (omega arith) ∙ eqb-true _ _ (at_each shifts all_shifts (c - 4) (omega arith))

-- from class 4 on, the block of a class and the one before it are neighbouring multiples of a quarter
abbrev edges : ℕ → Bool
edges k = slice_index quarters (k + 4) == (k % 4 + 5) * 2 ^ (k / 4 + 4) && slice_index quarters (k + 3) == (k % 4 + 4) * 2 ^ (k / 4 + 4)

all_edges : list_all edges (range_with_len 0 56) ≡ true
unfolding quarters
all_edges = refl

-- above 64, the class by the place j of the highest bit of the number below the request, and by how often a quarter of that bit goes into it, at most
-- seven times
pub quarters_high_class : (b j : ℕ) → 64 < b → b ≤ 1048576 → 2 ^ j ≤ b - 1 → b - 1 < 2 * 2 ^ j → (6 ≤ j) × ((b - 1) / 2 ^ (j - 2) < 8) × (4 * (j - 6) + (b - 1) / 2 ^ (j - 2) ≡ class_of quarters b)
quarters_high_class b j above small over under =
    let x = b - 1 in
    let low : 6 ≤ j = elim (cases_lt j 6) [ inl l ↦ absurd (omega (arith, pow-le-pow_right {n = 2} (lit≤ tt) {i = j} {j = 5} (omega arith))) | inr l ↦ l ] in
    let high : j ≤ 19 = elim (cases_lt 19 j) [ inl l ↦ absurd (omega (arith, pow-le-pow_right {n = 2} (lit≤ tt) {i = 20} {j = j} (omega arith))) | inr l ↦ l ] in
    let p = 2 ^ (j - 2) in
    let q = x / p in
    let some : 0 < p = pow_pos (j - 2) in
    let four : 2 ^ j ≡ 4 * p = ap (λ n. 2 ^ n) (omega arith) ∙ pow-add 2 2 (j - 2) in
    let least : 4 ≤ q = le-div 4 x p some (omega arith) in
    let most : q < 8 = div_below x p 8 some (omega arith) in
    let k = 4 * (j - 6) + (q - 4) in
    let third : k / 4 + 4 ≡ j - 2 = omega arith in
    let rest : k % 4 + 4 ≡ q = omega arith in
    let next : k % 4 + 5 ≡ q + 1 = omega arith in
    let both = and_parts _ _ (at_each edges all_edges k (omega arith)) in
    let power : 2 ^ (k / 4 + 4) ≡ p = ap (λ n. 2 ^ n) third in
    let here : slice_index_or quarters (4 * (j - 6) + q) 0 ≡ (q + 1) * p =
    ap (λ n. slice_index quarters n) (omega arith) ∙ eqb-true _ _ both.0 ∙ ap (λ n. n * 2 ^ (k / 4 + 4)) next ∙ ap (λ n. (q + 1) * n) power in
    let before : slice_index_or quarters (4 * (j - 6) + q - 1) 0 ≡ q * p =
    ap (λ n. slice_index quarters n) (omega arith) ∙ eqb-true _ _ both.1 ∙ ap (λ n. n * 2 ^ (k / 4 + 4)) rest ∙ ap (λ n. q * n) power in
    let more : (q + 1) * p ≡ q * p + 1 * p = add-mul q 1 p in
    let whole = div-add-mod' x p in
    let short = mod_below x p some in (
      low,
      most,
      sym (class_is quarters quarters_plan b (4 * (j - 6) + q) (omega (arith, quarters_length))
          (omega (arith, here, more, whole, short))
          (λ _. omega (arith, before, whole))),
    )

pub quarters_low_class : (b : ℕ) → 1 ≤ b → b ≤ 64 → class_of quarters b ≡ (b - 1) / 16
quarters_low_class = sixteenth_is quarters quarters_plan 4 (omega (arith, quarters_length)) quarters_low
