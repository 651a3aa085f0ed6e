use Rattle.std.proofs.Common.{◌≡◌, ◌+◌, ◌*◌, ◌-◌, ◌≤◌, ℕ, List, [], ◌∷◌, ◌++◌, map, length, Bor, Iter, refl, ap, ◌∙◌, sym, subst, rules}
use Rattle.std.specs.Iterator.{Yields}
use Rattle.std.specs.Str.Parse.{AllDigits}
use Rattle.std.proofs.lemmas.Fn.{fold_over, serves_by, fronts}
use Rattle.std.proofs.lemmas.Iterator.{YieldsList-from_slice}
use Rattle.std.proofs.lemmas.List.{map_push}
use Rattle.lines.proofs.Digits.{Worth, written_more, room}
use Rattle.lines.proofs.reading.value.Goals as goal

taken : (s t : Iter ℕ) (xs : List (Bor ℕ)) → Yields fronts s xs t → s.rest.now ≡ map (λ x. x.now) xs ++ t.rest.now
taken s t [] y = ap (λ (s : Iter ℕ). s.rest.now) y
taken s t (x ∷ xs) y = y.1 ∙ ap (λ l. x.now ∷ l) (taken y.0 t xs y.2)

pub fold-requires-clause-callable : goal.fold-requires-clause-callable
fold-requires-clause-callable c =
    serves_by _ (λ xs q. Worth (map (λ x. x.now) xs) q.1) (λ xs q x v w called.
    let is : v.1 ≡ q.1 * 10 + (x.now - 48) = search rules in
    subst (λ ds. Worth ds v.1) (sym (map_push (λ (x : Bor ℕ). x.now) xs x)) (written_more _ q.1 x.now v.1 w is))
    _ _ _ _ (λ _. refl) (λ xs t q x u y step w.
    let all : c.args.figures.now ≡ map (λ x. x.now) xs ++ (x.now ∷ u.rest.now) = sym c.iter.ensures.rest ∙ taken c.iter.result t xs y ∙ ap (λ l. map (λ x. x.now) xs ++ l) step in
    let r = room (map (λ x. x.now) xs) u.rest.now q.1 x.now (subst (AllDigits 10) all c.requires.digits) (subst (λ l. length l ≤ 9) all c.requires.short) w in
    search rules)

pub returns : goal.returns
returns c =
    fold_over (fronts {A = ℕ}) (λ y. y.now) _ Worth _ (λ ys a x b f' w called.
    let is : b ≡ a * 10 + (x.now - 48) = search rules in
    (written_more ys a x.now b w is, search rules))
    c.iter.result c.args.figures.now _ _ (YieldsList-from_slice {s = c.iter.result} c.args.figures.now c.iter.ensures.rest).runs (λ _. refl) c.fold.ensures.ran c.requires.digits
