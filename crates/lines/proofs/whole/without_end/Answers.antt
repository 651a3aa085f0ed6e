use Rattle.std.proofs.Common.{◌≡◌, ◌-◌, true, eqb, List, [], ◌∷◌, length, drop, ℕ, Bor, Some, None, Option, refl, sym}
use Rattle.std.specs.Option.{MatchOption, unwrap_or}
use Rattle.std.specs.Cmp.Lexicographic.{same_text}
use lib.Pointwise.{pointwise}
use Rattle.lines.specs.Lines.{Endless}
use Rattle.lines.proofs.Cutting.{unended}
use Rattle.lines.proofs.whole.without_end.Goals as goal

whole : (b : Bor (List ℕ)) (r : Option (Bor (List ℕ))) (Q : Type 0) (P R : Bor (List ℕ) → Type 0) →
    MatchOption r Q (λ x. (pointwise eqb (drop (length b.now - 1) b.now) (10 ∷ []) ≡ true) × P x × R x) → Endless b.now → (unwrap_or r b).now ≡ b.now
whole b None Q P R stripped h = refl
whole b (Some x) Q P R stripped h = absurd (unended b.now h (same_text _ _ (sym stripped.0)))

pub returns-clause-endless : goal.returns-clause-endless
returns-clause-endless c h = rw c.unwrap_or.ensures (whole c.args.bytes c.strip_suffix.result _ _ _ c.strip_suffix.ensures.cases h)
