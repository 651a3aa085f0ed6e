-- What a note does to a profile that stands at a history.
use Rattle.std.proofs.Common.{◌≡◌, ℕ, ◌+◌, ◌≤◌, cond, List, [], ◌∷◌, ◌++◌, length, is_ok, MatchResult, Ok, Err, Result, sym, refl, ap, ◌∙◌, subst, arith}
use Rattle.std.proofs.ByRecursion.{All-push}
use Rattle.std.proofs.lemmas.List.{length_push, map_push, length-map}
use Rattle.std.proofs.lemmas.List.Sums.{sum_by_push}
use Rattle.std.proofs.lemmas.Bool.Decides.{nat_tests}
use Rattle.profile.specs.declared.pending.Record.{Record}
use Rattle.profile.specs.declared.pending.Pending.{Pending}
use Rattle.profile.specs.declared.profile.Profile.{Profile}
use Rattle.profile.specs.declared.refusal.Refusal.{Refusal}
use Rattle.profile.specs.History.{Note, History, Setting}
use Rattle.profile.specs.Noting.{record_answer, weight, note_answer, noted, after_note, Sound, NotedBy}
use Rattle.profile.specs.Slots.{Slots}
use Rattle.profile.specs.Stands.{setting, held, kept_as, Kept, Stands, Told, Pushed, Added}

abbrev a_note : ℕ → ℕ → Note
a_note b c = record { bytes = b; count = c }

-- when a note is taken, and when each refusal comes
pub noted_by : (s : Setting) (h : History) (b c : ℕ) → NotedBy s h b c (note_answer s h b c)
noted_by s h b c = grind (arith, nat_tests)

-- a note that becomes a record becomes the note's record
pub recorded : (bs : List ℕ) (b c : ℕ) (x : Record) → Ok x ≡ record_answer bs b c → x ≡ kept_as bs (a_note b c)
recorded bs b c x e = grind (arith, nat_tests)

-- one record more stands for one note more
kept_more : (s : Setting) (ns : List Note) (n : Note) (p q : Pending) → Kept s ns p → Pushed p (kept_as s.blocks n) q → Sound s.blocks n → length ns + 1 ≤ s.records → weight ns + n.count ≤ s.total →
    Kept s (ns ++ (n ∷ [])) q
kept_more s ns n p q k pushed sound few light =
    let l = length_push ns n in
    let w = sum_by_push (λ (n : Note). n.count) ns n in
    record {
      records = ap (λ (t : Slots Record). t.items) pushed.records ∙ ap (λ (xs : List Record). xs ++ (kept_as s.blocks n ∷ [])) k.records ∙ sym (map_push (kept_as s.blocks) ns n);
      total = omega (arith, pushed.total, k.total, w);
      sound = All-push (Sound s.blocks) ns n k.sound sound;
      few = omega (arith, l);
      light = omega (arith, w);
    }

module _ {P : Type 0} (blocks : P → List ℕ) (p : Profile P) (b c : ℕ) (x : Record) (is : Ok x ≡ record_answer (blocks p.plan) b c) where
  abbrev s : Setting
  s = setting (blocks p.plan)

  answered : (r : Result ℕ Refusal) (m : Pending) → Added 64 65536 p.pending x r m → (h : History) → Stands s h p → r ≡ note_answer s h b c
  answered r m added h stands =
      let long : length (held p.pending) ≡ length h.pending = ap length stands.pending.records ∙ length-map _ _ in
      let counts : x.count ≡ c = ap (λ (y : Record). y.count) (recorded (blocks p.plan) b c x is) in
      added.answer ∙ simp (long, stands.pending.total, counts, ← is)

  left : (r : Result ℕ Refusal) (m : Pending) → MatchResult r (λ _. Pushed p.pending x m) (λ _. m ≡ p.pending) → (h : History) → Stands s h p → NotedBy s h b c r →
      Stands s (cond (is_ok r) (noted h b c) h) (record { plan = p.plan; pending = m })
  left (Ok n) m pushed h stands takes = record {
    pending = kept_more s h.pending (a_note b c) p.pending m stands.pending (subst (λ (y : Record). Pushed p.pending y m) (recorded (blocks p.plan) b c x is) pushed) takes.0.sound takes.0.few takes.0.light;
  }
  left (Err e) m same h stands due = rw same stands

  pub told : (r : Result ℕ Refusal) (m : Pending) → Added 64 65536 p.pending x r m → Told blocks p (record { plan = p.plan; pending = m }) (λ s h. after_note s h b c) (λ s h. note_answer s h b c) r
  told r m added = record {
    plan = refl;
    stands = λ h stands.
        let e = answered r m added h stands in
        subst (λ (a : Result ℕ Refusal). Stands s (cond (is_ok a) (noted h b c) h) (record { plan = p.plan; pending = m })) e
        (left r m added.after h stands (subst (NotedBy s h b c) (sym e) (noted_by s h b c)));
    answers = answered r m added;
  }
