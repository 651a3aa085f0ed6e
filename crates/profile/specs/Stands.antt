-- When a profile is what a history says, and what one call does to it.
use Rattle.std.specs.Prelude.{◌≡◌, ℕ, ◌+◌, ◌≤◌, List, [], map, length, Ok, Result, MatchResult}
use Rattle.std.specs.List.{AllByRecursion}
use Rattle.classes.specs.Plan.{class_of}
use Rattle.profile.specs.declared.pending.Record.{Record}
use Rattle.profile.specs.declared.pending.Pending.{Pending}
use Rattle.profile.specs.declared.profile.Profile.{Profile}
use Rattle.profile.specs.declared.refusal.Refusal.{Refusal}
use Rattle.profile.specs.History.{Note, History, Setting}
use Rattle.profile.specs.Noting.{weight, room_answer, Sound}
use Rattle.profile.specs.Passing.{onward}
use Rattle.profile.specs.Slots.{slots_of, with_item}

-- the setting of a profile over a plan with these blocks
abbrev pub setting : List ℕ → Setting
setting bs = record { blocks = bs; records = 64; total = 65536 }

-- the records in use
abbrev pub held : Pending → List Record
held p = (slots_of p.records).items

-- the record that a note is kept as
abbrev pub kept_as : List ℕ → Note → Record
kept_as bs n = record { class = class_of bs n.bytes; count = n.count }

-- the table has these notes, in their order, each by its class and count, and there was room for them
pub record Kept (s : Setting) (ns : List Note) (p : Pending) : Type 0 where
  pub records : held p ≡ map (kept_as s.blocks) ns
  pub total : p.total ≡ weight ns
  pub sound : AllByRecursion (Sound s.blocks) ns
  pub few : length ns ≤ s.records
  pub light : weight ns ≤ s.total

-- the profile is what the history says
pub record Stands {P : Type 0} (s : Setting) (h : History) (p : Profile P) : Type 0 where
  pub pending : Kept s h.pending p.pending

-- the setting of a profile, where `blocks` is what its plan means
abbrev pub setting_of : {P : Type 0} → (P → List ℕ) → Profile P → Setting
setting_of blocks p = setting (blocks p.plan)

-- what one call does: it keeps the plan, and wherever the profile stood at a history h, r is what h defines and
-- the profile stands at the history that the call leaves
pub record Told {P A : Type 0} (blocks : P → List ℕ) (p q : Profile P) (after : Setting → History → History) (answer : Setting → History → A) (r : A) : Type 0 where
  pub plan : q.plan ≡ p.plan
  pub stands : (h : History) → Stands (setting_of blocks p) h p → Stands (setting_of blocks p) (after (setting_of blocks p) h) q
  pub answers : (h : History) → Stands (setting_of blocks p) h p → r ≡ answer (setting_of blocks p) h

-- what holds of every history at which the profile stands
abbrev pub Wherever : {P : Type 0} → (P → List ℕ) → Profile P → (Setting → History → Type 0) → Type 0
Wherever blocks p law = (h : History) → Stands (setting_of blocks p) h p → law (setting_of blocks p) h

-- the steps of a note on the pending records

pub record Emptied (p : Pending) : Type 0 where
  pub records : held p ≡ []
  pub total : p.total ≡ 0

-- one record more, in the first slot that was left
pub record Pushed (p : Pending) (x : Record) (q : Pending) : Type 0 where
  pub records : slots_of q.records ≡ with_item (slots_of p.records) x
  pub total : q.total ≡ p.total + x.count

pub record Added (records total : ℕ) (p : Pending) (x : Record) (r : Result ℕ Refusal) (q : Pending) : Type 0 where
  pub answer : r ≡ onward (room_answer records total (length (held p)) p.total x.count) (λ _. Ok (length (held p) + 1))
  pub after : MatchResult r (λ _. Pushed p x q) (λ _. q ≡ p)
