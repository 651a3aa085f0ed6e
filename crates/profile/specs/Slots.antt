-- What a table of slots holds.
use Rattle.std.specs.Prelude.{ℕ, List, [], ◌∷◌, ◌++◌, take, drop}
use Rattle.profile.specs.declared.table.Table.{Table}

-- the items in use, and then the slots that are left, with what they hold
pub record Slots (T : Type 0) : Type 0 where
  pub items : List T
  pub spare : List T

abbrev pub slots_of : {T : Type 0} {N : ℕ} → Table T N → Slots T
slots_of t = record { items = take t.len t.slots; spare = drop t.len t.slots }

-- one item more, in the first slot that is left
abbrev pub with_item : {T : Type 0} → Slots T → T → Slots T
with_item s x = record { items = s.items ++ (x ∷ []); spare = drop 1 s.spare }
