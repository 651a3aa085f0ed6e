-- The reference model: what a profile was told, in the requests' own bytes. It knows no answers.
use Rattle.std.specs.Prelude.{ℕ, List, []}

-- so many requests of so many bytes
pub record Note : Type 0 where
  pub bytes : ℕ
  pub count : ℕ

-- the notes taken and not yet closed, in the order noted
pub record History : Type 0 where
  pub pending : List Note

-- the history of a new profile
abbrev pub fresh : History
fresh = record { pending = [] }

-- what a profile is made for: the block sizes of its plan, the most records that it holds and the most that their counts add up to
pub record Setting : Type 0 where
  pub blocks : List ℕ
  pub records : ℕ
  pub total : ℕ
