-- Runs of bits that are put into a row one after the other, until one is refused.
use Rattle.std.specs.Prelude.{ℕ, Bool, List, [], ◌∷◌, Ok, Result}
use Rattle.rows.specs.declared.refusal.RowsRefusal.{RowsRefusal}
use Rattle.rows.specs.declared.room.Room.{Room}
use Rattle.rows.specs.Meaning.{Row, put_answer, with_put, left_by}
use Rattle.compare_rows.specs.declared.append.Run.{Run}

-- what is answered, and the rows then
pub record Left : Type 0 where
  pub answer : Result (Unit {0}) RowsRefusal
  pub rows : List Row

abbrev pub appended : Room → ℕ → List Row → List Run → Left
appended room row rows [] = record { answer = Ok tt; rows = rows }
appended room row rows (r ∷ rs) =
    left_by (put_answer room rows row r.count)
    (appended room row (with_put rows row r.bit r.count) rs)
    (record { answer = put_answer room rows row r.count; rows = rows })

-- the words then, where wrote says what a put that is taken makes of them
abbrev pub appended_words : (Room → List Row → List ℕ → ℕ → Bool → ℕ → List ℕ) → Room → ℕ → List Row → List ℕ → List Run → List ℕ
appended_words wrote room row rows ws [] = ws
appended_words wrote room row rows ws (r ∷ rs) =
    left_by (put_answer room rows row r.count)
    (appended_words wrote room row (with_put rows row r.bit r.count) (wrote room rows ws row r.bit r.count) rs)
    ws
