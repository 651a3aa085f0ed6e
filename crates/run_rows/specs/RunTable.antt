-- What a store that keeps its puts has beside its words, and what holds of these and the words.
use Rattle.std.specs.Prelude.{◌≡◌, ℕ, ◌≤◌, true, List, length}
use Rattle.rows.specs.declared.room.Room.{Room}
use Rattle.rows.specs.Meaning.{Row}
use Rattle.run_rows.specs.declared.runs.Table.{Table}
use Rattle.run_rows.specs.RunWords.{well_laid, run_rows, run_used}
use Rattle.run_rows.specs.RunChains.{filled}

-- what holds of a room, the words, and the puts of each row
pub record Sound (room : Room) (ws ps : List ℕ) : Type 0 where
  pub few : room.puts ≤ 512
  pub narrow : room.bits ≤ 33554432
  pub enough : run_used room ≤ length ws
  pub eight : length ps ≡ 8
  pub ok : well_laid room.puts room.bits ws ps ≡ true

-- the rows that the words say
abbrev pub rows_of : Table → List ℕ → List Row
rows_of t ws = run_rows t.room.puts ws t.taken

-- the words of a row's puts
abbrev pub filled_of : Table → List ℕ → ℕ → List ℕ
filled_of t ws row = filled t.room.puts ws t.taken row
