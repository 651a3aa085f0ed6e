-- What a store that keeps its puts means, and the words of a row's puts in it.
use Rattle.std.specs.Prelude.{ℕ, List}
use Rattle.rows.specs.Meaning.{Row}
use Rattle.run_rows.specs.declared.runs.RunRows.{RunRows}
use Rattle.run_rows.specs.RunTable.{rows_of, filled_of}

abbrev pub store_rows : RunRows → List Row
store_rows s = rows_of s.table s.words.now

abbrev pub store_words : RunRows → ℕ → List ℕ
store_words s row = filled_of s.table s.words.now row
