-- What a store that keeps its bits means.
use Rattle.std.specs.Prelude.{List}
use Rattle.rows.specs.Meaning.{Row}
use Rattle.plain_rows.specs.declared.plain.PlainRows.{PlainRows}
use Rattle.plain_rows.specs.PlainTable.{rows_of}

abbrev pub store_rows : PlainRows → List Row
store_rows s = rows_of s.table s.words.now
