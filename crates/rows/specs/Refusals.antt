-- The number of each refusal of a store of bit rows.
use Rattle.std.specs.Prelude.{ℕ}
use Rattle.rows.specs.declared.refusal.RowsRefusal.{RowsRefusal}
use Rattle.rows.specs.declared.refusal.RowsRefusal.TheVariants.{RoomOutOfBounds, TooFewWords, NoSuchRow, EmptyPut, PutsFull, RowTooLong, PastEnd}

abbrev pub rows_refusal_number : RowsRefusal → ℕ
rows_refusal_number RoomOutOfBounds = 21
rows_refusal_number TooFewWords = 22
rows_refusal_number NoSuchRow = 23
rows_refusal_number EmptyPut = 24
rows_refusal_number PutsFull = 25
rows_refusal_number RowTooLong = 26
rows_refusal_number PastEnd = 27
