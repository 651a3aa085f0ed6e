-- What a store that keeps its bits has beside its words, and what holds of these and the words.
use Rattle.std.specs.Prelude.{◌≡◌, ℕ, ◌*◌, ◌<◌, ◌≤◌, Bool, List, ◌++◌, map, length, take, drop, replicate, slice_index, slice_index_or, slice_set}
use Rattle.std.specs.List.{range_with_len}
use Rattle.rows.specs.declared.room.Room.{Room}
use Rattle.rows.specs.Meaning.{Row, row_at}
use Rattle.plain_rows.specs.declared.plain.Filled.{Filled}
use Rattle.plain_rows.specs.declared.plain.Table.{Table}
use Rattle.plain_rows.specs.PlainWords.{bit_words, plain_used, coded, bits_of}

-- how many bits and puts a row has by the table
abbrev pub filled_at : List Filled → ℕ → Filled
filled_at table row = slice_index_or table row (record { bits = 0; puts = 0 })

-- the words of a row, and what they are for a row of these bits: L of bits and L of counts
abbrev pub words_at : ℕ → List ℕ → ℕ → List ℕ
words_at L ws row = take (2 * L) (drop (2 * L * row) ws)

abbrev pub IsRow : ℕ → List Bool → List ℕ → Type 0
IsRow L bs ws = (i : ℕ) → i < 2 * L → slice_index ws i ≡ coded L bs i

-- the rows that the words and the table say
abbrev pub row_of : ℕ → List ℕ → List Filled → ℕ → Row
row_of L ws table row = record { bits = bits_of (words_at L ws row) (filled_at table row).bits; puts = (filled_at table row).puts }

unfoldable pub plain_rows : ℕ → List ℕ → List Filled → List Row
plain_rows L ws table = map (row_of L ws table) (range_with_len 0 8)

-- each row's words are those of its bits
abbrev pub Kept : ℕ → List ℕ → List Filled → Type 0
Kept L ws table = (row : ℕ) → row < 8 → IsRow L (row_of L ws table row).bits (words_at L ws row)

-- what holds of a room, the words, and the table
pub record Sound (room : Room) (ws : List ℕ) (table : List Filled) : Type 0 where
  pub few : room.puts ≤ 512
  pub narrow : room.bits ≤ 33554432
  pub enough : plain_used room ≤ length ws
  pub eight : length table ≡ 8
  pub within : (row : ℕ) → ((filled_at table row).bits ≤ room.bits) × ((filled_at table row).puts ≤ room.puts)
  pub ok : Kept (bit_words room.bits) ws table

abbrev pub Good : Table → List ℕ → Type 0
Good t ws = Sound t.room ws t.rows

abbrev pub rows_of : Table → List ℕ → List Row
rows_of t ws = plain_rows (bit_words t.room.bits) ws t.rows

-- `count` copies of a bit more, by no put
abbrev pub extended : Row → Bool → ℕ → Row
extended r bit count = record { bits = r.bits ++ replicate count bit; puts = r.puts }

-- `count` copies of a bit were appended to a row of s and ws, and their put is not counted yet
pub record Grown (row : ℕ) (bit : Bool) (count : ℕ) (s : Table) (ws : List ℕ) (t : Table) (vs : List ℕ) : Type 0 where
  pub good : Good t vs
  pub rows : rows_of t vs ≡ slice_set (rows_of s ws) row (extended (row_at (rows_of s ws) row) bit count)
  pub room : t.room ≡ s.room
  pub rest : drop (plain_used s.room) vs ≡ drop (plain_used s.room) ws
