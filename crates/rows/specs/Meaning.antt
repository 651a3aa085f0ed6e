-- What a store of bit rows means, and what each call answers and leaves.
use Rattle.std.specs.Prelude.{◌≡◌, ℕ, ◌+◌, ◌<◌, ◌≤◌, Bool, cond, not, ◌||◌, List, [], ◌++◌, length, take, drop, replicate, Ok, Err, count_by, Result, ◌==◌, nat_le, nat_lt, slice_index_or, slice_set}
use Rattle.rows.specs.declared.refusal.RowsRefusal.{RowsRefusal}
use Rattle.rows.specs.declared.refusal.RowsRefusal.TheVariants.{RoomOutOfBounds, TooFewWords, NoSuchRow, EmptyPut, PutsFull, RowTooLong, PastEnd}
use Rattle.rows.specs.declared.room.Room.{Room}

-- one row: its bits in order, and the puts taken since it was last cleared
pub record Row : Type 0 where
  pub bits : List Bool
  pub puts : ℕ

abbrev pub empty : Row
empty = record { bits = []; puts = 0 }

-- eight rows, numbered from 0, with no bit and no put
abbrev pub cleared : List Row
cleared = replicate 8 empty

-- a row above 7 reads as empty
abbrev pub row_at : List Row → ℕ → Row
row_at rows row = slice_index_or rows row empty

-- how many of some bits are 0
abbrev pub zeros_in : List Bool → ℕ
zeros_in bs = count_by not bs

-- what joins the rows to their room
pub record Within (room : Room) (rows : List Row) : Type 0 where
  pub few : room.puts ≤ 512
  pub narrow : room.bits ≤ 33554432
  pub taken : (row : ℕ) → (row_at rows row).puts ≤ room.puts
  pub long : (row : ℕ) → length (row_at rows row).bits ≤ room.bits

-- ---- what is refused, in this order

abbrev pub row_answer : ℕ → Result ℕ RowsRefusal
row_answer row = cond (nat_lt 7 row) (Err NoSuchRow) (Ok row)

-- whether `count` bits more, by one put, fit a row of so many puts and bits
abbrev pub fit_answer : Room → ℕ → ℕ → ℕ → Result (Unit {0}) RowsRefusal
fit_answer room puts bits count =
    cond (count == 0) (Err EmptyPut)
    (cond (nat_le room.puts puts) (Err PutsFull)
    (cond (nat_lt room.bits (bits + count)) (Err RowTooLong) (Ok tt)))

-- the law of `fit_answer`: when such a put is taken, and when each refusal comes
abbrev pub FitBy : Room → ℕ → ℕ → ℕ → Result (Unit {0}) RowsRefusal → Type 0
FitBy room puts bits count (Ok x) = (1 ≤ count) × (puts + 1 ≤ room.puts) × (bits + count ≤ room.bits)
FitBy room puts bits count (Err EmptyPut) = count ≡ 0
FitBy room puts bits count (Err PutsFull) = (1 ≤ count) × (room.puts ≤ puts)
FitBy room puts bits count (Err RowTooLong) = (1 ≤ count) × (puts + 1 ≤ room.puts) × (room.bits < bits + count)
FitBy room puts bits count (Err RoomOutOfBounds) = ⊥
FitBy room puts bits count (Err TooFewWords) = ⊥
FitBy room puts bits count (Err NoSuchRow) = ⊥
FitBy room puts bits count (Err PastEnd) = ⊥

abbrev pub end_answer : ℕ → ℕ → Result (Unit {0}) RowsRefusal
end_answer bits position = cond (nat_lt bits position) (Err PastEnd) (Ok tt)

-- what comes after a test that did not refuse
abbrev pub next : {A B : Type 0} → Result A RowsRefusal → (A → Result B RowsRefusal) → Result B RowsRefusal
next (Ok a) f = f a
next (Err e) f = Err e

-- ---- the calls

abbrev pub put_answer : Room → List Row → ℕ → ℕ → Result (Unit {0}) RowsRefusal
put_answer room rows row count = next (row_answer row) (λ r. fit_answer room (row_at rows r).puts (length (row_at rows r).bits) count)

-- `count` copies of a bit more, by one put
abbrev pub longer : Row → Bool → ℕ → Row
longer r bit count = record { bits = r.bits ++ replicate count bit; puts = r.puts + 1 }

abbrev pub with_put : List Row → ℕ → Bool → ℕ → List Row
with_put rows row bit count = slice_set rows row (longer (row_at rows row) bit count)

-- what a call that answers r leaves: what it makes, or where it refuses, what was there
abbrev pub left_by : {A : Type 0} → Result (Unit {0}) RowsRefusal → A → A → A
left_by (Ok x) made before = made
left_by (Err e) made before = before

abbrev pub after_put : Room → List Row → ℕ → Bool → ℕ → List Row
after_put room rows row bit count = left_by (put_answer room rows row count) (with_put rows row bit count) rows

abbrev pub length_answer : List Row → ℕ → Result ℕ RowsRefusal
length_answer rows row = next (row_answer row) (λ r. Ok (length (row_at rows r).bits))

abbrev pub zeros_answer : List Row → ℕ → ℕ → Result ℕ RowsRefusal
zeros_answer rows row position =
    next (row_answer row) (λ r. next (end_answer (length (row_at rows r).bits) position) (λ _. Ok (zeros_in (take position (row_at rows r).bits))))

-- ---- check and making, where `used` says how many words a store of a room uses, and so many are `lent`

abbrev pub bounds_answer : Room → Result (Unit {0}) RowsRefusal
bounds_answer room =
    cond (room.puts == 0 || (nat_lt 512 room.puts || (room.bits == 0 || nat_lt 33554432 room.bits))) (Err RoomOutOfBounds) (Ok tt)

abbrev pub words_answer : ℕ → ℕ → Result (Unit {0}) RowsRefusal
words_answer used lent = cond (nat_lt lent used) (Err TooFewWords) (Ok tt)

abbrev pub check_answer : (Room → ℕ) → Room → ℕ → Result (Unit {0}) RowsRefusal
check_answer used room lent = next (bounds_answer room) (λ _. words_answer (used room) lent)

-- the room that a store is made with
abbrev pub granted : (Room → ℕ) → Room → ℕ → Room
granted used room lent = left_by (check_answer used room lent) room (record { puts = 0; bits = 0 })

-- the first n words, where there are so many, are 0, and the others stay
abbrev pub zeroed : ℕ → List ℕ → List ℕ
zeroed n ws = replicate n 0 ++ drop n ws
