-- What a note answers and leaves, by the history alone.
use Rattle.std.specs.Prelude.{◌≡◌, ℕ, ◌+◌, ◌<◌, ◌≤◌, cond, ◌||◌, ◌⊎◌, List, [], ◌∷◌, ◌++◌, length, is_ok, Ok, Err, sum_by, Result, ◌==◌, nat_le, nat_lt}
use Rattle.classes.specs.declared.refusal.ClassRefusal.TheVariants.{ZeroRequest, AboveLargest, NoSuchClass}
use Rattle.classes.specs.Plan.{largest, class_answer}
use Rattle.profile.specs.declared.pending.Record.{Record}
use Rattle.profile.specs.declared.refusal.Refusal.{Refusal}
use Rattle.profile.specs.declared.refusal.Refusal.TheVariants.{Class, CountOutOfRange, RecordsFull, TotalTooLarge}
use Rattle.profile.specs.History.{Note, History, Setting}
use Rattle.profile.specs.Passing.{passing, onward}

-- the count of a note, unless it is 0 or above 65,535
abbrev pub count_answer : ℕ → Result ℕ Refusal
count_answer count = cond (count == 0 || nat_lt 65535 count) (Err CountOutOfRange) (Ok count)

-- the record that a note becomes: the plan refuses first, then the count is looked at
abbrev pub record_answer : List ℕ → ℕ → ℕ → Result Record Refusal
record_answer bs bytes count =
    passing Class (class_answer bs bytes) (λ class. onward (count_answer count) (λ n. Ok (record { class = class; count = n })))

-- whether there is room for a count more beside the records held, so many of them of so large a total
abbrev pub room_answer : ℕ → ℕ → ℕ → ℕ → ℕ → Result (Unit {0}) Refusal
room_answer records total len held count =
    cond (nat_le records len) (Err RecordsFull) (cond (nat_lt total (held + count)) (Err TotalTooLarge) (Ok tt))

-- how many requests some notes stand for
abbrev pub weight : List Note → ℕ
weight ns = sum_by (λ n. n.count) ns

-- what a note answers at a history: the plan's refusal, then that of the count, then those of the room, or the number of notes with this one
abbrev pub note_answer : Setting → History → ℕ → ℕ → Result ℕ Refusal
note_answer s h bytes count =
    onward (record_answer s.blocks bytes count) (λ _.
    onward (room_answer s.records s.total (length h.pending) (weight h.pending) count) (λ _.
    Ok (length h.pending + 1)))

-- a note that is taken comes last
abbrev pub noted : History → ℕ → ℕ → History
noted h bytes count = record { pending = h.pending ++ (record { bytes = bytes; count = count } ∷ []) }

abbrev pub after_note : Setting → History → ℕ → ℕ → History
after_note s h bytes count = cond (is_ok (note_answer s h bytes count)) (noted h bytes count) h

-- the law of `note_answer`: when a note is taken, and when each refusal comes

-- some block holds the request
pub record Served (bs : List ℕ) (bytes : ℕ) : Type 0 where
  pub some : 1 ≤ bytes
  pub fits : bytes ≤ largest bs

-- some block holds the request, and the count is in its bounds
pub record Sound (bs : List ℕ) (n : Note) : Type 0 where
  pub served : Served bs n.bytes
  pub counted : 1 ≤ n.count
  pub small : n.count ≤ 65535

pub record Takes (s : Setting) (h : History) (bytes count : ℕ) : Type 0 where
  pub sound : Sound s.blocks (record { bytes = bytes; count = count })
  pub few : length h.pending + 1 ≤ s.records
  pub light : weight h.pending + count ≤ s.total

abbrev pub Due : Setting → History → ℕ → ℕ → Refusal → Type 0
Due s h bytes count (Class ZeroRequest) = bytes ≡ 0
Due s h bytes count (Class AboveLargest) = largest s.blocks < bytes
Due s h bytes count (Class NoSuchClass) = ⊥
Due s h bytes count CountOutOfRange = Served s.blocks bytes × ((count ≡ 0) ⊎ (65535 < count))
Due s h bytes count RecordsFull = Sound s.blocks (record { bytes = bytes; count = count }) × (s.records ≤ length h.pending)
Due s h bytes count TotalTooLarge =
    Sound s.blocks (record { bytes = bytes; count = count }) × (length h.pending + 1 ≤ s.records) × (s.total < weight h.pending + count)

-- what a note that answers r was
abbrev pub NotedBy : Setting → History → ℕ → ℕ → Result ℕ Refusal → Type 0
NotedBy s h bytes count (Ok n) = Takes s h bytes count × (n ≡ length h.pending + 1)
NotedBy s h bytes count (Err e) = Due s h bytes count e
