-- One run more: what a put that is taken and one that is refused do to the runs that are left, from run i on; and what is left after the last.
use Rattle.std.proofs.Common.{◌≡◌, ℕ, ◌+◌, ◌<◌, ◌≤◌, Bool, List, length, get_or, drop, Ok, Err, Result}
use Rattle.std.proofs.lemmas.List.{at_drop_more, at_drop_all}
use Rattle.rows.specs.declared.refusal.RowsRefusal.{RowsRefusal}
use Rattle.rows.specs.declared.room.Room.{Room}
use Rattle.rows.specs.Meaning.{Row, put_answer, after_put, left_by}
use Rattle.compare_rows.specs.declared.append.Run.{Run}
use Rattle.compare_rows.specs.Appending.{appended, appended_words}

module _ (wrote : Room → List Row → List ℕ → ℕ → Bool → ℕ → List ℕ) (room : Room) (row : ℕ) (rows : List Row) (ws : List ℕ) (runs : List Run) (i : ℕ) where
  module _ (d : Run) (more : i < length runs) (rows' : List Row) (ws' : List ℕ) (answer : Result (Unit {0}) RowsRefusal)
      (answer_is : answer ≡ put_answer room rows row (get_or runs i d).count)
      (rows_is : rows' ≡ after_put room rows row (get_or runs i d).bit (get_or runs i d).count)
      (ws_is : ws' ≡ left_by (put_answer room rows row (get_or runs i d).count) (wrote room rows ws row (get_or runs i d).bit (get_or runs i d).count) ws) where
    pub rows_taken : answer ≡ Ok tt → appended room row rows' (drop (i + 1) runs) ≡ appended room row rows (drop i runs)
    rows_taken e = rw (at_drop_more (appended room row rows) runs i d more, rows_is, ← answer_is, e)

    pub words_taken : answer ≡ Ok tt → appended_words wrote room row rows' ws' (drop (i + 1) runs) ≡ appended_words wrote room row rows ws (drop i runs)
    words_taken e = rw (at_drop_more (appended_words wrote room row rows ws) runs i d more, rows_is, ws_is, ← answer_is, e)

    pub rows_refused : (x : RowsRefusal) → answer ≡ Err x → record { answer = Err x; rows = rows' } ≡ appended room row rows (drop i runs)
    rows_refused x e = rw (at_drop_more (appended room row rows) runs i d more, rows_is, ← answer_is, e)

    pub words_refused : (x : RowsRefusal) → answer ≡ Err x → ws' ≡ appended_words wrote room row rows ws (drop i runs)
    words_refused x e = rw (at_drop_more (appended_words wrote room row rows ws) runs i d more, ws_is, ← answer_is, e)

  module _ (none : length runs ≤ i) where
    pub rows_all : record { answer = Ok tt; rows = rows } ≡ appended room row rows (drop i runs)
    rows_all = rw (at_drop_all (appended room row rows) runs i none)

    pub words_all : ws ≡ appended_words wrote room row rows ws (drop i runs)
    words_all = rw (at_drop_all (appended_words wrote room row rows ws) runs i none)
