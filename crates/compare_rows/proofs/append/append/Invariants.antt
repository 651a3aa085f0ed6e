use Rattle.std.proofs.Common.{◌≡◌, drop}
use Rattle.compare_rows.specs.Appending.{appended, appended_words}
use Rattle.compare_rows.proofs.append.append.Given as goal

abbrev pub invariant-loop-run : goal.invariant-loop-run
invariant-loop-run g l =
    let S = g.S.BitRows in
    (S.limits l.rows ≡ S.limits l.initial.rows)
    × (S.place l.rows ≡ S.place l.initial.rows)
    × (appended (S.limits l.rows) l.row (S.rows l.rows) (drop l.run-index l.runs)
    ≡ appended (S.limits l.initial.rows) l.row (S.rows l.initial.rows) l.runs)
    × (appended_words S.wrote (S.limits l.rows) l.row (S.rows l.rows) (S.lent l.rows) (drop l.run-index l.runs)
    ≡ appended_words S.wrote (S.limits l.initial.rows) l.row (S.rows l.initial.rows) (S.lent l.initial.rows) l.runs)
