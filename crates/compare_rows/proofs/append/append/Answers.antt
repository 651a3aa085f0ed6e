use Rattle.std.proofs.Common.{◌+◌, ◌<◌, ◌≤◌, length, drop, ap, ◌∙◌, arith}
use Rattle.std.proofs.lemmas.Result.{err_from_is_err_and}
use Rattle.rows.specs.declared.room.Room.{Room}
use Rattle.compare_rows.specs.Appending.{appended, appended_words}
use Rattle.compare_rows.proofs.Appends.{rows_taken, words_taken, rows_refused, words_refused, rows_all, words_all}
use Rattle.compare_rows.proofs.append.append.Goals as goal

pub returns-in_err-put : goal.returns-in_err-put
returns-in_err-put g c =
    let S = g.S.BitRows in
    let l = c.loop-run in
    let p = c.put.ensures in
    let t = c.put.new.self in
    let runs = c.args.runs.now in
    let room = S.limits l.rows in
    let x = c.in_err-put.field-0.0 in
    let h : l.run-index < length runs = omega (arith, c.loop-run-test.true) in
    let e = rows_refused S.wrote room c.args.row (S.rows l.rows) (S.lent l.rows) runs l.run-index _ h (S.rows t) (S.lent t) c.put.result p.answer p.rows p.words x c.in_err-put.was ∙ l.invariant.2 in
    let w = words_refused S.wrote room c.args.row (S.rows l.rows) (S.lent l.rows) runs l.run-index _ h (S.rows t) (S.lent t) c.put.result p.answer p.rows p.words x c.in_err-put.was ∙ l.invariant.3 in
    let q = err_from_is_err_and c.from_residual.result c.from_residual.ensures.1 in
    record {
      answer = q.1 ∙ rw (q.2, ← e);
      rows = rw (← e);
      limits = p.limits ∙ l.invariant.0;
      words = w;
      place = p.place ∙ l.invariant.1;
    }

pub loop-run-preserved : goal.loop-run-preserved
loop-run-preserved g c =
    let S = g.S.BitRows in
    let l = c.loop-run in
    let p = c.put.ensures in
    let t = c.put.new.self in
    let runs = c.args.runs.now in
    let room = S.limits l.rows in
    let h : l.run-index < length runs = omega (arith, c.loop-run-test.true) in (
      p.limits ∙ l.invariant.0,
      p.place ∙ l.invariant.1,
      ap (λ (r : Room). appended r c.args.row (S.rows t) (drop (l.run-index + 1) runs)) p.limits
          ∙ rows_taken S.wrote room c.args.row (S.rows l.rows) (S.lent l.rows) runs l.run-index _ h (S.rows t) (S.lent t) c.put.result p.answer p.rows p.words c.in_ok-put.was ∙ l.invariant.2,
      ap (λ (r : Room). appended_words S.wrote r c.args.row (S.rows t) (S.lent t) (drop (l.run-index + 1) runs)) p.limits
          ∙ words_taken S.wrote room c.args.row (S.rows l.rows) (S.lent l.rows) runs l.run-index _ h (S.rows t) (S.lent t) c.put.result p.answer p.rows p.words c.in_ok-put.was ∙ l.invariant.3,
    )

pub returns : goal.returns
returns g c =
    let S = g.S.BitRows in
    let l = c.loop-run in
    let runs = c.args.runs.now in
    let room = S.limits l.rows in
    let h : length runs ≤ l.run-index = omega (arith, c.loop-run-test.false) in
    let e = rows_all S.wrote room c.args.row (S.rows l.rows) (S.lent l.rows) runs l.run-index h ∙ l.invariant.2 in
    let w = words_all S.wrote room c.args.row (S.rows l.rows) (S.lent l.rows) runs l.run-index h ∙ l.invariant.3 in
    record { answer = rw (← e); rows = rw (← e); limits = l.invariant.0; words = w; place = l.invariant.1 }
