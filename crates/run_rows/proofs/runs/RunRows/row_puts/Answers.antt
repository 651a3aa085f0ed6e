use Rattle.std.proofs.Common.{sym, ap, ◌∙◌}
use Rattle.rows.specs.Meaning.{Row}
use Rattle.run_rows.specs.RunChains.{rows_at}
use Rattle.run_rows.proofs.runs.RunRows.row_puts.Goals as goal

pub returns : goal.returns
returns c =
    let s = c.args.self.now.table in
    c.from.ensures ∙ sym (ap (λ (r : Row). r.puts) (rows_at s.room.puts c.args.self.now.words.now s.taken c.args.row.index))
