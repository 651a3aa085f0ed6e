use Rattle.std.proofs.Common.{sym, ap, ◌∙◌}
use Rattle.rows.specs.Meaning.{Row}
use Rattle.plain_rows.proofs.PlainExtends.{row_in}
use Rattle.plain_rows.proofs.plain.PlainRows.row_puts.Goals as goal

pub returns : goal.returns
returns c = c.from.ensures ∙ sym (ap (λ (r : Row). r.puts) (row_in c.args.self.now.table c.args.self.now.words.now c.args.row.index c.args.row.low))
