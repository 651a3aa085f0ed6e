use Rattle.std.proofs.Common.{sym}
use Rattle.plain_rows.proofs.PlainExtends.{length_in}
use Rattle.plain_rows.proofs.plain.PlainRows.row_length.Goals as goal

pub returns : goal.returns
returns c = sym (length_in c.args.self.now.table c.args.self.now.words.now c.args.row.index c.args.row.low)
