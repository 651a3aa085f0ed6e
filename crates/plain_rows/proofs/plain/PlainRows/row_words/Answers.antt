use Rattle.plain_rows.proofs.PlainExtends.{row_halves}
use Rattle.plain_rows.proofs.plain.PlainRows.row_words.Goals as goal

pub returns-clause-bits : goal.returns-clause-bits
returns-clause-bits c =
    (row_halves c.args.self.now.table c.args.self.now.words.now c.args.row.index c.args.self.now.good c.args.row.low c.bit_words-blocks.result c.bit_words-blocks.ensures _ _ c.split_at.ensures.front c.split_at.ensures.back).words

pub returns-clause-counts : goal.returns-clause-counts
returns-clause-counts c =
    (row_halves c.args.self.now.table c.args.self.now.words.now c.args.row.index c.args.self.now.good c.args.row.low c.bit_words-blocks.result c.bit_words-blocks.ensures _ _ c.split_at.ensures.front c.split_at.ensures.back).counts
