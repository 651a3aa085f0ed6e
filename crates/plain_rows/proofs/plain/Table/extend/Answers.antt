use Rattle.std.proofs.Common.{sym, arith}
use Rattle.plain_rows.proofs.PlainExtends.{length_in, half_is, row_before, grown}
use Rattle.plain_rows.proofs.plain.Table.extend.Goals as goal

pub write_run-requires-clause-row : goal.write_run-requires-clause-row
write_run-requires-clause-row c =
    let s = c.args.self.now in
    let row = c.args.row in
    row_before s c.args.words.now row.index c.requires.good row.low c.bit_words-blocks.result _ c.bit_words-blocks.ensures (sym (length_in s c.args.words.now row.index row.low))

pub write_run-requires-clause-inside : goal.write_run-requires-clause-inside
write_run-requires-clause-inside c = omega (arith, length_in c.args.self.now c.args.words.now c.args.row.index c.args.row.low, c.requires.inside)

pub write_run-requires-clause-fits : goal.write_run-requires-clause-fits
write_run-requires-clause-fits c =
    let s = c.args.self.now in
    let ws = c.args.words.now in
    let row = c.args.row in
    let e = length_in s ws row.index row.low in
    omega (arith, e, half_is s ws row.index c.requires.good row.low c.bit_words-blocks.result _ c.bit_words-blocks.ensures (sym e), c.requires.fits)

pub returns : goal.returns
returns c =
    let s = c.args.self.now in
    let row = c.args.row in
    grown s c.args.words.now row.index c.requires.good row.low c.bit_words-blocks.result _ c.bit_words-blocks.ensures (sym (length_in s c.args.words.now row.index row.low))
    c.args.bit c.args.count c.write_run.new.words (omega (arith, length_in s c.args.words.now row.index row.low, c.requires.fits)) c.write_run.auto.words c.write_run.ensures
