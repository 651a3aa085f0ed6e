use Rattle.std.proofs.Common.{◌≡◌, ◌+◌, arith}
use Rattle.plain_rows.proofs.PlainZeros.{place, zeros_found}
use Rattle.plain_rows.proofs.plain.PlainRows.row_zeros.Goals as goal

pub bounds-counts-m : goal.bounds-counts-m
bounds-counts-m c =
    rw c.row_words.ensures.wide.1 (place c.args.self.now.table c.args.self.now.words.now c.args.row.index c.in-Some.last c.args.self.now.good c.args.row.low (omega (arith, c.in-Some.ensures)))

pub bounds-bits-m : goal.bounds-bits-m
bounds-bits-m c =
    rw c.row_words.ensures.wide.0 (place c.args.self.now.table c.args.self.now.words.now c.args.row.index c.in-Some.last c.args.self.now.good c.args.row.low (omega (arith, c.in-Some.ensures)))

pub returns : goal.returns
returns c =
    let e : c.args.position ≡ c.in-Some.last + 1 = omega (arith, c.in-Some.ensures) in
    rw (c.low_zeros.ensures, c.bits_to.ensures, e)
    (zeros_found c.args.self.now.table c.args.self.now.words.now c.args.row.index c.in-Some.last c.args.self.now.good c.args.row.low (omega (arith, c.in-Some.ensures))
    c.row_words.result.0.now c.row_words.result.1.now (record { words = c.row_words.ensures.bits; counts = c.row_words.ensures.counts }))
