use Rattle.std.proofs.Common.{◌∷◌, length, get_or, sym, refl, ap, ◌∙◌, arith}
use Rattle.run_rows.specs.RunTable.{filled_of}
use Rattle.run_rows.proofs.RunZeros.{words_long, front_last, next_is, none_is, zeros_up, zeros_inside, zeros_end}
use Rattle.run_rows.proofs.runs.RunRows.row_zeros.Goals as goal

pub split_at-requires : goal.split_at-requires
split_at-requires c =
    let s = c.args.self.now.table in
    omega (arith, c.ended.ensures.within, words_long s.room c.args.self.now.words.now s.taken c.args.row.index c.args.self.now.good c.args.row.low, ap length c.filled.ensures)

pub zeros_by-requires : goal.zeros_by-requires
zeros_by-requires c =
    let s = c.args.self.now.table in
    let row = c.args.row in
    let ws = filled_of s c.args.self.now.words.now row.index in
    let good = c.args.self.now.good in
    let at = c.split_at in
    let k = c.ended in
    let l = c.last_mark-before.ensures in
    let long = words_long s.room c.args.self.now.words.now s.taken row.index good row.low in
    let b = front_last ws c.filled.result.now at.result.0.now at.result.1.now k.result c.filled.ensures at.ensures.front at.ensures.back (omega (arith, long, k.ensures.within)) in
    let n = next_is ws c.filled.result.now at.result.0.now at.result.1.now k.result c.filled.ensures at.ensures.front at.ensures.back c.in-Some.next.now c.in-Some.ensures.value in
    record {
      past = rw (l.end, b) k.ensures.before;
      up = rw (l.zeros, b, c.from.ensures.1, ← n.1) (zeros_up s.room c.args.self.now.words.now s.taken row.index good row.low k.result (omega (arith, long, n.0)));
    }

pub returns-in-Some : goal.returns-in-Some
returns-in-Some c =
    let s = c.args.self.now.table in
    let row = c.args.row in
    let ws = filled_of s c.args.self.now.words.now row.index in
    let good = c.args.self.now.good in
    let at = c.split_at in
    let k = c.ended in
    let l = c.last_mark-before.ensures in
    let long = words_long s.room c.args.self.now.words.now s.taken row.index good row.low in
    let b = front_last ws c.filled.result.now at.result.0.now at.result.1.now k.result c.filled.ensures at.ensures.front at.ensures.back (omega (arith, long, k.ensures.within)) in
    let n = next_is ws c.filled.result.now at.result.0.now at.result.1.now k.result c.filled.ensures at.ensures.front at.ensures.back c.in-Some.next.now c.in-Some.ensures.value in
    let z = zeros_inside s.room c.args.self.now.words.now s.taken row.index good row.low c.args.position k.result (get_or (0 ∷ ws) k.result 0)
    c.requires refl k.ensures.before (omega (arith, long, n.0)) (k.ensures.after (omega (arith, long, n.0))) in
    c.zeros_by.ensures ∙ rw (l.zeros, l.end, b, c.from.ensures.1, ← n.1) (sym z)

pub returns-in-None : goal.returns-in-None
returns-in-None c =
    let s = c.args.self.now.table in
    let row = c.args.row in
    let ws = filled_of s c.args.self.now.words.now row.index in
    let good = c.args.self.now.good in
    let at = c.split_at in
    let k = c.ended in
    let long = words_long s.room c.args.self.now.words.now s.taken row.index good row.low in
    let b = front_last ws c.filled.result.now at.result.0.now at.result.1.now k.result c.filled.ensures at.ensures.front at.ensures.back (omega (arith, long, k.ensures.within)) in
    let n = none_is ws c.filled.result.now at.result.0.now at.result.1.now k.result c.filled.ensures at.ensures.front at.ensures.back c.in-None.ensures.value in
    let z = zeros_end s.room c.args.self.now.words.now s.taken row.index good row.low c.args.position k.result (get_or (0 ∷ ws) k.result 0)
    c.requires refl k.ensures.before (omega (arith, long, n, k.ensures.within)) in
    c.last_mark-before.ensures.zeros ∙ rw b (sym z)
