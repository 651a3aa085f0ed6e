use Rattle.std.proofs.Common.{rules, ◌≡◌, ap, true, false, length, nat_le, arith}
use Rattle.std.specs.List.Sorted.{IsPartitionPoint}
use Rattle.std.proofs.lemmas.List.Sorted.{IsPartitionPoint-from_clause}
use Rattle.std.proofs.lemmas.Bool.{leb-false}
use Rattle.run_rows.specs.RunWords.{end_of}
use Rattle.run_rows.specs.RunTable.{filled_of}
use Rattle.run_rows.proofs.RunZeros.{ends_part, chain, words_long, before_ends}
use Rattle.run_rows.proofs.runs.RunRows.ended.Goals as goal

pub returns : goal.returns
returns c =
    let s = c.args.self.now.table in
    let row = c.args.row in
    let p = c.args.position in
    let ws = filled_of s c.args.self.now.words.now row.index in
    let at = c.partition_point.result in
    let long = words_long s.room c.args.self.now.words.now s.taken row.index c.args.self.now.good row.low in
    let point : IsPartitionPoint (λ w. nat_le (end_of w) p ≡ true) (λ w. nat_le (end_of w) p ≡ false) c.filled.result.now at =
    IsPartitionPoint-from_clause (λ w. nat_le (end_of w) p) c.filled.result.now at c.partition_point.ensures.partitioned
    (rw c.filled.ensures (ends_part s.room.bits p ws (chain s.room c.args.self.now.words.now s.taken row.index c.args.self.now.good row.low))) (λ a r f' k. search rules) in
    record {
      within = omega (arith, long, ap length c.filled.ensures, c.partition_point.ensures.bound);
      before = rw c.filled.ensures at (before_ends p c.filled.result.now at point.0);
      after = λ l. rw (← c.filled.ensures) (leb-false _ _ (point.1 at 0 (omega arith) (omega (arith, l, long, ap length c.filled.ensures))));
    }
