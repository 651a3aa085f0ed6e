use Rattle.std.proofs.Common.{length}
use Rattle.run_rows.proofs.RunPuts.{place}
use Rattle.run_rows.proofs.RunZeros.{few_taken}
use Rattle.run_rows.proofs.runs.Table.filled.Goals as goal

pub slice_bounds-result-end : goal.slice_bounds-result-end
slice_bounds-result-end c =
    let s = c.args.self.now in
    let row = c.args.row in
    rw c.from.ensures (place s.room.puts row.index _ (length c.args.words.now) row.low (few_taken s.room c.args.words.now s.taken row.index c.requires row.low) c.requires.enough)
