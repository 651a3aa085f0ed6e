use Rattle.std.proofs.Common.{sym, refl, ◌∙◌}
use Rattle.run_rows.specs.RunWords.{last_word}
use Rattle.run_rows.specs.RunTable.{filled_of}
use Rattle.run_rows.proofs.RunPuts.{length_is}
use Rattle.run_rows.proofs.runs.RunRows.row_length.Goals as goal

pub returns : goal.returns
returns c =
    let s = c.args.self.now.table in
    c.last.ensures.end ∙ sym (length_is s.room c.args.self.now.words.now s.taken c.args.row.index (last_word 0 (filled_of s c.args.self.now.words.now c.args.row.index)) c.args.self.now.good refl)
