use Rattle.std.proofs.Common.{◌≡◌, ◌+◌, ◌*◌, cond, refl, ◌∙◌, arith}
use Rattle.run_rows.specs.RunWords.{end_of, zeros_of, last_word}
use Rattle.run_rows.specs.RunTable.{filled_of}
use Rattle.run_rows.proofs.RunPuts.{last_less, left, fits, in_words, sound_after, rows_after, words_put}
use Rattle.run_rows.proofs.runs.RunRows.push.Goals as goal

pub next_mark-mark-requires : goal.next_mark-mark-requires
next_mark-mark-requires c =
    let s = c.args.self.now.table in
    let row = c.args.row in
    let w = last_word 0 (filled_of s c.args.self.now.words.now row.index) in
    let good = c.args.self.now.good in
    let l = c.last.ensures in
    record {
      short = omega (arith, l.end, good.narrow, fits s.room c.args.self.now.words.now s.taken row.index w good refl c.args.bit c.args.count row.low c.requires);
      low = rw (l.end, l.zeros) (last_less s.room c.args.self.now.words.now s.taken row.index w good refl);
    }

pub append-requires : goal.append-requires
append-requires c =
    let s = c.args.self.now.table in
    let row = c.args.row in
    let w = last_word 0 (filled_of s c.args.self.now.words.now row.index) in
    let good = c.args.self.now.good in
    record {
      few = omega (arith, good.few, left s.room c.args.self.now.words.now s.taken row.index w good refl c.args.bit c.args.count row.low c.requires);
      inside = in_words s.room c.args.self.now.words.now s.taken row.index w good refl c.args.bit c.args.count row.low c.requires;
    }

pub invariant_of-self : goal.invariant_of-self
invariant_of-self c =
    let s = c.args.self.now.table in
    let t = c.append.new.self in
    let row = c.args.row in
    let w = last_word 0 (filled_of s c.args.self.now.words.now row.index) in
    let good = c.args.self.now.good in
    let l = c.last.ensures in
    let n = c.next_mark-mark.ensures in
    let a = c.append.ensures in
    let x_is : c.from.result ≡ (end_of w + c.args.count) * 4294967296 + (zeros_of w + cond c.args.bit 0 c.args.count) = c.from.ensures ∙ rw (n.end, n.zeros, l.end, l.zeros) refl in
    record { good = sound_after s.room c.args.self.now.words.now s.taken row.index w good refl c.args.bit c.args.count row.low c.requires c.from.result x_is t.room c.append.new.words t.taken a.room a.words a.taken }

pub returns : goal.returns
returns c =
    let s = c.args.self.now.table in
    let t = c.append.new.self in
    let row = c.args.row in
    let w = last_word 0 (filled_of s c.args.self.now.words.now row.index) in
    let good = c.args.self.now.good in
    let l = c.last.ensures in
    let n = c.next_mark-mark.ensures in
    let a = c.append.ensures in
    let x_is : c.from.result ≡ (end_of w + c.args.count) * 4294967296 + (zeros_of w + cond c.args.bit 0 c.args.count) = c.from.ensures ∙ rw (n.end, n.zeros, l.end, l.zeros) refl in
    record {
      rows = rows_after s.room c.args.self.now.words.now s.taken row.index w good refl c.args.bit c.args.count row.low c.requires c.from.result x_is t.room c.append.new.words t.taken a.room a.words a.taken;
      limits = a.room;
      words = a.words ∙ words_put s.room c.args.self.now.words.now s.taken row.index w good refl c.args.bit c.args.count row.low c.requires c.from.result x_is;
      place = refl;
    }
