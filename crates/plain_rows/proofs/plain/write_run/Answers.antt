use Rattle.std.proofs.Common.{ℕ, refl, ◌/◌, length, ⊎_elim, arith, length-set}
use Rattle.plain_rows.specs.PlainWords.{bits_of}
use Rattle.plain_rows.specs.PlainSound.{length-bits}
use Rattle.plain_rows.proofs.PlainSteps.{count_small, word_only, word_and_count}
use Rattle.plain_rows.proofs.plain.write_run.Goals as goal
use Rattle.plain_rows.proofs.plain.write_run.Goals.{else-end-eq0-via-then-end-eq0+else-next-bits, else-end-eq0-via-else-end-eq0}

pub next_count-requires : goal.next_count-requires
next_count-requires c =
    let ws = c.args.words.now in
    let n = c.args.size in
    let p = c.requires in
    let two = c.split_at_mut-bits in
    omega (
      arith,
      p.short,
      count_small (length ws / 2) ws two.result.0.now two.result.1.now (bits_of ws n) n c.args.bit c.args.count c.run_at.result
          p.row two.ensures.value two.ensures.front_len (omega (arith, two.ensures.back_len)) (length-bits ws n) p.some p.inside p.fits c.run_at.ensures,
    )

pub returns-then-next-bits : goal.returns-then-next-bits
returns-then-next-bits c =
    let ws = c.args.words.now in
    let n = c.args.size in
    let p = c.requires in
    let two = c.split_at_mut-bits in
    rw c.next_count.ensures (word_and_count (length ws / 2) ws two.result.0.now two.result.1.now (bits_of ws n) n c.args.bit c.args.count c.run_at.result
    p.row two.ensures.value two.ensures.front_len (omega (arith, two.ensures.back_len)) (length-bits ws n) p.some p.inside p.fits c.run_at.ensures
    c.if-end-eq0.true (omega (arith, length-set {A = ℕ}, c.if-next-bits.true, two.ensures.front_len)) _ refl)

pub returns-else-end-eq0 : goal.returns-else-end-eq0
returns-else-end-eq0 c =
    let ws = c.args.words.now in
    let n = c.args.size in
    let p = c.requires in
    let two = c.split_at_mut-bits in
    let done = word_only (length ws / 2) ws two.result.0.now two.result.1.now (bits_of ws n) n c.args.bit c.args.count c.run_at.result
    p.row two.ensures.value two.ensures.front_len (omega (arith, two.ensures.back_len)) (length-bits ws n) p.some p.inside p.fits c.run_at.ensures
    (λ e l. ⊎_elim (λ v. omega (arith, length-set {A = ℕ}, v.1, two.ensures.front_len)) (λ v. v e) c.else-end-eq0.either) in
    elim c.else-end-eq0.branch [
      | else-end-eq0-via-then-end-eq0+else-next-bits w ↦ rw w.words-is done
      | else-end-eq0-via-else-end-eq0 w ↦ rw w.words-is done
    ]
