use Rattle.std.proofs.Common.{◌≡◌, ◌-◌, ap, ◌∙◌, length}
use Rattle.std.proofs.lemmas.Option.{unwrap_or-slice_get}
use Rattle.std.specs.Option.{unwrap_or}
use Rattle.run_rows.specs.RunWords.{end_of, zeros_of, last_word}
use Rattle.run_rows.proofs.RunZeros.{last_of}
use Rattle.run_rows.proofs.runs.last_mark.Goals as goal

pub returns : goal.returns
returns c =
    let ws = c.args.words.now in
    let e : c.unwrap_or.result ≡ last_word 0 ws = c.unwrap_or.ensures ∙ ap (λ o. unwrap_or o 0) (c.copied.ensures ∙ c.last.ensures.value) ∙ unwrap_or-slice_get ws (length ws - 1) 0 ∙ last_of ws in
    record { end = c.from.ensures.0 ∙ ap end_of e; zeros = c.from.ensures.1 ∙ ap zeros_of e }
