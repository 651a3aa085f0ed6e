-- A put that is taken: s becomes t by `append`, and then the put is counted.
use Rattle.std.proofs.Common.{◌≡◌, ℕ, ◌+◌, ◌<◌, ◌≤◌, Bool, List, length, set, Ok, sym, refl, ap, ◌∙◌, arith}
use Rattle.std.proofs.lemmas.List.{set-set}
use Rattle.rows.specs.Meaning.{Row, row_at, FitBy, longer, with_put}
use Rattle.plain_rows.specs.declared.plain.Filled.{Filled}
use Rattle.plain_rows.specs.declared.plain.Table.{Table}
use Rattle.plain_rows.specs.PlainWords.{bit_words, plain_wrote}
use Rattle.plain_rows.specs.PlainTable.{Good, Grown, filled_at, row_of, rows_of}
use Rattle.plain_rows.proofs.PlainExtends.{row_in, length_in, grown_row}
use Rattle.plain_rows.proofs.PlainImages.{words_are}
use Rattle.plain_rows.proofs.PlainPuts.{Written, sound_after, rows_after}

module _ (s : Table) (ws : List ℕ) (row : ℕ) (bit : Bool) (count : ℕ) (low : row < 8)
    (taken : FitBy s.room (row_at (rows_of s ws) row).puts (length (row_at (rows_of s ws) row).bits) count (Ok tt)) where
  abbrev R : Row
  R = row_at (rows_of s ws) row

  pub fits : length R.bits + count ≤ s.room.bits
  fits = taken.2

  module _ (t : Table) (vs : List ℕ) (long : Grown row bit count s ws t vs) where
    abbrev L : ℕ
    L = bit_words t.room.bits

    abbrev new : Filled
    new = record { bits = (filled_at t.rows row).bits; puts = (filled_at t.rows row).puts + 1 }

    abbrev u : Table
    u = record t { rows = set t.rows row new }

    same : Written L row (row_of L vs t.rows row).bits vs vs
    same = record { fit = long.good.ok row low; same = refl; others = λ r h ne. refl; rest = refl }

    pub few : (filled_at t.rows row).puts + 1 ≤ t.room.puts
    few =
        let e = ap (λ (r : Row). r.puts) (sym (row_in t vs row low) ∙ grown_row row bit count s ws t vs low long) in
        rw long.room (omega (arith, e, taken.1))

    size : length (row_of L vs t.rows row).bits ≡ (filled_at t.rows row).bits
    size = ap (λ (r : Row). length r.bits) (sym (row_in t vs row low)) ∙ length_in t vs row low

    pub good_put : Good u vs
    good_put = sound_after t.room vs vs t.rows row new _ long.good low same size (long.good.within row).0 few

    pub rows_put : rows_of u vs ≡ with_put (rows_of s ws) row bit count
    rows_put =
        rows_after t.room vs vs t.rows row new _ long.good low same size (long.good.within row).0 few
        ∙ ap (λ (q : Row). set (rows_of t vs) row (record { bits = q.bits; puts = q.puts + 1 })) (sym (row_in t vs row low) ∙ grown_row row bit count s ws t vs low long)
        ∙ ap (λ (q : List Row). set q row (longer R bit count)) long.rows ∙ set-set (rows_of s ws) row _ (longer R bit count)

    pub words_put : vs ≡ plain_wrote s.room (rows_of s ws) ws row bit count
    words_put = words_are u vs s.room (with_put (rows_of s ws) row bit count) ws good_put long.room rows_put long.rest
