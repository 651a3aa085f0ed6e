-- The words of one row's puts, and of eight rows: what they stand for, and that it is within the room.
use Rattle.std.specs.Prelude.{◌≡◌, ℕ, zero, suc, ◌+◌, ◌-◌, ◌*◌, ◌<◌, ◌≤◌, true, ◌⊎◌, List, [], ◌∷◌, length, take, drop, ◌==◌, nat_le, slice_index, refl}
use Rattle.std.proofs.Common.{ap, ◌∙◌, inl, inr, ⊎_elim, mul-suc, mul-zero, zero-add, arith}
use Rattle.std.proofs.lemmas.List.{length-append, length-replicate, drop-drop}
use Rattle.std.proofs.lemmas.Bool.{and_parts, or_cases, ltb-true, leb-true, eqb-true}
use Rattle.rows.specs.declared.room.Room.{Room}
use Rattle.rows.specs.Meaning.{Within, row_at}
use Rattle.run_rows.specs.RunWords.{end_of, zeros_of, run, bits_from, last_word, follows, chained, blank, well_laid, run_rows}

-- what `follows` says
pub record Step (wide d w : ℕ) : Type 0 where
  pub on : end_of d < end_of w
  pub fits : end_of w ≤ wide
  pub one : (zeros_of w ≡ zeros_of d) ⊎ (zeros_of w + end_of d ≡ zeros_of d + end_of w)

pub step_from : (wide d w : ℕ) → follows wide d w ≡ true → Step wide d w
step_from wide d w e =
    let a = and_parts _ _ e in
    let b = and_parts _ _ a.1 in
    record {
      on = ltb-true _ _ a.0;
      fits = leb-true _ _ b.0;
      one = ⊎_elim (λ h. inl (eqb-true (zeros_of w) (zeros_of d) h)) (λ h. inr (eqb-true (zeros_of w + end_of d) (zeros_of d + end_of w) h))
          (or_cases (zeros_of w == zeros_of d) (zeros_of w + end_of d == zeros_of d + end_of w) b.1);
    }

pub length-run : (wide d w : ℕ) → Step wide d w → length (run d w) + end_of d ≡ end_of w
length-run wide d w s = simp length-replicate (omega (arith, s.on))

pub length-bits : (wide d : ℕ) (ws : List ℕ) → chained wide d ws ≡ true → length (bits_from d ws) + end_of d ≡ end_of (last_word d ws)
length-bits wide d [] e = zero-add _
length-bits wide d (w ∷ ws) e =
    let p = and_parts _ _ e in
    let a = length-run wide d w (step_from wide d w p.0) in
    let b = length-bits wide w ws p.1 in
    let f = length-append (run d w) (bits_from w ws) in
    omega arith

pub last_fits : (wide d : ℕ) (ws : List ℕ) → chained wide d ws ≡ true → end_of d ≤ wide → end_of (last_word d ws) ≤ wide
last_fits wide d [] e h = h
last_fits wide d (w ∷ ws) e h =
    let p = and_parts _ _ e in last_fits wide w ws p.1 (step_from wide d w p.0).fits

-- the words of one row's puts
abbrev pub filled : ℕ → List ℕ → List ℕ → ℕ → List ℕ
filled most ws ps row = take (slice_index ps row) (drop (most * row) ws)

pub next_row : (most row : ℕ) (ws : List ℕ) → drop (most * row) (drop most ws) ≡ drop (most * suc row) ws
next_row most row ws = drop-drop (most * row) most ws ∙ ap (λ (n : ℕ). drop n ws) (omega (arith, mul-suc most row))

pub rows_at : (most : ℕ) (ws ps : List ℕ) (row : ℕ) →
    row_at (run_rows most ws ps) row ≡ record { bits = bits_from 0 (filled most ws ps row); puts = slice_index ps row }
rows_at most ws [] row = refl
rows_at most ws (p ∷ ps) zero = rw (mul-zero most) refl
rows_at most ws (p ∷ ps) (suc row) = rw (← next_row most row ws) (rows_at most (drop most ws) ps row)

-- what `well_laid` says of the first row and of the others
pub record FirstRow (most wide : ℕ) (ws : List ℕ) (p : ℕ) (ps : List ℕ) : Type 0 where
  pub low : p ≤ most
  pub chain : chained wide 0 (take p ws) ≡ true
  pub rest : blank (take (most - p) (drop p ws)) ≡ true
  pub more : well_laid most wide (drop most ws) ps ≡ true

pub laid_parts : (most wide : ℕ) (ws : List ℕ) (p : ℕ) (ps : List ℕ) → well_laid most wide ws (p ∷ ps) ≡ true → FirstRow most wide ws p ps
laid_parts most wide ws p ps e =
    let a = and_parts (nat_le p most) _ e in
    let b = and_parts (chained wide 0 (take p ws)) _ a.1 in
    let f = and_parts (blank (take (most - p) (drop p ws))) _ b.1 in
    record { low = leb-true p most a.0; chain = b.0; rest = f.0; more = f.1 }

pub laid_at : (most wide : ℕ) (ws ps : List ℕ) (row : ℕ) → well_laid most wide ws ps ≡ true →
    (slice_index ps row ≤ most) × (chained wide 0 (filled most ws ps row) ≡ true)
laid_at most wide ws [] row e = (omega arith, refl)
laid_at most wide ws (p ∷ ps) zero e =
    let h = laid_parts most wide ws p ps e in (h.low, rw (mul-zero most) h.chain)
laid_at most wide ws (p ∷ ps) (suc row) e =
    rw (← next_row most row ws) (laid_at most wide (drop most ws) ps row (laid_parts most wide ws p ps e).more)

length-rows : (most : ℕ) (ws ps : List ℕ) → length (run_rows most ws ps) ≡ length ps
length-rows most ws [] = refl
length-rows most ws (p ∷ ps) = ap suc (length-rows most (drop most ws) ps)

pub run_eight : (room : Room) (ws ps : List ℕ) → length ps ≡ 8 → length (run_rows room.puts ws ps) ≡ 8
run_eight room ws ps e = length-rows room.puts ws ps ∙ e

pub run_within : (room : Room) (ws ps : List ℕ) → room.puts ≤ 512 → room.bits ≤ 33554432 → well_laid room.puts room.bits ws ps ≡ true → Within room (run_rows room.puts ws ps)
run_within room ws ps few narrow ok =
    let most = room.puts in
    let wide = room.bits in
    record {
      few = few;
      narrow = narrow;
      taken = λ row. rw (rows_at most ws ps row) (laid_at most wide ws ps row ok).0;
      long = λ row.
          let h = laid_at most wide ws ps row ok in
          let a = length-bits wide 0 (filled most ws ps row) h.1 in
          let b = last_fits wide 0 (filled most ws ps row) h.1 (omega arith) in
          rw (rows_at most ws ps row) (omega (arith, a, b));
    }
