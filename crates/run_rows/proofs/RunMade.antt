-- Words that keep puts, set to 0.
use Rattle.std.proofs.Common.{length, ◌≡◌, ℕ, zero, suc, ◌+◌, ◌-◌, ◌*◌, ◌≤◌, true, eqb, List, ◌++◌, drop, replicate, sym, refl, ap, ◌∙◌, mul_comm, mul-suc, arith}
use Rattle.std.proofs.lemmas.List.{append_assoc, length-replicate, replicate-append-replicate, take_at, drop_at}
use Rattle.std.proofs.lemmas.Bool.{and_from}
use Rattle.rows.specs.Meaning.{zeroed}
use Rattle.rows.specs.declared.room.Room.{Room}
use Rattle.run_rows.specs.RunWords.{blank, well_laid, run_used, run_wiped}
use Rattle.run_rows.specs.RunTable.{Sound}
use Rattle.run_rows.proofs.RunPuts.{from_parts}
use Rattle.rows.proofs.Zeroed.{length-zeroed}

blanks : (n : ℕ) → blank (replicate n 0) ≡ true
blanks zero = refl
blanks (suc n) = and_from (eqb 0 0) (blank (replicate n 0)) refl (blanks n)

laid_blank : (most wide k : ℕ) (rest : List ℕ) → well_laid most wide (replicate (most * k) 0 ++ rest) (replicate k 0) ≡ true
laid_blank most wide zero rest = refl
laid_blank most wide (suc k) rest =
    let e : most * suc k ≡ most + most * k = omega (arith, mul-suc most k) in
    let f : replicate (most * suc k) 0 ++ rest ≡ replicate most 0 ++ (replicate (most * k) 0 ++ rest) =
    ap (λ (n : ℕ). replicate n 0 ++ rest) e ∙ ap (λ (t : List ℕ). t ++ rest) (sym (replicate-append-replicate most (most * k) 0)) ∙ append_assoc (replicate most 0) (replicate (most * k) 0) rest in
    let z : most - 0 ≡ most = omega arith in
    rw f (from_parts most wide (replicate most 0 ++ (replicate (most * k) 0 ++ rest)) 0 (replicate k 0) (record {
      low = omega arith;
      chain = refl;
      rest = rw (z, take_at (replicate most 0) (replicate (most * k) 0 ++ rest) most (length-replicate most 0)) (blanks most);
      more = rw (drop_at (replicate most 0) (replicate (most * k) 0 ++ rest) most (length-replicate most 0)) (laid_blank most wide k rest);
    }))

pub laid_zeroed : (most wide : ℕ) (ws : List ℕ) → well_laid most wide (zeroed (8 * most) ws) (replicate 8 0) ≡ true
laid_zeroed most wide ws = rw (mul_comm 8 most) (laid_blank most wide 8 (drop (most * 8) ws))

pub sound_wiped : (room : Room) (ws : List ℕ) → room.puts ≤ 512 → room.bits ≤ 33554432 → run_used room ≤ length ws → Sound room (run_wiped room ws) (replicate 8 0)
sound_wiped room ws few narrow enough = record {
  few = few;
  narrow = narrow;
  enough = rw (length-zeroed (run_used room) ws enough) enough;
  eight = refl;
  ok = laid_zeroed room.puts room.bits ws;
}
