-- A front of some words, set to 0.
use Rattle.std.proofs.Common.{◌≡◌, ℕ, ◌≤◌, List, length, drop, replicate, ◌∙◌, arith}
use Rattle.std.proofs.lemmas.List.{length-append, length-drop, length-replicate}
use Rattle.rows.specs.Meaning.{zeroed}

pub length-zeroed : (n : ℕ) (ws : List ℕ) → n ≤ length ws → length (zeroed n ws) ≡ length ws
length-zeroed n ws h = length-append (replicate n 0) (drop n ws) ∙ omega (arith, length-replicate {A = ℕ} n 0, length-drop n ws)
