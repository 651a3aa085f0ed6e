-- When a put fits, of any numbers.
use Rattle.std.proofs.Common.{ℕ, arith}
use Rattle.std.proofs.lemmas.Bool.Decides.{nat_tests}
use Rattle.rows.specs.declared.room.Room.{Room}
use Rattle.rows.specs.Meaning.{fit_answer, FitBy}

-- the law holds of what is answered
pub fit_by : (room : Room) (puts bits count : ℕ) → FitBy room puts bits count (fit_answer room puts bits count)
fit_by room puts bits count = grind (arith, nat_tests)
