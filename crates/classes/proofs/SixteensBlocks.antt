-- The plan of sixteens.
use Rattle.std.specs.Prelude.{◌≡◌, ℕ, ◌+◌, ◌-◌, ◌*◌, ◌/◌, ◌<◌, ◌≤◌, slice_index}
use Rattle.std.proofs.Common.{arith}
use Rattle.std.proofs.lemmas.List.FromFn.{get_or-map-range_with_len}
use Rattle.classes.specs.Plan.{class_of}
use Rattle.classes.specs.Sixteens.{sixteens_block, sixteens}
use Rattle.classes.specs.Lawful.{sixteens_plan, sixteens_length}
use Rattle.classes.proofs.Plans.{sixteenth_is}

pub sixteens_at : (c : ℕ) → c < 256 → slice_index sixteens c ≡ 16 * (c + 1)
unfolding sixteens
sixteens_at c l = get_or-map-range_with_len sixteens_block 0 256 c c 0 l (omega arith)

pub sixteens_class : (b : ℕ) → 1 ≤ b → b ≤ 4096 → class_of sixteens b ≡ (b - 1) / 16
sixteens_class = sixteenth_is sixteens sixteens_plan 256 (omega (arith, sixteens_length)) sixteens_at
