-- The block sizes of the plan of sixteens.
use Rattle.std.specs.Prelude.{ℕ, ◌+◌, ◌*◌, List, map}
use Rattle.std.specs.List.{range_with_len}

-- the block of class c
abbrev pub sixteens_block : ℕ → ℕ
sixteens_block c = 16 * (c + 1)

unfoldable pub sixteens : List ℕ
sixteens = map sixteens_block (range_with_len 0 256)
