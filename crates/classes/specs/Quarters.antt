-- The block sizes of the plan of quarters.
use Rattle.std.specs.Prelude.{ℕ, ◌+◌, ◌-◌, ◌*◌, ◌/◌, ◌%◌, ◌^◌, cond, List, map, nat_lt}
use Rattle.std.specs.List.{range_with_len}

-- the block with r quarters above the g-th doubling of 64
abbrev pub quarter_block : ℕ → ℕ → ℕ
quarter_block g r = 2 ^ (6 + g) + r * 2 ^ (4 + g)

-- the block of class c
abbrev pub quarters_block : ℕ → ℕ
quarters_block c = cond (nat_lt c 4) (16 * (c + 1)) (quarter_block ((c - 4) / 4) ((c - 4) % 4 + 1))

unfoldable pub quarters : List ℕ
quarters = map quarters_block (range_with_len 0 60)
