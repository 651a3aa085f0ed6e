-- The words of a store that keeps its bits. Row r has 2 * L words, L of bits and then L of counts, where L is the room's
-- bits / 64 rounded up. Bit p of the row has the value 2^(p % 64) in word p / 64 of the first L. Word m of the next L is
-- the number of 0 bits before position 64 * m once the row is at least 64 * m long. All else is 0.
use Rattle.std.specs.Prelude.{◌≡◌, ℕ, ◌+◌, ◌-◌, ◌*◌, ◌/◌, ◌%◌, ◌^◌, ◌<◌, ◌≤◌, Bool, cond, List, [], ◌∷◌, ◌++◌, map, length, take, drop, ◌==◌, nat_le, nat_lt, slice_index}
use Rattle.std.specs.List.{range_with_len}
use Rattle.rows.specs.declared.room.Room.{Room}
use Rattle.rows.specs.Meaning.{Row, row_at, zeros_in, with_put, zeroed}

-- how many words the bits of a row take, and how many words are used
abbrev pub bit_words : ℕ → ℕ
bit_words bits = (bits + 63) / 64

abbrev pub plain_used : Room → ℕ
plain_used room = 16 * bit_words room.bits

-- ---- from the bits to the words

-- the number whose binary digits are these, the lowest first
abbrev pub value : List Bool → ℕ
value [] = 0
value (b ∷ bs) = cond b 1 0 + 2 * value bs

-- word m of a row of these bits, and its count m
abbrev pub word : List Bool → ℕ → ℕ
word bs m = value (take 64 (drop (64 * m) bs))

abbrev pub zeros_before : List Bool → ℕ → ℕ
zeros_before bs m = cond (nat_le (64 * m) (length bs)) (zeros_in (take (64 * m) bs)) 0

-- the law of the layout: row r has the words from 2 * L * r on, L of bits and L of counts
pub record PlainLaid (room : Room) (rows : List Row) (ws : List ℕ) : Type 0 where
  pub enough : plain_used room ≤ length ws
  pub bits : (row m : ℕ) → row < 8 → m < bit_words room.bits → slice_index ws (2 * bit_words room.bits * row + m) ≡ word (row_at rows row).bits m
  pub counts : (row m : ℕ) → row < 8 → m < bit_words room.bits →
      slice_index ws (2 * bit_words room.bits * row + (bit_words room.bits + m)) ≡ zeros_before (row_at rows row).bits m

-- word i of a row of these bits
abbrev pub coded : ℕ → List Bool → ℕ → ℕ
coded L bs i = cond (nat_lt i L) (word bs i) (zeros_before bs (i - L))

-- word i of a store of these rows
abbrev pub image_at : ℕ → List Row → ℕ → ℕ
image_at L rows i = coded L (row_at rows (i / (2 * L))).bits (i % (2 * L))

-- the words in use are those of these rows, and the others stay
abbrev pub image : Room → List Row → List ℕ → List ℕ
image room rows ws = map (image_at (bit_words room.bits) rows) (range_with_len 0 (plain_used room)) ++ drop (plain_used room) ws

-- what a put that is taken and a clear make of the words
abbrev pub plain_wrote : Room → List Row → List ℕ → ℕ → Bool → ℕ → List ℕ
plain_wrote room rows ws row bit count = image room (with_put rows row bit count) ws

abbrev pub plain_wiped : Room → List ℕ → List ℕ
plain_wiped room ws = zeroed (plain_used room) ws

-- ---- from the words to the bits

-- bit p of a row with these words, and the first n bits
abbrev pub bit_at : List ℕ → ℕ → Bool
bit_at ws p = slice_index ws (p / 64) / 2 ^ (p % 64) % 2 == 1

unfoldable pub bits_of : List ℕ → ℕ → List Bool
bits_of ws n = map (bit_at ws) (range_with_len 0 n)
