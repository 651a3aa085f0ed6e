-- The words of a store that keeps its puts. Put t of a row, from 0, fills the row's word t with e * 2^32 + z, where e is
-- the row's length after the put and z its number of 0 bits then. All else is 0.
use Rattle.std.specs.Prelude.{◌≡◌, ℕ, ◌+◌, ◌-◌, ◌*◌, ◌/◌, ◌%◌, ◌<◌, ◌≤◌, Bool, true, ◌&&◌, ◌||◌, List, [], ◌∷◌, ◌++◌, length, take, drop, replicate, ◌==◌, nat_le, nat_lt, slice_set}
use Rattle.std.specs.List.{AllByRecursion}
use Rattle.rows.specs.declared.room.Room.{Room}
use Rattle.rows.specs.Meaning.{Row, row_at, zeros_in, longer, zeroed}

-- how many words are used
abbrev pub run_used : Room → ℕ
run_used room = 8 * room.puts

-- the word of the put that makes a row these bits
abbrev pub put_word : List Bool → ℕ
put_word bs = length bs * 4294967296 + zeros_in bs

-- ---- the law of the layout

-- one put: so many copies of a bit
pub record Put : Type 0 where
  pub bit : Bool
  pub count : ℕ

abbrev pub put_bits : List Put → List Bool
put_bits [] = []
put_bits (p ∷ ps) = replicate p.count p.bit ++ put_bits ps

-- the words of some puts to a row of the bits bs
abbrev pub put_words : List Bool → List Put → List ℕ
put_words bs [] = []
put_words bs (p ∷ ps) = put_word (bs ++ replicate p.count p.bit) ∷ put_words (bs ++ replicate p.count p.bit) ps

-- the `most` words of a row are those of its puts, and then 0
pub record WordsOfPuts (most : ℕ) (r : Row) (ws : List ℕ) : Type 0 where
  pub puts : List Put
  pub some : AllByRecursion (λ p. 1 ≤ p.count) puts
  pub many : length puts ≡ r.puts
  pub bits : put_bits puts ≡ r.bits
  pub words : ws ≡ put_words [] puts ++ replicate (most - length puts) 0

-- row r has the words from R * r on
pub record RunsLaid (room : Room) (rows : List Row) (ws : List ℕ) : Type 0 where
  pub enough : run_used room ≤ length ws
  pub by_row : (row : ℕ) → row < 8 → WordsOfPuts room.puts (row_at rows row) (take room.puts (drop (room.puts * row) ws))

-- ---- what a put that is taken and a clear make of the words
abbrev pub run_wrote : Room → List Row → List ℕ → ℕ → Bool → ℕ → List ℕ
run_wrote room rows ws row bit count =
    slice_set ws (room.puts * row + (row_at rows row).puts) (put_word (longer (row_at rows row) bit count).bits)

abbrev pub run_wiped : Room → List ℕ → List ℕ
run_wiped room ws = zeroed (run_used room) ws

-- ---- from the words to the rows

abbrev pub end_of : ℕ → ℕ
end_of w = w / 4294967296

abbrev pub zeros_of : ℕ → ℕ
zeros_of w = w % 4294967296

-- the bits of the put with the word w, where d is the word before it, or 0 at the first: they are 1 where no zero was added
abbrev pub run : ℕ → ℕ → List Bool
run d w = replicate (end_of w - end_of d) (zeros_of w == zeros_of d)

abbrev pub bits_from : ℕ → List ℕ → List Bool
bits_from d [] = []
bits_from d (w ∷ ws) = run d w ++ bits_from w ws

-- the last word, or d where there is none
abbrev pub last_word : ℕ → List ℕ → ℕ
last_word d [] = d
last_word d (w ∷ ws) = last_word w ws

-- w is the word of a put after d: at least one bit more, of which none or all are 0, in a row of at most `wide` bits
abbrev pub follows : ℕ → ℕ → ℕ → Bool
follows wide d w =
    nat_lt (end_of d) (end_of w) && (nat_le (end_of w) wide && (zeros_of w == zeros_of d || zeros_of w + end_of d == zeros_of d + end_of w))

abbrev pub chained : ℕ → ℕ → List ℕ → Bool
chained wide d [] = true
chained wide d (w ∷ ws) = follows wide d w && chained wide w ws

abbrev pub blank : List ℕ → Bool
blank [] = true
blank (w ∷ ws) = w == 0 && blank ws

-- row by row, `most` words for each: the words of its puts, so many as ps has, and then 0
abbrev pub well_laid : ℕ → ℕ → List ℕ → List ℕ → Bool
well_laid most wide ws [] = true
well_laid most wide ws (p ∷ ps) =
    nat_le p most && (chained wide 0 (take p ws) && (blank (take (most - p) (drop p ws)) && well_laid most wide (drop most ws) ps))

-- the rows that the words say
abbrev pub run_rows : ℕ → List ℕ → List ℕ → List Row
run_rows most ws [] = []
run_rows most ws (p ∷ ps) = record { bits = bits_from 0 (take p ws); puts = p } ∷ run_rows most (drop most ws) ps
