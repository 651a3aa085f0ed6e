-- A plan of size classes: what its list of block sizes keeps, the class of a request and the block of a class.
use Rattle.std.specs.Prelude.{◌≡◌, ℕ, ◌-◌, ◌<◌, ◌≤◌, cond, ltb, List, length, Ok, Err, Result, ◌==◌, nat_lt, slice_index}
use Rattle.std.specs.List.{prefix_len}
use Rattle.std.specs.Result.{result_map_both}
use Rattle.classes.specs.declared.refusal.ClassRefusal.{ClassRefusal}
use Rattle.classes.specs.declared.refusal.ClassRefusal.TheVariants.{ZeroRequest, AboveLargest, NoSuchClass}

-- the last block, which is the largest request
abbrev pub largest : List ℕ → ℕ
largest bs = slice_index bs (length bs - 1)

-- what the block sizes of every plan keep
pub record Plan (bs : List ℕ) : Type 0 where
  pub some : 1 ≤ length bs
  pub few : length bs ≤ 256
  pub first : 1 ≤ slice_index bs 0
  pub rising : (i j : ℕ) → i < j → j < length bs → slice_index bs i < slice_index bs j
  pub last : largest bs ≤ 1048576

-- the class of a request: as many classes as have smaller blocks come before it
abbrev pub class_of : List ℕ → ℕ → ℕ
class_of bs bytes = prefix_len (λ b. ltb b bytes) bs

-- the request, unless it is refused
abbrev pub request_answer : ℕ → ℕ → Result ℕ ClassRefusal
request_answer most bytes = cond (bytes == 0) (Err ZeroRequest) (cond (nat_lt most bytes) (Err AboveLargest) (Ok bytes))

abbrev pub class_answer : List ℕ → ℕ → Result ℕ ClassRefusal
class_answer bs bytes = result_map_both (class_of bs) (λ e. e) (request_answer (largest bs) bytes)

-- a class below n, unless it is refused
abbrev pub known_answer : ℕ → ℕ → Result ℕ ClassRefusal
known_answer n class = cond (nat_lt class n) (Ok class) (Err NoSuchClass)

abbrev pub block_answer : List ℕ → ℕ → Result ℕ ClassRefusal
block_answer bs class = result_map_both (λ c. slice_index bs c) (λ e. e) (known_answer (length bs) class)

-- the law of `class_answer`: c is the lowest class whose block is at least the request
pub record Lowest (bs : List ℕ) (bytes c : ℕ) : Type 0 where
  pub class : c < length bs
  pub holds : bytes ≤ slice_index bs c
  pub lowest : (d : ℕ) → d < length bs → bytes ≤ slice_index bs d → c ≤ d

-- and when each refusal comes
abbrev pub Classed : List ℕ → ℕ → Result ℕ ClassRefusal → Type 0
Classed bs bytes (Ok c) = (1 ≤ bytes) × Lowest bs bytes c
Classed bs bytes (Err ZeroRequest) = bytes ≡ 0
Classed bs bytes (Err AboveLargest) = (d : ℕ) → d < length bs → slice_index bs d < bytes
Classed bs bytes (Err NoSuchClass) = ⊥
