-- The number of some bits, and the words of a row.
use Rattle.std.proofs.Common.{◌≡◌, ℕ, zero, suc, ◌+◌, ◌-◌, ◌*◌, ◌/◌, ◌%◌, ◌^◌, ◌<◌, ◌≤◌, Bool, true, false, cond, eqb, ◌⊎◌, List, [], ◌∷◌, ◌++◌, length, get_or, take, drop, replicate, sym, refl, ap, ◌∙◌, subst, inl, inr, ⊎_elim, mod-eq_of_lt, mul_assoc, pow-suc, one-add, arith, pow_pos, pow_mono}
use Rattle.std.proofs.Math.Nat.{zero-div}
use Rattle.std.specs.Int.Count.{ones, ones_step, ones-le}
use Rattle.std.proofs.lemmas.List.FromFn.{get_or-map-range_with_len}
use Rattle.std.proofs.lemmas.Nat.{shr-shr, mod_low}
use Rattle.std.proofs.lemmas.List.{ext_get_or, get_or_append_left, get_or-append_right, get_or-take, get_or-drop, length-drop, length-take, length-take-le, length-append, take-append-drop, take-append-le, take-take, take_all, drop-append-le, drop_all}
use Rattle.std.proofs.lemmas.Bool.{cases_lt, cases_eq, lt-ltb, le-ltb, le-leb, lt-leb}
use Rattle.rows.specs.Meaning.{zeros_in}
use Rattle.plain_rows.specs.PlainSound.{length-bits}
use Rattle.std.proofs.Math.Seq.{take-add}
use Rattle.rows.specs.ZeroCounts.{zeros-cons, zeros-++}
use Rattle.plain_rows.specs.PlainWords.{value, word, zeros_before, coded, bit_at, bits_of}
use Rattle.plain_rows.specs.PlainTable.{IsRow}

pub value-append : (xs ys : List Bool) → value (xs ++ ys) ≡ value xs + value ys * 2 ^ length xs
value-append [] ys = omega arith
value-append (b ∷ xs) ys =
    let h = value-append xs ys in
    let p = ap (λ (n : ℕ). value ys * n) (pow-suc 2 (length xs)) ∙ sym (mul_assoc (value ys) (2 ^ length xs) 2) in
    omega (arith, h, p)

pub value_lt : (bs : List Bool) → value bs < 2 ^ length bs
value_lt [] = omega arith
value_lt (true ∷ bs) = omega (arith, value_lt bs, pow-suc 2 (length bs))
value_lt (false ∷ bs) = omega (arith, value_lt bs, pow-suc 2 (length bs))

pub value_run : (bit : Bool) (n : ℕ) → value (replicate n bit) ≡ cond bit (2 ^ n - 1) 0
value_run true zero = refl
value_run false zero = refl
value_run true (suc n) = omega (arith, value_run true n, pow-suc 2 n, pow_pos n)
value_run false (suc n) = omega (arith, value_run false n)

pub value-take : (k : ℕ) (bs : List Bool) → k ≤ length bs → value (take k bs) ≡ value bs % 2 ^ k
value-take k bs h =
    let l : length (take k bs) ≡ k = length-take-le k bs h in
    let lt : value (take k bs) < 2 ^ k = subst (λ (n : ℕ). value (take k bs) < 2 ^ n) l (value_lt (take k bs)) in
    let e : value bs ≡ value (drop k bs) * 2 ^ k + value (take k bs) =
    ap value (sym (take-append-drop k bs)) ∙ value-append (take k bs) (drop k bs) ∙ ap (λ (n : ℕ). value (take k bs) + value (drop k bs) * 2 ^ n) l ∙ omega arith in
    sym (ap (λ (n : ℕ). n % 2 ^ k) e ∙ mod_low (value (drop k bs)) k (value (take k bs)) lt)

pub value_bit : (bs : List Bool) (k : ℕ) → eqb (value bs / 2 ^ k % 2) 1 ≡ get_or bs k false
value_bit [] k = ap (λ (n : ℕ). eqb (n % 2) 1) (zero-div (2 ^ k))
value_bit (true ∷ bs) zero = let e : (1 + 2 * value bs) / 1 % 2 ≡ 1 = omega arith in ap (λ (n : ℕ). eqb n 1) e
value_bit (false ∷ bs) zero = let e : (0 + 2 * value bs) / 1 % 2 ≡ 0 = omega arith in ap (λ (n : ℕ). eqb n 1) e
value_bit (b ∷ bs) (suc k) =
    let h : (cond b 1 0 + 2 * value bs) / 2 ≡ value bs = elim b as (λ t. (cond t 1 0 + 2 * value bs) / 2 ≡ value bs) [ true ↦ omega arith | false ↦ omega arith ] in
    let e : value (b ∷ bs) / 2 ^ suc k ≡ value bs / 2 ^ k =
    ap (λ (n : ℕ). value (b ∷ bs) / 2 ^ n) (sym (one-add k)) ∙ sym (shr-shr (value (b ∷ bs)) 1 k) ∙ ap (λ (n : ℕ). n / 2 ^ k) h in
    ap (λ (n : ℕ). eqb (n % 2) 1) e ∙ value_bit bs k

-- the digits that are set, and the bits that are 0
pub ones_value : (bs : List Bool) → ones (value bs) + zeros_in bs ≡ length bs
unfolding ones
ones_value [] = refl
ones_value (true ∷ bs) =
    let a : (1 + 2 * value bs) % 2 ≡ 1 = omega arith in
    let b : (1 + 2 * value bs) / 2 ≡ value bs = omega arith in
    omega (arith, ones_step (1 + 2 * value bs), a, ap ones b, zeros-cons true bs, ones_value bs)
ones_value (false ∷ bs) =
    let a : (0 + 2 * value bs) % 2 ≡ 0 = omega arith in
    let b : (0 + 2 * value bs) / 2 ≡ value bs = omega arith in
    omega (arith, ones_step (0 + 2 * value bs), a, ap ones b, zeros-cons false bs, ones_value bs)

pub ones_rest : (k n : ℕ) → n < 2 ^ k → ones (2 ^ k - 1 - n) + ones n ≡ k
unfolding ones
ones_rest zero n h = let z : n ≡ 0 = omega (arith, h) in rw z refl
ones_rest (suc k) n h =
    let p = pow-suc 2 k in
    let m = 2 ^ suc k - 1 - n in
    let a : m / 2 ≡ 2 ^ k - 1 - n / 2 = omega (arith, p) in
    let b : m % 2 ≡ 1 - n % 2 = omega (arith, p) in
    omega (arith, ones_step m, ones_step n, ap ones a, b, ones_rest k (n / 2) (omega (arith, p)))

-- ---- the words say the bits
pub coded_word : (L : ℕ) (bs : List Bool) (i : ℕ) → i < L → coded L bs i ≡ word bs i
coded_word L bs i h = rw (lt-ltb i L h)

pub coded_before : (L : ℕ) (bs : List Bool) (m : ℕ) → coded L bs (L + m) ≡ zeros_before bs m
coded_before L bs m = let e : L + m - L ≡ m = omega arith in rw (le-ltb (L + m) L (omega arith), e)

bit_is : (bs : List Bool) (p : ℕ) → eqb (word bs (p / 64) / 2 ^ (p % 64) % 2) 1 ≡ get_or bs p false
bit_is bs p =
    let e : 64 * (p / 64) + p % 64 ≡ p = omega arith in
    value_bit (take 64 (drop (64 * (p / 64)) bs)) (p % 64) ∙ get_or-take 64 (drop (64 * (p / 64)) bs) (p % 64) false (omega arith)
    ∙ get_or-drop (64 * (p / 64)) bs (p % 64) false ∙ ap (λ (n : ℕ). get_or bs n false) e

pub said : (L : ℕ) (ws : List ℕ) (bs : List Bool) (n : ℕ) → IsRow L bs ws → length bs ≡ n → n ≤ 64 * L → bits_of ws n ≡ bs
unfolding bits_of
said L ws bs n fit l h =
    ext_get_or false (bits_of ws n) bs (length-bits ws n ∙ sym l) (λ p lt.
    let q : p < n = omega (arith, length-bits ws n) in
    get_or-map-range_with_len (bit_at ws) 0 n p p false q (omega arith)
    ∙ ap (λ (w : ℕ). eqb (w / 2 ^ (p % 64) % 2) 1) (fit (p / 64) (omega arith) ∙ coded_word L bs (p / 64) (omega arith))
    ∙ bit_is bs p)

-- ---- the zeros before a place
pub before_is : (bs : List Bool) (m : ℕ) → 64 * m ≤ length bs → zeros_before bs m ≡ zeros_in (take (64 * m) bs)
before_is bs m h = rw (le-leb (64 * m) (length bs) h)

pub before_none : (bs : List Bool) (m : ℕ) → length bs < 64 * m → zeros_before bs m ≡ 0
before_none bs m h = rw (lt-leb (64 * m) (length bs) h)

pub zeros_from : (bs : List Bool) (m k p : ℕ) → p ≡ 64 * m + k → k ≤ 64 → p ≤ length bs → zeros_in (take p bs) + ones (word bs m % 2 ^ k) ≡ zeros_before bs m + k
zeros_from bs m k p e h l =
    let r = drop (64 * m) bs in
    let n : k ≤ length r = rw (length-drop (64 * m) bs) (omega arith) in
    let n64 : k ≤ length (take 64 r) = ⊎_elim (λ (s : length r < 64). rw (take_all 64 r (omega arith)) n) (λ (s : 64 ≤ length r). rw (length-take-le 64 r s) h) (cases_lt (length r) 64) in
    let t : take k (take 64 r) ≡ take k r = take-take k 64 r h in
    let v : ones (value (take k r)) ≡ ones (word bs m % 2 ^ k) = ap (λ (xs : List Bool). ones (value xs)) (sym t) ∙ ap ones (value-take k (take 64 r) n64) in
    let o = ones_value (take k r) in
    let a : zeros_in (take p bs) ≡ zeros_in (take (64 * m) bs) + zeros_in (take k r) = ap (λ (i : ℕ). zeros_in (take i bs)) e ∙ ap zeros_in (take-add (64 * m) k bs) ∙ zeros-++ (take (64 * m) bs) (take k r) in
    omega (arith, a, v, o, length-take-le k r n, before_is bs m (omega arith))

-- ---- the words of a row that has grown, within one word: xs is what is added
pub word_lt : (bs : List Bool) (m : ℕ) → word bs m < 2 ^ 64
word_lt bs m =
    let r = drop (64 * m) bs in
    let l : length (take 64 r) ≤ 64 = rw (length-take 64 r) (omega arith) in
    let p = pow_mono l in
    omega (arith, value_lt (take 64 r), p)

module _ (bs xs : List Bool) (size count : ℕ) (long : length bs ≡ size) (more : length xs ≡ count) (room : size % 64 + count ≤ 64) where
  pub word_other : (i : ℕ) → (i ≡ size / 64 → ⊥) → word (bs ++ xs) i ≡ word bs i
  word_other i ne = ⊎_elim
      (λ (h : i < size / 64).
      let a : 64 * i ≤ length bs = omega arith in
      let b : 64 ≤ length (drop (64 * i) bs) = rw (length-drop (64 * i) bs) (omega arith) in
      ap value (ap (λ (l : List Bool). take 64 l) (drop-append-le (64 * i) bs xs a) ∙ take-append-le 64 (drop (64 * i) bs) xs b))
      (λ (h : size / 64 ≤ i).
      let a : length (bs ++ xs) ≤ 64 * i = rw (length-append bs xs) (omega (arith, ne)) in
      let b : length bs ≤ 64 * i = omega (arith, ne) in
      ap (λ (l : List Bool). value (take 64 l)) (drop_all (64 * i) (bs ++ xs) a ∙ sym (drop_all (64 * i) bs b)))
      (cases_lt i (size / 64))

  rest : length (drop (64 * (size / 64)) bs) ≡ size % 64
  rest = length-drop (64 * (size / 64)) bs ∙ omega arith

  pub word_low : word bs (size / 64) < 2 ^ (size % 64)
  word_low =
      let r = drop (64 * (size / 64)) bs in
      let u : take 64 r ≡ r = take_all 64 r (omega (arith, rest)) in
      rw u (subst (λ (n : ℕ). value r < 2 ^ n) rest (value_lt r))

  pub word_here : word (bs ++ xs) (size / 64) ≡ word bs (size / 64) + value xs * 2 ^ (size % 64)
  word_here =
      let m = 64 * (size / 64) in
      let a : m ≤ length bs = omega arith in
      let b : length (drop m bs ++ xs) ≤ 64 = rw (length-append (drop m bs) xs) (omega (arith, rest)) in
      let u : take 64 (drop m bs) ≡ drop m bs = take_all 64 (drop m bs) (omega (arith, rest)) in
      ap (λ (l : List Bool). value (take 64 l)) (drop-append-le m bs xs a) ∙ ap value (take_all 64 (drop m bs ++ xs) b) ∙ value-append (drop m bs) xs
      ∙ ap (λ (k : ℕ). value (drop m bs) + value xs * 2 ^ k) rest ∙ ap (λ (l : List Bool). value l + value xs * 2 ^ (size % 64)) (sym u)

  pub before_other : (j : ℕ) → (64 * j ≤ size) ⊎ (size + count < 64 * j) → zeros_before (bs ++ xs) j ≡ zeros_before bs j
  before_other j (inl h) =
      let k : 64 * j ≤ length bs = omega arith in
      before_is (bs ++ xs) j (rw (length-append bs xs) (omega arith)) ∙ ap zeros_in (take-append-le (64 * j) bs xs k) ∙ sym (before_is bs j k)
  before_other j (inr h) = before_none (bs ++ xs) j (rw (length-append bs xs) (omega arith)) ∙ sym (before_none bs j (omega arith))

  -- the count that is written where a word is filled
  pub before_next : size % 64 + count ≡ 64 → zeros_before (bs ++ xs) (size / 64 + 1) ≡ zeros_before bs (size / 64) + (64 - ones (word (bs ++ xs) (size / 64)))
  before_next full =
      let m = size / 64 in
      let n : length (bs ++ xs) ≡ size + count = length-append bs xs ∙ omega arith in
      let z = zeros_from (bs ++ xs) m 64 (64 * (m + 1)) (omega arith) (omega arith) (omega arith) in
      let w : word (bs ++ xs) m % 2 ^ 64 ≡ word (bs ++ xs) m = mod-eq_of_lt (word_lt (bs ++ xs) m) in
      let o = ones-le 64 (word (bs ++ xs) m) (word_lt (bs ++ xs) m) in
      omega (arith, z, ap ones w, o, before_is (bs ++ xs) (m + 1) (omega arith), before_other m (inl (omega arith)))

-- ---- the words of a row in two parts, A of bits and B of counts
pub record Halves (L : ℕ) (bs : List Bool) (A B : List ℕ) : Type 0 where
  pub words : (m : ℕ) → m < L → get_or A m 0 ≡ word bs m
  pub counts : (m : ℕ) → m < L → get_or B m 0 ≡ zeros_before bs m

pub halves : (L : ℕ) (bs : List Bool) (ws A B : List ℕ) → IsRow L bs ws → ws ≡ A ++ B → length A ≡ L → Halves L bs A B
halves L bs ws A B fit e l = record {
  words = λ m h. sym (ap (λ (us : List ℕ). get_or us m 0) e ∙ get_or_append_left A B 0 m (omega arith)) ∙ fit m (omega arith) ∙ coded_word L bs m h;
  counts = λ m h.
      let z : L + m - L ≡ m = omega arith in
      sym (ap (λ (us : List ℕ). get_or us (L + m) 0) e ∙ get_or-append_right A B L (L + m) 0 l (omega arith) ∙ ap (λ (n : ℕ). get_or B n 0) z) ∙ fit (L + m) (omega arith) ∙ coded_before L bs m;
}

pub whole : (L : ℕ) (bs : List Bool) (A B : List ℕ) → Halves L bs A B → length A ≡ L → IsRow L bs (A ++ B)
whole L bs A B two l i h = ⊎_elim
    (λ (k : i < L). get_or_append_left A B 0 i (omega arith) ∙ two.words i k ∙ sym (coded_word L bs i k))
    (λ (k : L ≤ i).
    let e : L + (i - L) ≡ i = omega arith in
    get_or-append_right A B L i 0 l k ∙ two.counts (i - L) (omega arith) ∙ sym (coded_before L bs (i - L)) ∙ ap (λ (n : ℕ). coded L bs n) e)
    (cases_lt i L)

-- ---- a row whose words A and counts B become A' and B'
module _ (L : ℕ) (A B A' B' : List ℕ) (bs xs : List Bool) (size count : ℕ) (long : length bs ≡ size) (more : length xs ≡ count) (room : size % 64 + count ≤ 64)
    (fits : size + count ≤ 64 * L) (some : 0 < count) (two : Halves L bs A B)
    (here : get_or A' (size / 64) 0 ≡ get_or A (size / 64) 0 + value xs * 2 ^ (size % 64))
    (other : (i : ℕ) → (i ≡ size / 64 → ⊥) → get_or A' i 0 ≡ get_or A i 0)
    (there : size % 64 + count ≡ 64 → size / 64 + 1 < L → get_or B' (size / 64 + 1) 0 ≡ get_or B (size / 64) 0 + (64 - ones (get_or A' (size / 64) 0)))
    (others : (j : ℕ) → j < L → (size % 64 + count ≡ 64 → j ≡ size / 64 + 1 → ⊥) → get_or B' j 0 ≡ get_or B j 0) where
  in_row : size / 64 < L
  in_row = omega arith

  new_here : get_or A' (size / 64) 0 ≡ word (bs ++ xs) (size / 64)
  new_here = here ∙ ap (λ (w : ℕ). w + value xs * 2 ^ (size % 64)) (two.words (size / 64) in_row) ∙ sym (word_here bs xs size count long more room)

  in_words : (i : ℕ) → i < L → (i ≡ size / 64) ⊎ (i ≡ size / 64 → ⊥) → get_or A' i 0 ≡ word (bs ++ xs) i
  in_words i h (inl e) = subst (λ (k : ℕ). get_or A' k 0 ≡ word (bs ++ xs) k) (sym e) new_here
  in_words i h (inr ne) = other i ne ∙ two.words i h ∙ sym (word_other bs xs size count long more room i ne)

  in_counts : (j : ℕ) → j < L → (size % 64 + count ≡ 64) ⊎ (size % 64 + count ≡ 64 → ⊥) → (j ≡ size / 64 + 1) ⊎ (j ≡ size / 64 + 1 → ⊥) → get_or B' j 0 ≡ zeros_before (bs ++ xs) j
  in_counts j h (inl full) (inl e) =
      subst (λ (k : ℕ). get_or B' k 0 ≡ zeros_before (bs ++ xs) k) (sym e)
      (there full (omega arith) ∙ ap (λ (n : ℕ). n + (64 - ones (get_or A' (size / 64) 0))) (two.counts (size / 64) in_row)
      ∙ ap (λ (n : ℕ). zeros_before bs (size / 64) + (64 - ones n)) new_here ∙ sym (before_next bs xs size count long more room full))
  in_counts j h (inl full) (inr ne) =
      others j h (λ _ e. ne e) ∙ two.counts j h
      ∙ sym (before_other bs xs size count long more room j (⊎_elim (λ (l : size < 64 * j). inr (omega (arith, ne))) (λ (l : 64 * j ≤ size). inl l) (cases_lt size (64 * j))))
  in_counts j h (inr short) w =
      others j h (λ a _. short a) ∙ two.counts j h
      ∙ sym (before_other bs xs size count long more room j (⊎_elim (λ (l : size < 64 * j). inr (omega (arith, short))) (λ (l : 64 * j ≤ size). inl l) (cases_lt size (64 * j))))

  pub grows : Halves L (bs ++ xs) A' B'
  grows = record {
    words = λ i h. in_words i h (cases_eq i (size / 64));
    counts = λ j h. in_counts j h (cases_eq (size % 64 + count) 64) (cases_eq j (size / 64 + 1));
  }
