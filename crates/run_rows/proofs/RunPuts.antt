-- What one put does to the words that keep puts, and what it means.
use Rattle.std.proofs.Common.{◌≡◌, ℕ, zero, suc, ◌+◌, ◌-◌, ◌*◌, ◌<◌, ◌≤◌, Bool, true, false, cond, eqb, leb, ◌⊎◌, List, [], ◌∷◌, ◌++◌, length, get_or, take, drop, set, replicate, Ok, sym, refl, ap, ◌∙◌, subst, inl, inr, ⊎_elim, mul_comm, mul-le-mul_left, mul-zero, mul-suc, add-one, arith}
use Rattle.std.proofs.lemmas.Nat.{shr_high, mod_low, mul-le}
use Rattle.std.proofs.lemmas.List.{append_assoc, append-nil, length-append, length-replicate, length-set, take_more_set, take-set-le, drop-set-lt, drop-set-add, length-drop, drop_more}
use Rattle.std.proofs.lemmas.Bool.{and_parts, and_from, or_left, or_right, lt-ltb, le-leb, eq-eqb, ne_eqb}
use Rattle.rows.specs.declared.room.Room.{Room}
use Rattle.rows.specs.Meaning.{Row, row_at, zeros_in, FitBy, longer, with_put}
use Rattle.run_rows.specs.RunWords.{end_of, zeros_of, run, bits_from, last_word, follows, chained, blank, well_laid, run_rows, run_wrote}
use Rattle.run_rows.specs.RunChains.{Step, step_from, FirstRow, next_row, laid_parts, laid_at, filled, last_fits, rows_at, length-bits}
use Rattle.run_rows.specs.RunTable.{Sound}
use Rattle.run_rows.specs.RunLaid.{zeros_whole}
use Rattle.rows.specs.ZeroCounts.{zeros-++, zeros-run}

-- ---- a word and a row that the rules of the layout hold of

pub from_step : (wide d w : ℕ) → Step wide d w → follows wide d w ≡ true
from_step wide d w s =
    and_from _ _ (lt-ltb _ _ s.on) (and_from _ _ (le-leb _ _ s.fits)
    (⊎_elim (λ h. or_left (eqb (zeros_of w) (zeros_of d)) (eqb (zeros_of w + end_of d) (zeros_of d + end_of w)) (eq-eqb _ _ h))
    (λ h. or_right (eqb (zeros_of w) (zeros_of d)) (eqb (zeros_of w + end_of d) (zeros_of d + end_of w)) (eq-eqb _ _ h)) s.one))

pub from_parts : (most wide : ℕ) (ws : List ℕ) (p : ℕ) (ps : List ℕ) → FirstRow most wide ws p ps → well_laid most wide ws (p ∷ ps) ≡ true
from_parts most wide ws p ps h =
    and_from (leb p most) _ (le-leb p most h.low) (and_from (chained wide 0 (take p ws)) _ h.chain (and_from (blank (take (most - p) (drop p ws))) _ h.rest h.more))

-- ---- where a row's words lie

pub place : (most row p n : ℕ) → row < 8 → p ≤ most → 8 * most ≤ n → most * row + p ≤ n
place most row p n r h f = omega (arith, mul-suc most row, mul-le-mul_left {m = row + 1} {n = 8} most (omega arith), mul_comm most 8, ap (λ (k : ℕ). most * k) (add-one row))

pub place_below : (most row p n : ℕ) → row < 8 → p < most → 8 * most ≤ n → most * row + p < n
place_below most row p n r h f = omega (arith, place most row (p + 1) n r (omega arith) f)

pub small : (most row p : ℕ) → most ≤ 512 → row < 8 → p ≤ most → most * row + p ≤ 4608
small most row p few r h = omega (arith, mul-le most row 512 8 few (omega arith))

-- ---- one word more in a row's chain

bits_push : (d : ℕ) (ws : List ℕ) (x : ℕ) → bits_from d (ws ++ x ∷ []) ≡ bits_from d ws ++ run (last_word d ws) x
bits_push d [] x = append-nil _
bits_push d (w ∷ ws) x = ap (λ (l : List Bool). run d w ++ l) (bits_push w ws x) ∙ sym (append_assoc (run d w) (bits_from w ws) (run (last_word w ws) x))

chained_push : (wide d : ℕ) (ws : List ℕ) (x : ℕ) → chained wide d ws ≡ true → follows wide (last_word d ws) x ≡ true → chained wide d (ws ++ x ∷ []) ≡ true
chained_push wide d [] x e f = and_from _ _ f refl
chained_push wide d (w ∷ ws) x e f =
    let p = and_parts _ _ e in and_from _ _ p.0 (chained_push wide w ws x p.1 f)

pub step_zeros : (wide d w : ℕ) → Step wide d w → zeros_of d ≤ zeros_of w
step_zeros wide d w s = ⊎_elim (λ h. omega arith) (λ h. omega (arith, s.on)) s.one

pub step_zeros_end : (wide d w : ℕ) → Step wide d w → zeros_of d ≤ end_of d → zeros_of w ≤ end_of w
step_zeros_end wide d w s l = ⊎_elim (λ h. omega (arith, s.on)) (λ h. omega (arith, s.on)) s.one

last_zeros : (wide d : ℕ) (ws : List ℕ) → chained wide d ws ≡ true → zeros_of d ≤ end_of d → zeros_of (last_word d ws) ≤ end_of (last_word d ws)
last_zeros wide d [] e h = h
last_zeros wide d (w ∷ ws) e h =
    let p = and_parts (follows wide d w) (chained wide w ws) e in
    last_zeros wide w ws p.1 (step_zeros_end wide d w (step_from wide d w p.0) h)

-- ---- one word more in the words of eight rows

blank_rest : (w : ℕ) (ws : List ℕ) → blank (w ∷ ws) ≡ true → blank ws ≡ true
blank_rest w ws e = (and_parts (eqb w 0) (blank ws) e).1

blank_next : (most p : ℕ) (ws : List ℕ) → p < length ws → p < most → blank (take (most - p) (drop p ws)) ≡ true → blank (take (most - (p + 1)) (drop (p + 1) ws)) ≡ true
blank_next most p ws h l e =
    let n : most - p ≡ suc (most - (p + 1)) = omega arith in
    blank_rest (get_or ws p 0) (take (most - (p + 1)) (drop (p + 1) ws))
    (subst (λ (l : List ℕ). blank l ≡ true) (ap (λ (k : ℕ). take k (drop p ws)) n ∙ ap (λ (l : List ℕ). take (suc (most - (p + 1))) l) (drop_more ws p 0 h)) e)

-- a write past the part
part_same : (a b i x : ℕ) (ws : List ℕ) → a + b ≤ i → take b (drop a (set ws i x)) ≡ take b (drop a ws)
part_same a b i x ws h =
    let n : i ≡ a + (i - a) = omega arith in
    ap (λ (k : ℕ). take b (drop a (set ws k x))) n ∙ ap (λ (l : List ℕ). take b l) (drop-set-add a ws (i - a) x) ∙ take-set-le b (drop a ws) (i - a) x (omega arith)

rows_past : (most j i x : ℕ) (ws : List ℕ) → i ≡ most + j → drop most (set ws i x) ≡ set (drop most ws) j x
rows_past most j i x ws e = ap (λ (k : ℕ). drop most (set ws k x)) e ∙ drop-set-add most ws j x

module _ (most wide x : ℕ) where
  laid_put : (ws ps : List ℕ) (row i : ℕ) → well_laid most wide ws ps ≡ true → row < length ps → i ≡ most * row + get_or ps row 0 →
      get_or ps row 0 < most → i < length ws → follows wide (last_word 0 (filled most ws ps row)) x ≡ true →
      well_laid most wide (set ws i x) (set ps row (get_or ps row 0 + 1)) ≡ true
  laid_put ws [] row i e r at l h f = absurd (omega arith)
  laid_put ws (p ∷ ps) zero i e r at l h f =
      let k = laid_parts most wide ws p ps e in
      let ip : i ≡ p = omega (arith, mul-zero most) in
      let f0 : follows wide (last_word 0 (take p ws)) x ≡ true = rw (mul-zero most) at f in
      let hp : p < length ws = omega arith in
      rw ip (from_parts most wide (set ws p x) (p + 1) ps (record {
        low = omega arith;
        chain = rw (take_more_set ws p x hp) (chained_push wide 0 (take p ws) x k.chain f0);
        rest = rw (drop-set-lt (p + 1) ws p x (omega arith)) (blank_next most p ws hp l k.rest);
        more = rw (drop-set-lt most ws p x l) k.more;
      }))
  laid_put ws (q ∷ ps) (suc row) i e r at l h f =
      let k = laid_parts most wide ws q ps e in
      let j = most * row + get_or ps row 0 in
      let ij : i ≡ most + j = omega (arith, mul-suc most row) in
      let low = k.low in
      let f0 : follows wide (last_word 0 (filled most (drop most ws) ps row)) x ≡ true = rw (next_row most row ws) f in
      from_parts most wide (set ws i x) q (set ps row (get_or ps row 0 + 1)) (record {
        low = low;
        chain = rw (take-set-le q ws i x (omega arith)) k.chain;
        rest = rw (part_same q (most - q) i x ws (omega arith)) k.rest;
        more = rw (rows_past most j i x ws ij) (laid_put (drop most ws) ps row j k.more (omega arith) refl l (rw (length-drop most ws) (omega arith)) f0);
      })

  rows_put : (ws ps : List ℕ) (row i : ℕ) → well_laid most wide ws ps ≡ true → row < length ps → i ≡ most * row + get_or ps row 0 →
      get_or ps row 0 < most → i < length ws →
      run_rows most (set ws i x) (set ps row (get_or ps row 0 + 1)) ≡
      set (run_rows most ws ps) row (record { bits = bits_from 0 (filled most ws ps row) ++ run (last_word 0 (filled most ws ps row)) x; puts = get_or ps row 0 + 1 })
  rows_put ws [] row i e r at l h = absurd (omega arith)
  rows_put ws (p ∷ ps) zero i e r at l h =
      let ip : i ≡ p = omega (arith, mul-zero most) in
      let hp : p < length ws = omega arith in
      rw (ip, mul-zero most, take_more_set ws p x hp, bits_push 0 (take p ws) x, drop-set-lt most ws p x l)
  rows_put ws (q ∷ ps) (suc row) i e r at l h =
      let k = laid_parts most wide ws q ps e in
      let j = most * row + get_or ps row 0 in
      let ij : i ≡ most + j = omega (arith, mul-suc most row) in
      let low = k.low in
      rw (take-set-le q ws i x (omega arith), rows_past most j i x ws ij, ← next_row most row ws)
      (ap (λ (t : List Row). record { bits = bits_from 0 (take q ws); puts = q } ∷ t)
      (rows_put (drop most ws) ps row j k.more (omega arith) refl l (rw (length-drop most ws) (omega arith))))

-- ---- the word that is put after `last`
module _ (wide last count : ℕ) (bit : Bool) (narrow : wide ≤ 33554432) (some : 0 < count) (fits : end_of last + count ≤ wide) (less : zeros_of last ≤ end_of last) where
  abbrev more : ℕ
  more = cond bit 0 count

  abbrev word : ℕ
  word = (end_of last + count) * 4294967296 + (zeros_of last + more)

  part : (b : Bool) → cond b 0 count ≤ count
  part true = omega arith
  part false = omega arith

  end_put : end_of word ≡ end_of last + count
  end_put = shr_high (end_of last + count) 32 (zeros_of last + more) (omega (arith, part bit))

  zeros_put : zeros_of word ≡ zeros_of last + more
  zeros_put = mod_low (end_of last + count) 32 (zeros_of last + more) (omega (arith, part bit))

  none_or_all : (b : Bool) → (zeros_of last + cond b 0 count ≡ zeros_of last) ⊎ (zeros_of last + cond b 0 count + end_of last ≡ zeros_of last + (end_of last + count))
  none_or_all true = inl (omega arith)
  none_or_all false = inr (omega arith)

  pub follows_put : follows wide last word ≡ true
  follows_put = from_step wide last word (record {
    on = rw end_put (omega arith);
    fits = rw end_put fits;
    one = rw (end_put, zeros_put) (none_or_all bit);
  })

  the_bit : (b : Bool) → eqb (zeros_of last + cond b 0 count) (zeros_of last) ≡ b
  the_bit true = eq-eqb _ _ (omega arith)
  the_bit false = ne_eqb _ _ (λ e. omega arith)

  pub run_put : run last word ≡ replicate count bit
  run_put =
      let n : end_of last + count - end_of last ≡ count = omega arith in
      rw (end_put, zeros_put, n, the_bit bit)

-- ---- a row's length and zeros, from its last word
zeros_all : (wide d : ℕ) (ws : List ℕ) → chained wide d ws ≡ true → zeros_in (bits_from d ws) + zeros_of d ≡ zeros_of (last_word d ws)
zeros_all wide d [] e = omega arith
zeros_all wide d (w ∷ ws) e =
    let p = and_parts (follows wide d w) (chained wide w ws) e in
    omega (arith, zeros_whole wide d w (step_from wide d w p.0), zeros-++ (run d w) (bits_from w ws), zeros_all wide w ws p.1)

module _ (room : Room) (ws ps : List ℕ) (row last : ℕ) (good : Sound room ws ps) (is : last ≡ last_word 0 (filled room.puts ws ps row)) where
  abbrev rows : List Row
  rows = run_rows room.puts ws ps

  abbrev before : Row
  before = row_at rows row

  chain : chained room.bits 0 (filled room.puts ws ps row) ≡ true
  chain = (laid_at room.puts room.bits ws ps row good.ok).1

  pub length_is : length before.bits ≡ end_of last
  length_is =
      let e : end_of (last_word 0 (filled room.puts ws ps row)) ≡ end_of last = ap (λ (w : ℕ). end_of w) (sym is) in
      ap (λ (r : Row). length r.bits) (rows_at room.puts ws ps row) ∙ omega (arith, length-bits room.bits 0 (filled room.puts ws ps row) chain, e)

  zeros_is : zeros_in before.bits ≡ zeros_of last
  zeros_is =
      let e : zeros_of (last_word 0 (filled room.puts ws ps row)) ≡ zeros_of last = ap (λ (w : ℕ). zeros_of w) (sym is) in
      ap (λ (r : Row). zeros_in r.bits) (rows_at room.puts ws ps row) ∙ omega (arith, zeros_all room.bits 0 (filled room.puts ws ps row) chain, e)

  pub last_less : zeros_of last ≤ end_of last
  last_less = rw is (last_zeros room.bits 0 (filled room.puts ws ps row) chain (omega arith))

  pub last_small : end_of last ≤ room.bits
  last_small = rw is (last_fits room.bits 0 (filled room.puts ws ps row) chain (omega arith))

  -- a put that is taken, with its word x
  module _ (bit : Bool) (count : ℕ) (low : row < 8) (taken : FitBy room before.puts (length before.bits) count (Ok tt)) where
    some : 0 < count
    some = taken.0

    puts_is : before.puts ≡ get_or ps row 0
    puts_is = ap (λ (r : Row). r.puts) (rows_at room.puts ws ps row)

    pub left : get_or ps row 0 < room.puts
    left = omega (arith, taken.1, puts_is)

    pub fits : end_of last + count ≤ room.bits
    fits = omega (arith, taken.2, length_is)

    abbrev i : ℕ
    i = room.puts * row + get_or ps row 0

    pub in_words : i < length ws
    in_words = place_below room.puts row (get_or ps row 0) (length ws) low left good.enough

    module _ (x : ℕ) (x_is : x ≡ (end_of last + count) * 4294967296 + (zeros_of last + cond bit 0 count)) where
      in_rows : row < length ps
      in_rows = omega (arith, good.eight)

      after : follows room.bits (last_word 0 (filled room.puts ws ps row)) x ≡ true
      after = rw (← is, x_is) (follows_put room.bits last count bit good.narrow some fits last_less)

      sound_put : Sound room (set ws i x) (set ps row (get_or ps row 0 + 1))
      sound_put = record {
        few = good.few;
        narrow = good.narrow;
        enough = rw (length-set ws i x) good.enough;
        eight = length-set ps row (get_or ps row 0 + 1) ∙ good.eight;
        ok = laid_put room.puts room.bits x ws ps row i good.ok in_rows refl left in_words after;
      }

      rows_with_put : run_rows room.puts (set ws i x) (set ps row (get_or ps row 0 + 1)) ≡ with_put rows row bit count
      rows_with_put =
          let b : run (last_word 0 (filled room.puts ws ps row)) x ≡ replicate count bit = rw (← is, x_is) (run_put room.bits last count bit good.narrow some fits last_less) in
          rows_put room.puts room.bits x ws ps row i good.ok in_rows refl left in_words ∙ rw (b, rows_at room.puts ws ps row)

      pub words_put : set ws i x ≡ run_wrote room rows ws row bit count
      words_put =
          let n : length (longer before bit count).bits ≡ end_of last + count =
          length-append before.bits (replicate count bit) ∙ omega (arith, length_is, length-replicate count bit) in
          let z : zeros_in (longer before bit count).bits ≡ zeros_of last + cond bit 0 count =
          zeros-++ before.bits (replicate count bit) ∙ omega (arith, zeros_is, zeros-run count bit) in
          rw (n, z, puts_is, x_is)

      -- of the parts that are left
      module _ (room' : Room) (ws' ps' : List ℕ) (room_is : room' ≡ room) (ws_is : ws' ≡ set ws i x) (ps_is : ps' ≡ set ps row (get_or ps row 0 + 1)) where
        pub sound_after : Sound room' ws' ps'
        sound_after = rw (room_is, ws_is, ps_is) sound_put

        pub rows_after : run_rows room'.puts ws' ps' ≡ with_put rows row bit count
        rows_after = rw (room_is, ws_is, ps_is) rows_with_put
