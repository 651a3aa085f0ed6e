-- The zeros before a position of a row, from the word before it and the word there.
use Rattle.std.proofs.Common.{◌≡◌, ℕ, zero, suc, ◌+◌, ◌-◌, ◌*◌, ◌<◌, ◌≤◌, min, Bool, true, Some, None, slice_get, cond, eqb, leb, ◌⊎◌, List, [], ◌∷◌, ◌++◌, length, get_or, take, drop, sym, refl, ap, ◌∙◌, inl, inr, ⊎_elim, arith}
use Rattle.std.proofs.lemmas.List.{take-append-le, take-replicate, get_or-take, get_or-drop, get_or_past, get_or_default, length-take-le, length-drop}
use Rattle.std.proofs.lemmas.Bool.{and_parts, eq-eqb, ne_eqb, cases_lt, le-leb, leb-true}
use Rattle.std.proofs.lemmas.Option.{slice_get_within, get_or_from_slice_get, slice_get-get_or}
use Rattle.std.specs.List.Sorted.{IsPartitionedBy}
use Rattle.std.proofs.Math.Seq.{take-append-add}
use Rattle.rows.specs.declared.room.Room.{Room}
use Rattle.rows.specs.Meaning.{zeros_in, row_at}
use Rattle.run_rows.specs.RunWords.{end_of, zeros_of, run, bits_from, last_word, chained, follows, run_rows}
use Rattle.run_rows.specs.RunChains.{Step, step_from, length-run, filled, laid_at, rows_at}
use Rattle.rows.specs.ZeroCounts.{zeros-++, zeros-run}
use Rattle.run_rows.specs.RunLaid.{zeros_whole}
use Rattle.run_rows.specs.RunTable.{Sound}
use Rattle.run_rows.proofs.RunPuts.{place, step_zeros, length_is}

-- a front of a put's bits
zeros_part : (wide d w n : ℕ) → Step wide d w → n + end_of d ≤ end_of w → zeros_in (take n (run d w)) ≡ min n (zeros_of w - zeros_of d)
zeros_part wide d w n s h =
    let r = ap zeros_in (take-replicate n (end_of w - end_of d) (eqb (zeros_of w) (zeros_of d)) (omega arith)) ∙ zeros-run n (eqb (zeros_of w) (zeros_of d)) in
    ⊎_elim
    (λ e. omega (arith, r, ap (λ (b : Bool). cond b 0 n) (eq-eqb (zeros_of w) (zeros_of d) e)))
    (λ e. omega (arith, r, s.on, ap (λ (b : Bool). cond b 0 n) (ne_eqb (zeros_of w) (zeros_of d) (λ f. omega (arith, s.on)))))
    s.one

-- a front that takes the whole first part
take_past : (n : ℕ) (xs bs : List Bool) → length xs ≤ n → take n (xs ++ bs) ≡ xs ++ take (n - length xs) bs
take_past n xs bs h =
    let e : n ≡ length xs + (n - length xs) = omega arith in
    ap (λ (k : ℕ). take k (xs ++ bs)) e ∙ take-append-add xs bs (n - length xs)

-- the ends rise
ends_rise : (wide d : ℕ) (ws : List ℕ) (k : ℕ) → chained wide d ws ≡ true → k ≤ length ws → end_of d ≤ end_of (get_or (d ∷ ws) k 0)
ends_rise wide d ws zero e h = omega arith
ends_rise wide d [] (suc k) e h = absurd (omega arith)
ends_rise wide d (w ∷ ws) (suc k) e h =
    let p = and_parts (follows wide d w) (chained wide w ws) e in
    let s = (step_from wide d w p.0).on in
    let r = ends_rise wide w ws k p.1 (omega arith) in
    omega arith

zeros_front : (wide p d : ℕ) (ws : List ℕ) (k : ℕ) → chained wide d ws ≡ true → k ≤ length ws →
    end_of (get_or (d ∷ ws) k 0) ≤ p → p ≤ end_of (get_or ws k (last_word d ws)) →
    zeros_in (take (p - end_of d) (bits_from d ws)) + zeros_of d ≡
    zeros_of (get_or (d ∷ ws) k 0) + min (p - end_of (get_or (d ∷ ws) k 0)) (zeros_of (get_or ws k 0) - zeros_of (get_or (d ∷ ws) k 0))
zeros_front wide p d [] zero e h a b = let z : p - end_of d ≡ 0 = omega arith in rw z (omega arith)
zeros_front wide p d [] (suc k) e h a b = absurd (omega arith)
zeros_front wide p d (w ∷ ws) zero e h a b =
    let q = and_parts (follows wide d w) (chained wide w ws) e in
    let s = step_from wide d w q.0 in
    let n = length-run wide d w s in
    let t = take-append-le (p - end_of d) (run d w) (bits_from w ws) (omega arith) in
    let z = ap zeros_in t ∙ zeros_part wide d w (p - end_of d) s (omega (arith, a, b)) in
    omega (arith, z)
zeros_front wide p d (w ∷ ws) (suc k) e h a b =
    let q = and_parts (follows wide d w) (chained wide w ws) e in
    let s = step_from wide d w q.0 in
    let n = length-run wide d w s in
    let m = ends_rise wide w ws k q.1 (omega arith) in
    let t = take_past (p - end_of d) (run d w) (bits_from w ws) (omega arith) in
    let r = zeros_front wide p w ws k q.1 (omega arith) a b in
    let f : (p - end_of d) - length (run d w) ≡ p - end_of w = omega arith in
    let u = ap zeros_in t ∙ zeros-++ (run d w) (take ((p - end_of d) - length (run d w)) (bits_from w ws)) in
    let v = ap (λ (x : ℕ). zeros_in (take x (bits_from w ws))) f in
    omega (arith, u, v, zeros_whole wide d w s, r)

-- ---- over the words
pub last_get : (d : ℕ) (ws : List ℕ) → get_or (d ∷ ws) (length ws) 0 ≡ last_word d ws
last_get d [] = refl
last_get d (w ∷ ws) = last_get w ws

pub last_of : (ws : List ℕ) → get_or ws (length ws - 1) 0 ≡ last_word 0 ws
last_of [] = refl
last_of (w ∷ ws) = ap (λ (n : ℕ). get_or (w ∷ ws) n 0) (omega arith) ∙ last_get w ws

-- the word before put k
pub word_before : (ws : List ℕ) (k : ℕ) → k ≤ length ws → last_word 0 (take k ws) ≡ get_or (0 ∷ ws) k 0
word_before ws zero h = refl
word_before ws (suc k) h =
    sym (last_of (take (suc k) ws)) ∙ ap (λ (n : ℕ). get_or (take (suc k) ws) n 0) (let e : length (take (suc k) ws) - 1 ≡ k = omega (arith, length-take-le (suc k) ws h) in e) ∙ get_or-take (suc k) ws k 0 (omega arith)

zeros_step : (wide d : ℕ) (ws : List ℕ) (k : ℕ) → chained wide d ws ≡ true → k < length ws → zeros_of (get_or (d ∷ ws) k 0) ≤ zeros_of (get_or ws k 0)
zeros_step wide d [] k e h = absurd (omega arith)
zeros_step wide d (w ∷ ws) zero e h = step_zeros wide d w (step_from wide d w (and_parts (follows wide d w) (chained wide w ws) e).0)
zeros_step wide d (w ∷ ws) (suc k) e h = zeros_step wide w ws k (and_parts (follows wide d w) (chained wide w ws) e).1 (omega arith)

module _ (room : Room) (ws ps : List ℕ) (row : ℕ) (good : Sound room ws ps) (low : row < 8) where
  abbrev words : List ℕ
  words = filled room.puts ws ps row

  abbrev taken : ℕ
  taken = get_or ps row 0

  pub few_taken : taken ≤ room.puts
  few_taken = (laid_at room.puts room.bits ws ps row good.ok).0

  pub chain : chained room.bits 0 words ≡ true
  chain = (laid_at room.puts room.bits ws ps row good.ok).1

  pub words_long : length words ≡ taken
  words_long = length-take-le taken (drop (room.puts * row) ws)
      (rw (length-drop (room.puts * row) ws) (omega (arith, place room.puts row taken (length ws) low few_taken good.enough)))

  pub last_is : get_or (0 ∷ words) taken 0 ≡ last_word 0 words
  last_is = ap (λ (i : ℕ). get_or (0 ∷ words) i 0) (sym words_long) ∙ last_get 0 words

  pub zeros_up : (k : ℕ) → k < taken → zeros_of (get_or (0 ∷ words) k 0) ≤ zeros_of (get_or words k 0)
  zeros_up k h = zeros_step room.bits 0 words k chain (rw words_long h)

  module _ (p k before : ℕ) (in_row : p ≤ length (row_at (run_rows room.puts ws ps) row).bits) (is : before ≡ get_or (0 ∷ words) k 0) (ends : end_of before ≤ p) where
    in_words : p ≤ end_of (last_word 0 words)
    in_words = omega (arith, in_row, length_is room ws ps row (last_word 0 words) good refl)

    within : (k ≡ taken) ⊎ (k < taken) → (k < taken → p < end_of (get_or words k 0)) → p ≤ end_of (get_or words k (last_word 0 words))
    within (inl e) f = rw (get_or_past words k (last_word 0 words) (omega (arith, words_long))) in_words
    within (inr l) f = rw (get_or_default words k (last_word 0 words) 0 (omega (arith, words_long))) (omega (arith, f l))

    zeros_any : (k ≡ taken) ⊎ (k < taken) → (k < taken → p < end_of (get_or words k 0)) →
        zeros_in (take p (row_at (run_rows room.puts ws ps) row).bits) ≡ zeros_of before + min (p - end_of before) (zeros_of (get_or words k 0) - zeros_of before)
    zeros_any w f =
        let l : k ≤ length words = rw words_long (⊎_elim (λ e. omega arith) (λ e. omega arith) w) in
        let z = zeros_front room.bits p 0 words k chain l (rw (← is) ends) (within w f) in
        let n : p - 0 ≡ p = omega arith in
        rw (rows_at room.puts ws ps row, is) (omega (arith, z, ap (λ (x : ℕ). zeros_in (take x (bits_from 0 words))) n))

    pub zeros_inside : k < taken → p < end_of (get_or words k 0) →
        zeros_in (take p (row_at (run_rows room.puts ws ps) row).bits) ≡ zeros_of before + min (p - end_of before) (zeros_of (get_or words k 0) - zeros_of before)
    zeros_inside l f = zeros_any (inr l) (λ _. f)

    pub zeros_end : k ≡ taken → zeros_in (take p (row_at (run_rows room.puts ws ps) row).bits) ≡ zeros_of before
    zeros_end e =
        let z = zeros_any (inl e) (λ l. absurd (omega arith)) in
        let b : before ≡ last_word 0 words = is ∙ ap (λ (i : ℕ). get_or (0 ∷ words) i 0) e ∙ last_is in
        let q : end_of (last_word 0 words) ≡ end_of before = ap (λ (x : ℕ). end_of x) (sym b) in
        omega (arith, z, q, in_words)

-- ---- the puts that end by a position come first
ends_mono : (wide d p : ℕ) (ws : List ℕ) (i j e : ℕ) → chained wide d ws ≡ true → i ≤ j → j < length ws → end_of (get_or ws j e) ≤ p → end_of (get_or ws i e) ≤ p
ends_mono wide d p [] i j e h l w k = absurd (omega arith)
ends_mono wide d p (x ∷ ws) zero j e h l w k =
    let q = and_parts (follows wide d x) (chained wide x ws) h in
    let r = ends_rise wide x ws j q.1 (omega arith) in
    let n = get_or_default (x ∷ ws) j e 0 w in
    omega (arith, r, k, ap end_of n)
ends_mono wide d p (x ∷ ws) (suc i) zero e h l w k = absurd (omega arith)
ends_mono wide d p (x ∷ ws) (suc i) (suc j) e h l w k =
    ends_mono wide x p ws i j e (and_parts (follows wide d x) (chained wide x ws) h).1 (omega arith) (omega arith) k

pub ends_part : (wide p : ℕ) (ws : List ℕ) → chained wide 0 ws ≡ true → IsPartitionedBy (λ w. leb (end_of w) p) ws
ends_part wide p ws h i j d l w t = le-leb _ _ (ends_mono wide 0 p ws i j d h l w (leb-true _ _ t))

pub before_ends : (p : ℕ) (ws : List ℕ) (k : ℕ) → ((i d : ℕ) → 0 ≤ i → i < k → leb (end_of (get_or ws i d)) p ≡ true) → end_of (get_or (0 ∷ ws) k 0) ≤ p
before_ends p ws zero h = omega arith
before_ends p ws (suc k) h = leb-true _ _ (h k 0 (omega arith) (omega arith))

-- ---- a row's words, cut before put k
module _ (ws words front rest : List ℕ) (k : ℕ) (is : words ≡ ws) (front_is : front ≡ take k words) (rest_is : rest ≡ drop k words) where
  there : slice_get rest 0 ≡ slice_get (drop k ws) 0
  there = rw (rest_is, is) refl

  pub front_last : k ≤ length ws → last_word 0 front ≡ get_or (0 ∷ ws) k 0
  front_last h = rw (front_is, is) (word_before ws k h)

  pub next_is : (n : ℕ) → Some n ≡ slice_get rest 0 → (k < length ws) × (get_or ws k 0 ≡ n)
  next_is n e =
      let l = slice_get_within (drop k ws) 0 n (sym (e ∙ there)) in
      let g = get_or_from_slice_get (drop k ws) 0 n 0 (sym (e ∙ there)) in
      let d = get_or-drop k ws 0 0 in
      (omega (arith, l, length-drop k ws), ap (λ (i : ℕ). get_or ws i 0) (let h : k ≡ k + 0 = omega arith in h) ∙ sym d ∙ g)

  pub none_is : None ≡ slice_get rest 0 → length ws ≤ k
  none_is e =
      let past : k < length ws → length ws ≤ k = λ l. let h : None ≡ Some (get_or (drop k ws) 0 0) = e ∙ there ∙ slice_get-get_or (drop k ws) 0 0 (rw (length-drop k ws) (omega arith)) in cc in
      ⊎_elim past (λ l. l) (cases_lt k (length ws))
