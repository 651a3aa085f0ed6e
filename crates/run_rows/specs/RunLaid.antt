-- The words of a store that keeps its puts lie as the law of the layout says.
use Rattle.std.specs.Prelude.{◌≡◌, ℕ, zero, suc, ◌+◌, ◌-◌, ◌*◌, ◌<◌, ◌≤◌, Bool, true, cond, List, [], ◌∷◌, ◌++◌, length, take, drop, replicate, ◌==◌, slice_index, slice_index_or, refl}
use Rattle.std.proofs.Common.{sym, ap, ◌∙◌, ⊎_elim, mul-suc, mul-zero, mul_comm, mul-le-mul_left, arith}
use Rattle.std.specs.List.{AllByRecursion}
use Rattle.std.proofs.lemmas.Nat.{div-add-mod'}
use Rattle.std.proofs.lemmas.List.{length-append, length-replicate, length-drop, length-take-le}
use Rattle.std.proofs.lemmas.Bool.{and_parts, eqb-true, eq-eqb, ne_eqb}
use Rattle.rows.specs.declared.room.Room.{Room}
use Rattle.rows.specs.Meaning.{Row, zeros_in}
use Rattle.run_rows.specs.RunWords.{Put, put_bits, put_word, put_words, RunsLaid, run_used, end_of, zeros_of, run, bits_from, follows, chained, blank, well_laid, run_rows}
use Rattle.run_rows.specs.RunChains.{Step, step_from, filled, next_row, rows_at, laid_parts, laid_at}
use Rattle.std.proofs.Math.Seq.{take-add}
use Rattle.rows.specs.ZeroCounts.{zeros-++, zeros-run}

-- the puts that some words say, where d is the word before them
abbrev puts_from : ℕ → List ℕ → List Put
puts_from d [] = []
puts_from d (w ∷ ws) = record { bit = (zeros_of w == zeros_of d); count = end_of w - end_of d } ∷ puts_from w ws

length-puts : (d : ℕ) (ws : List ℕ) → length (puts_from d ws) ≡ length ws
length-puts d [] = refl
length-puts d (w ∷ ws) = ap suc (length-puts w ws)

bits_puts : (d : ℕ) (ws : List ℕ) → put_bits (puts_from d ws) ≡ bits_from d ws
bits_puts d [] = refl
bits_puts d (w ∷ ws) = ap (λ (l : List Bool). run d w ++ l) (bits_puts w ws)

some_puts : (wide d : ℕ) (ws : List ℕ) → chained wide d ws ≡ true → AllByRecursion (λ p. 1 ≤ p.count) (puts_from d ws)
some_puts wide d [] e = tt
some_puts wide d (w ∷ ws) e =
    let p = and_parts (follows wide d w) (chained wide w ws) e in
    (omega (arith, (step_from wide d w p.0).on), some_puts wide w ws p.1)

-- the word of the put after a row of the bits bs with the word d
length_then : (wide d w : ℕ) (bs : List Bool) → Step wide d w → length bs ≡ end_of d → length (bs ++ run d w) ≡ end_of w
length_then wide d w bs s l = length-append bs (run d w) ∙ omega (arith, l, s.on, length-replicate (end_of w - end_of d) (zeros_of w == zeros_of d))

pub zeros_whole : (wide d w : ℕ) → Step wide d w → zeros_in (run d w) + zeros_of d ≡ zeros_of w
zeros_whole wide d w s =
    let n = end_of w - end_of d in
    let r = zeros-run n (zeros_of w == zeros_of d) in
    ⊎_elim
    (λ h. omega (arith, r, ap (λ (b : Bool). cond b 0 n) (eq-eqb (zeros_of w) (zeros_of d) h)))
    (λ h. omega (arith, r, s.on, ap (λ (b : Bool). cond b 0 n) (ne_eqb (zeros_of w) (zeros_of d) (λ e. omega (arith, s.on)))))
    s.one

zeros_then : (wide d w : ℕ) (bs : List Bool) → Step wide d w → zeros_in bs ≡ zeros_of d → zeros_in (bs ++ run d w) ≡ zeros_of w
zeros_then wide d w bs s z = zeros-++ bs (run d w) ∙ omega (arith, z, zeros_whole wide d w s)

put_words_are : (wide d : ℕ) (bs : List Bool) (ws : List ℕ) → chained wide d ws ≡ true → length bs ≡ end_of d → zeros_in bs ≡ zeros_of d → put_words bs (puts_from d ws) ≡ ws
put_words_are wide d bs [] e l z = refl
put_words_are wide d bs (w ∷ ws) e l z =
    let p = and_parts (follows wide d w) (chained wide w ws) e in
    let s = step_from wide d w p.0 in
    let n = length_then wide d w bs s l in
    let m = zeros_then wide d w bs s z in
    let a : put_word (bs ++ run d w) ≡ w = omega (arith, n, m, div-add-mod' w 4294967296) in
    ap (λ (x : ℕ). x ∷ put_words (bs ++ run d w) (puts_from w ws)) a ∙ ap (λ (l : List ℕ). w ∷ l) (put_words_are wide w (bs ++ run d w) ws p.1 n m)

-- ---- the words after the puts are 0
blank_is : (xs : List ℕ) → blank xs ≡ true → xs ≡ replicate (length xs) 0
blank_is [] e = refl
blank_is (x ∷ xs) e =
    let p = and_parts (x == 0) (blank xs) e in
    ap (λ (y : ℕ). y ∷ xs) (eqb-true x 0 p.0) ∙ ap (λ (t : List ℕ). 0 ∷ t) (blank_is xs p.1)

rest_blank : (most wide : ℕ) (ws ps : List ℕ) (row : ℕ) → well_laid most wide ws ps ≡ true → row < length ps →
    blank (take (most - slice_index ps row) (drop (slice_index ps row) (drop (most * row) ws))) ≡ true
rest_blank most wide ws [] row e h = absurd (omega arith)
rest_blank most wide ws (p ∷ ps) zero e h = rw (mul-zero most) (laid_parts most wide ws p ps e).rest
rest_blank most wide ws (p ∷ ps) (suc row) e h =
    rw (← next_row most row ws) (rest_blank most wide (drop most ws) ps row (laid_parts most wide ws p ps e).more (omega arith))

pub run_words_lie : (room : Room) (ws ps : List ℕ) → run_used room ≤ length ws → length ps ≡ 8 → well_laid room.puts room.bits ws ps ≡ true → RunsLaid room (run_rows room.puts ws ps) ws
run_words_lie room ws ps enough eight ok = record {
  enough = enough;
  by_row = λ row low.
      let most = room.puts in
      let n = slice_index_or ps row 0 in
      let xs = drop (most * row) ws in
      let f = filled most ws ps row in
      let h = laid_at most room.bits ws ps row ok in
      let few = h.0 in
      let long : most ≤ length xs = rw (length-drop (most * row) ws)
      (omega (arith, enough, mul-suc most row, mul_comm most 8, mul-le-mul_left {m = suc row} {n = 8} most low)) in
      let fl : length f ≡ n = length-take-le n xs (omega (arith, few, long)) in
      let cut : take most xs ≡ f ++ take (most - n) (drop n xs) =
      ap (λ (k : ℕ). take k xs) (let e : most ≡ n + (most - n) = omega (arith, few) in e) ∙ take-add n (most - n) xs in
      let rl : length (take (most - n) (drop n xs)) ≡ most - n = length-take-le (most - n) (drop n xs) (rw (length-drop n xs) (omega (arith, few, long))) in
      let rest : take (most - n) (drop n xs) ≡ replicate (most - n) 0 =
      blank_is (take (most - n) (drop n xs)) (rest_blank most room.bits ws ps row ok (omega (arith, eight, low))) ∙ ap (λ (k : ℕ). replicate k 0) rl in
      let many : length (puts_from 0 f) ≡ n = length-puts 0 f ∙ fl in
      record {
        puts = puts_from 0 f;
        some = some_puts room.bits 0 f h.1;
        many = many ∙ sym (ap (λ (r : Row). r.puts) (rows_at most ws ps row));
        bits = bits_puts 0 f ∙ sym (ap (λ (r : Row). r.bits) (rows_at most ws ps row));
        words = cut ∙ ap (λ (l : List ℕ). f ++ l) rest ∙ ap (λ (l : List ℕ). l ++ replicate (most - n) 0) (sym (put_words_are room.bits 0 [] f h.1 (omega arith) (omega arith)))
            ∙ ap (λ (k : ℕ). put_words [] (puts_from 0 f) ++ replicate (most - k) 0) (sym many);
      };
}
