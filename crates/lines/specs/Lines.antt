-- How a text is cut into lines, and the law of it.
use Rattle.std.specs.Prelude.{◌≡◌, ℕ, ◌≤◌, cond, ◌⊎◌, List, [], ◌∷◌, ◌++◌, length, ◌==◌, ◌≢◌}
use Rattle.std.specs.List.{AllByRecursion}

-- b before the first line
abbrev pub onto_first : ℕ → List (List ℕ) → List (List ℕ)
onto_first b [] = (b ∷ []) ∷ []
onto_first b (l ∷ ls) = (b ∷ l) ∷ ls

-- a line ends at byte 10, or at the end of the text if it has a byte
abbrev pub lines_of : List ℕ → List (List ℕ)
lines_of [] = []
lines_of (b ∷ bs) = cond (b == 10) ([] ∷ lines_of bs) (onto_first b (lines_of bs))

-- no line ends in xs
abbrev pub Endless : List ℕ → Type 0
Endless xs = AllByRecursion (λ b. b ≢ 10) xs

-- each line ends at byte 10, or at the end of the text if it has a byte
abbrev pub Lines : List (List ℕ) → List ℕ → Type 0
Lines [] text = text ≡ []
Lines (l ∷ ls) text =
    Endless l × (((rest : List ℕ) × (text ≡ l ++ (10 ∷ rest)) × Lines ls rest) ⊎ ((text ≡ l) × (1 ≤ length l) × (ls ≡ [])))

-- a text is cut into these lines, and into no others
abbrev pub CutInto : List ℕ → List (List ℕ) → Type 0
CutInto text ls = Lines ls text × ((ks : List (List ℕ)) → Lines ks text → ks ≡ ls)
