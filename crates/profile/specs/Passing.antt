-- What `?` does with a result: a value goes on, and a refusal is passed on.
use Rattle.std.specs.Prelude.{Ok, Err, Result}

-- turned into one of the next layer
abbrev pub passing : {A B E F : Type 0} → (E → F) → Result A E → (A → Result B F) → Result B F
passing turned (Ok a) next = next a
passing turned (Err e) next = Err (turned e)

-- or as it is
abbrev pub onward : {A B E : Type 0} → Result A E → (A → Result B E) → Result B E
onward r next = passing (λ e. e) r next
