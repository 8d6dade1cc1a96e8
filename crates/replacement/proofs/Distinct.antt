-- Distinct lines, as a test.
use Rattle.std.proofs.Common.{◌≡◌, ℕ, Bool, true, false, cond, List, [], ◌∷◌, arith}
use Rattle.std.proofs.lemmas.Bool.Decides.{nat_tests}
use Rattle.histories.specs.Rule.{held}
use Rattle.histories.specs.Histories.{Distinct}

abbrev pub distinct : List ℕ → Bool
distinct [] = true
distinct (x ∷ xs) = cond (held x xs) false (distinct xs)

pub distinct_says : (l : List ℕ) → distinct l ≡ true → Distinct l
distinct_says [] h = tt
distinct_says (x ∷ xs) h = (grind (arith, nat_tests), distinct_says xs (grind (arith, nat_tests)))
