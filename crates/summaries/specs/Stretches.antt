-- Raises of a plain list of occupancies.
use Rattle.std.specs.Prelude.{ℕ, zero, suc, ◌+◌, List, [], ◌∷◌, map}

-- p more at each place
abbrev pub lift : ℕ → List ℕ → List ℕ
lift p gs = map (λ g. g + p) gs

-- one more at each place from a up to, and without, b
abbrev pub bump : ℕ → ℕ → List ℕ → List ℕ
bump a b [] = []
bump a zero (g ∷ gs) = g ∷ gs
bump zero (suc b) (g ∷ gs) = (g + 1) ∷ bump zero b gs
bump (suc a) (suc b) (g ∷ gs) = g ∷ bump a b gs
