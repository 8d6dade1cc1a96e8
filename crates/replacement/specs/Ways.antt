-- A row of ways, the ways of one set in their order. Each way is empty or holds a line, with an age.
use Rattle.std.specs.Prelude.{ℕ, suc, Bool, false, cond, not, ◌&&◌, List, [], ◌∷◌, length, replicate, ◌==◌, nat_lt}
use Rattle.replacement.specs.declared.Way.{Way}

abbrev pub line_of : Way → ℕ
line_of e = e.line.0

-- a way with line x and age a, held or not
abbrev pub way : ℕ → ℕ → Bool → Way
way x a h = record { line = record { 0 = x }; age = a; held = h }

abbrev pub no_way : Way
no_way = way 0 0 false

-- w ways, all empty
abbrev pub empty_row : ℕ → List Way
empty_row w = replicate w no_way

-- the lines that are held, in the order of the ways
abbrev pub lines : List Way → List ℕ
lines [] = []
lines (e ∷ es) = cond e.held (line_of e ∷ lines es) (lines es)

-- the lowest-numbered way that passes a test, or the number of ways
abbrev pub first : (Way → Bool) → List Way → ℕ
first p [] = 0
first p (e ∷ es) = cond (p e) 0 (suc (first p es))

-- some way passes a test
abbrev pub some : (Way → Bool) → List Way → Bool
some p m = nat_lt (first p m) (length m)

abbrev pub has_line : ℕ → Way → Bool
has_line x e = e.held && line_of e == x

abbrev pub vacant : Way → Bool
vacant e = not e.held

abbrev pub of_age : ℕ → Way → Bool
of_age a e = e.age == a

abbrev pub larger : ℕ → ℕ → ℕ
larger a b = cond (nat_lt a b) b a

-- the greatest age, and the lowest-numbered way that has it
abbrev pub greatest : List Way → ℕ
greatest [] = 0
greatest (e ∷ es) = larger e.age (greatest es)

abbrev pub oldest : List Way → ℕ
oldest m = first (of_age (greatest m)) m
