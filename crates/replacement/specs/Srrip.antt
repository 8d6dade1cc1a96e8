-- Static re-reference interval prediction. Each way has an age from 0 to 3.
use Rattle.std.specs.Prelude.{◌≡◌, ℕ, zero, suc, ◌+◌, ◌-◌, ◌<◌, ◌≤◌, true, cond, List, [], ◌∷◌, map, length, slice_set}
use Rattle.replacement.specs.declared.Way.{Way}
use Rattle.histories.specs.Rule.{held}
use Rattle.replacement.specs.Ways.{line_of, way, empty_row, lines, first, some, has_line, vacant, of_age, greatest, oldest}

-- ---- the rule of one row

-- d older
abbrev pub risen : ℕ → Way → Way
risen d e = way (line_of e) (e.age + d) e.held

-- while no way has age 3, all ages rise by one; n is how often they may
abbrev pub ripened : ℕ → List Way → List Way
ripened zero m = m
ripened (suc n) m = cond (some (of_age 3) m) m (ripened n (map (risen 1) m))

-- a line that is placed gets age 2
abbrev pub placed : ℕ → Way
placed x = way x 2 true

-- a hit gives age 0
abbrev pub renewed : ℕ → List Way → List Way
renewed x m = slice_set m (first (has_line x) m) (way x 0 true)

-- a miss with an empty way: x comes into the lowest-numbered one
abbrev pub filled : ℕ → List Way → List Way
filled x m = slice_set m (first vacant m) (placed x)

-- a miss with none: the ages rise until some way has age 3 (three rises are enough), and x comes into the lowest-numbered such way
abbrev pub evicted : ℕ → List Way → List Way
evicted x m = let r = ripened 3 m in slice_set r (first (of_age 3) r) (placed x)

-- a touch of x
abbrev pub touched : ℕ → List Way → List Way
touched x m = cond (held x (lines m)) (renewed x m) (cond (some vacant m) (filled x m) (evicted x m))

-- a row of w ways after some touches, newest first
abbrev pub row : ℕ → List ℕ → List Way
row w [] = empty_row w
row w (t ∷ ts) = touched t (row w ts)

-- ---- what is proved of it

-- no age ever passes 3
abbrev pub AgesLow : Type 0
AgesLow = (w : ℕ) (ts : List ℕ) → greatest (row w ts) ≤ 3

-- after the rises some way has age 3, so that there is a victim
abbrev pub Ripens : Type 0
Ripens = (m : List Way) → 0 < length m → greatest m ≤ 3 → some (of_age 3) (ripened 3 m) ≡ true

-- the rises at once: the victim is the lowest-numbered way of the greatest age, and the other ages rise by what that age lacks to 3
abbrev pub EvictsOldest : Type 0
EvictsOldest = (x : ℕ) (m : List Way) → 0 < length m → greatest m ≤ 3 → evicted x m ≡ slice_set (map (risen (3 - greatest m)) m) (oldest m) (placed x)
