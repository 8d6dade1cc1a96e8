-- Least recently used. A line stays in its way, and its age is the number of held lines touched since: 0 for the latest.
use Rattle.std.specs.Prelude.{◌≡◌, ℕ, suc, ◌+◌, ◌<◌, min, Bool, true, false, cond, ◌&&◌, List, [], ◌∷◌, map, length, take, ◌==◌, ◌≢◌, nat_lt, slice_index_or, slice_set}
use Rattle.replacement.specs.declared.Way.{Way}
use Rattle.histories.specs.Rule.{held}
use Rattle.histories.specs.Histories.{Distinct}
use Rattle.replacement.specs.Ways.{line_of, way, no_way, empty_row, lines, first, some, has_line, vacant, greatest, oldest}

-- ---- the rule of one row

-- a line just touched
abbrev pub fresh : ℕ → Way
fresh x = way x 0 true

-- one older, if held and younger than a
abbrev pub older : ℕ → Way → Way
older a e = way (line_of e) (cond (e.held && nat_lt e.age a) (e.age + 1) e.age) e.held

-- x comes into way v, and the held lines younger than a are one older
abbrev pub placed : ℕ → ℕ → ℕ → List Way → List Way
placed a v x m = slice_set (map (older a) m) v (fresh x)

-- a hit: only the lines touched since x's latest touch are one older
abbrev pub renewed : ℕ → List Way → List Way
renewed x m = let v = first (has_line x) m in placed (slice_index_or m v no_way).age v x m

-- a miss with an empty way: x comes into the lowest-numbered one
abbrev pub filled : ℕ → List Way → List Way
filled x m = placed (length m) (first vacant m) x m

-- a miss with none: x comes into the way of the oldest line
abbrev pub evicted : ℕ → List Way → List Way
evicted x m = placed (greatest m) (oldest m) x m

-- a touch of x
abbrev pub touched : ℕ → List Way → List Way
touched x m = cond (held x (lines m)) (renewed x m) (cond (some vacant m) (filled x m) (evicted x m))

-- a row of w ways after some touches, newest first
abbrev pub row : ℕ → List ℕ → List Way
row w [] = empty_row w
row w (t ∷ ts) = touched t (row w ts)

-- ---- what is proved of it, in terms of the touches

abbrev pub others : ℕ → List ℕ → List ℕ
others x [] = []
others x (y ∷ ys) = cond (y == x) (others x ys) (y ∷ others x ys)

-- the lines of some touches, newest first, each once: the first w of them are the w lines touched most recently
abbrev pub recent : List ℕ → List ℕ
recent [] = []
recent (t ∷ ts) = t ∷ others t (recent ts)

-- a list holds exactly the w lines touched most recently, each once
pub record MostRecent (w : ℕ) (ts l : List ℕ) : Type 0 where
  pub once : Distinct l
  pub same : (y : ℕ) → held y l ≡ held y (take w (recent ts))
  pub many : length l ≡ min w (length (recent ts))

-- the law over runs
abbrev pub KeepsRecent : Type 0
KeepsRecent = (w : ℕ) (ts : List ℕ) → 0 < w → MostRecent w ts (lines (row w ts))

-- the number of touches since y's latest, or the number of touches if there is none
abbrev pub since : ℕ → List ℕ → ℕ
since y [] = 0
since y (z ∷ zs) = cond (z == y) 0 (suc (since y zs))

-- each held line was touched later than each line that is not held
abbrev pub TouchedLater : Type 0
TouchedLater = (w y z : ℕ) (ts : List ℕ) → 0 < w → held y (lines (row w ts)) ≡ true → held z (lines (row w ts)) ≡ false → since y ts < since z ts

-- the line that leaves is the one whose latest touch is oldest
abbrev pub LeavesOldest : Type 0
LeavesOldest =
    (w t y z : ℕ) (ts : List ℕ) → 0 < w → held z (lines (row w ts)) ≡ true → held z (lines (row w (t ∷ ts))) ≡ false
    → held y (lines (row w ts)) ≡ true → (y ≢ z) → since y ts < since z ts

-- each held way's age is the number of held lines that were touched since its own line
abbrev pub aged : List ℕ → List Way → Bool
aged l [] = true
aged l (e ∷ es) = cond e.held (e.age == since (line_of e) l) true && aged l es

abbrev pub AgesTell : Type 0
AgesTell = (w : ℕ) (ts : List ℕ) → 0 < w → aged (take w (recent ts)) (row w ts) ≡ true
