-- The schedule that the rule's verdicts make, and its rows, one for each touch, which a loader reads.
use Rattle.std.specs.Prelude.{◌≡◌, ℕ, zero, suc, ◌<◌, ◌≤◌, Bool, true, false, cond, ◌↔◌, List, [], ◌∷◌, ◌++◌, map, reverse, length, sum, ◌==◌, slice_index_or}
use Rattle.histories.specs.Rule.{held, occupancies, hit, verdicts, hits, LastTouch}
use Rattle.histories.specs.Histories.{latest, Legal, turn_hits, earned, load}

-- x is kept from its last touch until now
unfoldable pub put : ℕ → List ℕ → List (List ℕ) → List (List ℕ)
put x [] cs = cs
put x (t ∷ ts) [] = []
put x (t ∷ ts) (c ∷ cs) = (x ∷ c) ∷ cond (x == t) cs (put x ts cs)

-- the history in which a line is kept from one touch to its next exactly when that next touch is a hit of the rule
unfoldable pub schedule : ℕ → List ℕ → List (List ℕ)
schedule W [] = []
schedule W (t ∷ ts) = [] ∷ cond (hit W t ts) (put t ts (schedule W ts)) (schedule W ts)

-- A touch of y after the touches `older` is a hit, its turn is after i, and the touch of y before it is at turn i or earlier:
-- y is kept across gap i.
pub record Kept (W : ℕ) (ts : List ℕ) (i y : ℕ) : Type 0 where
  pub newer : List ℕ
  pub older : List ℕ
  pub split : ts ≡ newer ++ y ∷ older
  pub taken : hit W y older ≡ true
  pub until : i < length older
  pub p : ℕ
  pub last : LastTouch older y p
  pub since : p ≤ i

-- the schedule holds after turn i exactly the lines that are so kept
abbrev pub KeptForHits : Type 0
KeptForHits = (W : ℕ) (ts : List ℕ) (i y : ℕ) → i < length ts → (held y (slice_index_or (reverse (schedule W ts)) i []) ≡ true) ↔ Kept W ts i y

-- a legal history that has the rule's hits, turn by turn, and holds after each turn as many lines as that gap's occupancy says
pub record Attains (W : ℕ) (ts : List ℕ) (cs : List (List ℕ)) : Type 0 where
  pub legal : Legal W ts cs
  pub turns : turn_hits ts cs ≡ verdicts W ts
  pub count : earned ts cs ≡ hits W ts
  pub sizes : map length cs ≡ occupancies W ts
  pub filled : load cs ≡ sum (occupancies W ts)

abbrev pub Attained : Type 0
Attained = (W : ℕ) (ts : List ℕ) → Attains W ts (schedule W ts)

-- the hold of each touch: whether the next touch of its line is a hit. A hit sets that of the last touch of its line
unfoldable pub mark : ℕ → List ℕ → List Bool → List Bool
mark x [] hs = hs
mark x (t ∷ ts) [] = []
mark x (t ∷ ts) (h ∷ hs) = cond (x == t) (true ∷ hs) (h ∷ mark x ts hs)

unfoldable pub holds : ℕ → List ℕ → List Bool
holds W [] = []
holds W (t ∷ ts) = false ∷ cond (hit W t ts) (mark t ts (holds W ts)) (holds W ts)

pub record Row : Type 0 where
  pub line : ℕ
  pub verdict : Bool
  pub hold : Bool
  pub way : ℕ

abbrev pub without : ℕ → List ℕ → List ℕ
without x [] = []
without x (y ∷ ys) = cond (x == y) (without x ys) (y ∷ without x ys)

-- what a loader holds after each row: one with hold puts its line in, and one without takes it out
unfoldable pub resident : List Row → List (List ℕ)
resident [] = []
resident (r ∷ rs) = cond r.hold (r.line ∷ without r.line (latest (resident rs))) (without r.line (latest (resident rs))) ∷ resident rs

-- the way that x sits in: the one that its latest row names
unfoldable pub seat : ℕ → List Row → ℕ
seat x [] = 255
seat x (r ∷ rs) = cond (x == r.line) r.way (seat x rs)

-- the first of the n ways from w on that is not among these
unfoldable pub lowest : ℕ → ℕ → List ℕ → ℕ
lowest zero w ways = w
lowest (suc n) w ways = cond (held w ways) (lowest n (suc w) ways) w

-- the way of a touch of x after the rows rs, by its verdict and hold: at a hit the one that x sits in,
-- at a missed line that is kept the lowest in which no held line sits, and else 255
abbrev pub way : ℕ → Bool → Bool → ℕ → List Row → ℕ
way W true hold x rs = seat x rs
way W false true x rs = lowest W 0 (map (λ y. seat y rs) (latest (resident rs)))
way W false false x rs = 255

-- the rows of the touches ts, with these holds, and with those that the rule gives
unfoldable pub rows_with : ℕ → List ℕ → List Bool → List Row
rows_with W [] hs = []
rows_with W (t ∷ ts) [] = []
rows_with W (t ∷ ts) (h ∷ hs) = record { line = t; verdict = hit W t ts; hold = h; way = way W (hit W t ts) h t (rows_with W ts hs) } ∷ rows_with W ts hs

unfoldable pub rows : ℕ → List ℕ → List Row
rows W ts = rows_with W ts (holds W ts)

-- the rows rs and then r have been read: each line held sits in a way of the set, alone, and one that was held before sits where it sat
pub record SeatedTurn (W : ℕ) (r : Row) (rs : List Row) : Type 0 where
  pub below : (y : ℕ) → held y (latest (resident (r ∷ rs))) ≡ true → seat y (r ∷ rs) < W
  pub alone : (y z : ℕ) → held y (latest (resident (r ∷ rs))) ≡ true → held z (latest (resident (r ∷ rs))) ≡ true → seat y (r ∷ rs) ≡ seat z (r ∷ rs) → y ≡ z
  pub keeps : (y : ℕ) → held y (latest (resident rs)) ≡ true → held y (latest (resident (r ∷ rs))) ≡ true → seat y (r ∷ rs) ≡ seat y rs

-- so after each turn
abbrev pub Seated : ℕ → List Row → Type 0
Seated W [] = Unit {0}
Seated W (r ∷ rs) = SeatedTurn W r rs × Seated W rs

abbrev pub WaysFit : Type 0
WaysFit = (W : ℕ) (ts : List ℕ) → Seated W (rows W ts)

-- the rows have the lines and the rule's verdicts, and read forward they hold after each turn what the schedule holds
pub record ReadForward (W : ℕ) (ts : List ℕ) : Type 0 where
  pub lines : map (λ r. r.line) (rows W ts) ≡ ts
  pub told : map (λ r. r.verdict) (rows W ts) ≡ verdicts W ts
  pub attains : Attains W ts (resident (rows W ts))
  pub same : (i y : ℕ) → held y (slice_index_or (resident (rows W ts)) i []) ≡ held y (slice_index_or (schedule W ts) i [])

abbrev pub HeldByRows : Type 0
HeldByRows = (W : ℕ) (ts : List ℕ) → ReadForward W ts
