-- OPTgen's rule for one set of W ways.
--
-- A set sees lines touched, one at each turn, from turn 0 on. A line is its number. Gap i lies after turn i, and has an occupancy.
-- A list with an item for each turn has the newest first: its head belongs to the latest turn, and its tail is what the list was before.
use Rattle.std.specs.Prelude.{◌≡◌, ℕ, suc, ◌+◌, ◌<◌, ◌≤◌, Bool, true, false, cond, ◌&&◌, ◌||◌, ◌↔◌, List, [], ◌∷◌, reverse, length, ◌==◌, ◌≢◌, nat_le, nat_lt, slice_index}

-- 1 for true, 0 for false; how many are true
abbrev pub tally : Bool → ℕ
tally b = cond b 1 0

abbrev pub trues : List Bool → ℕ
trues [] = 0
trues (b ∷ bs) = tally b + trues bs

-- whether x is one of these lines
abbrev pub held : ℕ → List ℕ → Bool
held x [] = false
held x (y ∷ ys) = x == y || held x ys

-- after the touches ts, whose gaps have the occupancies os: x was touched, and every gap since its last touch is below W
unfoldable pub fits : ℕ → ℕ → List ℕ → List ℕ → Bool
fits W x [] os = false
fits W x (t ∷ ts) [] = false
fits W x (t ∷ ts) (o ∷ os) = nat_lt o W && (x == t || fits W x ts os)

-- each gap since the last touch of x goes up by one
unfoldable pub raise : ℕ → List ℕ → List ℕ → List ℕ
raise x [] os = os
raise x (t ∷ ts) [] = []
raise x (t ∷ ts) (o ∷ os) = suc o ∷ cond (x == t) os (raise x ts os)

-- the occupancies after the touches ts: a hit raises, a miss does not, and the new gap starts at 0
unfoldable pub occupancies : ℕ → List ℕ → List ℕ
occupancies W [] = []
occupancies W (t ∷ ts) = 0 ∷ cond (fits W t ts (occupancies W ts)) (raise t ts (occupancies W ts)) (occupancies W ts)

-- whether a touch of x after the touches ts is a hit; the verdicts of all touches; the number of hits
abbrev pub hit : ℕ → ℕ → List ℕ → Bool
hit W x ts = fits W x ts (occupancies W ts)

unfoldable pub verdicts : ℕ → List ℕ → List Bool
verdicts W [] = []
verdicts W (t ∷ ts) = hit W t ts ∷ verdicts W ts

unfoldable pub hits : ℕ → List ℕ → ℕ
hits W ts = trues (verdicts W ts)

-- what a list, the newest first, has for turn i
abbrev pub at_turn : List ℕ → ℕ → ℕ
at_turn xs i = slice_index (reverse xs) i

-- x was last touched at turn p
pub record LastTouch (ts : List ℕ) (x p : ℕ) : Type 0 where
  pub past : p < length ts
  pub here : at_turn ts p ≡ x
  pub since : (i : ℕ) → p < i → i < length ts → at_turn ts i ≢ x

-- The rule as published, for a touch of x at turn t, which is length ts. Last touched at p, it is a hit exactly when every gap
-- from p to t − 1 is below W, and then each of those goes up by one. With no such p it is a miss. At a miss no gap changes.
pub record Published (W x : ℕ) (ts : List ℕ) : Type 0 where
  pub gaps : length (occupancies W ts) ≡ length ts
  pub room : (p : ℕ) → LastTouch ts x p → (hit W x ts ≡ true) ↔ ((i : ℕ) → p ≤ i → i < length ts → at_turn (occupancies W ts) i < W)
  pub never : ((p : ℕ) → LastTouch ts x p → ⊥) → hit W x ts ≡ false
  pub raised : (p : ℕ) → LastTouch ts x p → hit W x ts ≡ true
      → (i : ℕ) → i < length ts → at_turn (occupancies W (x ∷ ts)) i ≡ at_turn (occupancies W ts) i + tally (nat_le p i)
  pub stays : hit W x ts ≡ false → (i : ℕ) → i < length ts → at_turn (occupancies W (x ∷ ts)) i ≡ at_turn (occupancies W ts) i
  pub fresh : at_turn (occupancies W (x ∷ ts)) (length ts) ≡ 0

abbrev pub RuleByIndex : Type 0
RuleByIndex = (W x : ℕ) (ts : List ℕ) → Published W x ts
