-- One turn of a set by its gaps, the oldest first.
use Rattle.std.specs.Prelude.{◌≡◌, ℕ, ◌<◌, ◌≤◌, Bool, true, false, cond, ◌&&◌, List, [], ◌∷◌, ◌++◌, reverse, length, drop, IfSome, Some, None, Option, ◌==◌, nat_lt}
use Rattle.std.specs.List.{Contains, All}
use Rattle.histories.specs.Rule.{occupancies, hit, LastTouch}
use Rattle.summaries.specs.Algebra.{Within, summary}
use Rattle.summaries.specs.Kinds.{peak}
use Rattle.summaries.specs.Stretches.{bump}

-- the turn at which x was last touched, of touches with the newest first
abbrev pub latest_turn : List ℕ → ℕ → Option ℕ
latest_turn [] x = None
latest_turn (t ∷ ts) x = cond (x == t) (Some (length ts)) (latest_turn ts x)

-- what such an answer says: x was last touched at that turn, or never
abbrev pub Earlier : List ℕ → ℕ → Option ℕ → Type 0
Earlier ts x None = (p : ℕ) → LastTouch ts x p → ⊥
Earlier ts x (Some p) = LastTouch ts x p

-- each gap is below W
abbrev pub below : ℕ → List ℕ → Bool
below W [] = true
below W (g ∷ gs) = nat_lt g W && below W gs

-- whether there was an earlier turn, and each gap since is below W
abbrev pub roomy : ℕ → Option ℕ → List ℕ → Bool
roomy W None gs = false
roomy W (Some p) gs = below W (drop p gs)

-- one more in each gap since the earlier turn
abbrev pub lifted : Option ℕ → List ℕ → List ℕ
lifted None gs = gs
lifted (Some p) gs = bump p (length gs) gs

-- the gaps after a turn: a hit lifts, a miss does not, and the new gap starts at 0
abbrev pub noted : ℕ → Option ℕ → List ℕ → List ℕ
noted W p gs = cond (roomy W p gs) (lifted p gs) gs ++ 0 ∷ []

-- the occupancies of the rule, the oldest first
abbrev pub by_turn : ℕ → List ℕ → List ℕ
by_turn W ts = reverse (occupancies W ts)

-- A touch of x after the touches ts, by gaps with the oldest first: its verdict and the gaps after it are the rule's, and no gap is above W.
pub record Turned (W x : ℕ) (ts : List ℕ) : Type 0 where
  pub hit : roomy W (latest_turn ts x) (by_turn W ts) ≡ hit W x ts
  pub gaps : noted W (latest_turn ts x) (by_turn W ts) ≡ by_turn W (x ∷ ts)
  pub low : Within W (by_turn W ts)
  pub long : length (by_turn W ts) ≡ length ts
  pub before : IfSome (latest_turn ts x) (λ p. p < length ts)

abbrev pub TurnsGo : Type 0
TurnsGo = (W x : ℕ) (ts : List ℕ) → Turned W x ts

-- the latest turn is the last touch
abbrev pub TurnsFound : Type 0
TurnsFound = (ts : List ℕ) (x : ℕ) → Earlier ts x (latest_turn ts x)

-- what the summary of gaps by their peak has, and what it says: it is one of them and none is above it, or there are none
abbrev pub highest : List ℕ → Option ℕ
highest gs = (summary peak gs).highest

abbrev pub Highest : List ℕ → Option ℕ → Type 0
Highest gs None = gs ≡ []
Highest gs (Some m) = Contains gs m × All (λ g. g ≤ m) gs

abbrev pub Peaks : Type 0
Peaks = (gs : List ℕ) → Highest gs (highest gs)
