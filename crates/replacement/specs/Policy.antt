-- What a policy means: a state, the lines that it holds in each set, the next state for each line, and the laws of these.
use Rattle.std.specs.Prelude.{◌≡◌, ℕ, ◌+◌, ◌≤◌, Bool, true, cond, ◌⊎◌, List, [], ◌∷◌, length, ◌==◌, ◌≢◌}
use Rattle.histories.specs.Rule.{held, tally}
use Rattle.histories.specs.Histories.{Distinct}
use Rattle.replacement.specs.Lines.{set_of}

-- line x is held, in its set
abbrev pub found : {S : Type 0} → (S → ℕ) → (S → ℕ → List ℕ) → S → ℕ → Bool
found slog holds q x = held x (holds q (set_of (slog q) x))

-- the state after some touches, oldest first
abbrev pub after : {S : Type 0} → (S → ℕ → S) → S → List ℕ → S
after next q [] = q
after next q (x ∷ xs) = after next (next q x) xs

-- how many of some touches, oldest first, are hits
abbrev pub hits : {S : Type 0} → (S → ℕ → Bool) → (S → ℕ → S) → S → List ℕ → ℕ
hits hit next q [] = 0
hits hit next q (x ∷ xs) = tally (hit q x) + hits hit next (next q x) xs

-- The laws. p is a policy as the program holds it, and q a state; `slog` is s, the logarithm of the number of sets, and `wide` is W.
pub record Laws {P S : Type 0} (ready : P → Type 0) (state : P → S) (slog wide : S → ℕ) (holds : S → ℕ → List ℕ) (next : S → ℕ → S) (cleared : S → S) (Sound : S → Type 0) : Type 0 where
  -- what is said below of sound states is said of every state that can be reached
  pub sound : (p : P) → ready p → Sound (state p)
  pub stays : (q : S) (x : ℕ) → Sound q → Sound (next q x)
  pub clears : (q : S) → Sound q → Sound (cleared q)
  -- no line is held twice, and no set holds more than W
  pub apart : (q : S) (k : ℕ) → Sound q → Distinct (holds q k)
  pub fits : (q : S) (k : ℕ) → Sound q → length (holds q k) ≤ wide q
  -- after a touch the line's set holds only what it held before or the touched line, and every other set is as before
  pub only : (q : S) (x y : ℕ) → Sound q → held y (holds (next q x) (set_of (slog q) x)) ≡ true → (y ≡ x) ⊎ (held y (holds q (set_of (slog q) x)) ≡ true)
  pub others : (q : S) (x k : ℕ) → (k ≢ set_of (slog q) x) → holds (next q x) k ≡ holds q k
  -- the empty state holds nothing
  pub nothing : (q : S) (k : ℕ) → holds (cleared q) k ≡ []
  -- s and W are fixed
  pub shape : (q : S) (x : ℕ) → (slog (next q x) ≡ slog q) × (wide (next q x) ≡ wide q)
  pub reshape : (q : S) → (slog (cleared q) ≡ slog q) × (wide (cleared q) ≡ wide q)

-- ---- runs with more than touches

-- what can happen to a policy that is used with a list of touches
pub data Event : Type 0 where
  told : ℕ → Event  -- a line is touched, and the policy is told
  untold : ℕ → Event  -- a line is touched, and the policy is not told
  emptied : Event  -- the policy is emptied

-- the state after some events, newest first
abbrev pub state_after : {S : Type 0} → (S → ℕ → S) → (S → S) → S → List Event → S
state_after next cleared q [] = q
state_after next cleared q (told x ∷ es) = next (state_after next cleared q es) x
state_after next cleared q (untold x ∷ es) = state_after next cleared q es
state_after next cleared q (emptied ∷ es) = cleared (state_after next cleared q es)

-- the touches of set k, newest first
abbrev pub touches_of : ℕ → ℕ → List Event → List ℕ
touches_of s k [] = []
touches_of s k (told x ∷ es) = cond (k == set_of s x) (x ∷ touches_of s k es) (touches_of s k es)
touches_of s k (untold x ∷ es) = cond (k == set_of s x) (x ∷ touches_of s k es) (touches_of s k es)
touches_of s k (emptied ∷ es) = touches_of s k es

-- the touches of set k that the policy was told of since it was last emptied, newest first
abbrev pub told_of : ℕ → ℕ → List Event → List ℕ
told_of s k [] = []
told_of s k (told x ∷ es) = cond (k == set_of s x) (x ∷ told_of s k es) (told_of s k es)
told_of s k (untold x ∷ es) = told_of s k es
told_of s k (emptied ∷ es) = []
