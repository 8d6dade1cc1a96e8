-- Histories of a set: what any cache of W ways could have held after each turn, and the best that any of them does.
-- A history is a list of contents, the newest first, each a list of lines.
use Rattle.std.specs.Prelude.{◌≡◌, ℕ, suc, ◌≤◌, Bool, true, false, ◌↔◌, List, [], ◌∷◌, map, length, sum}
use Rattle.histories.specs.Rule.{trues, held, hit, hits}

-- what is held after the latest turn; nothing before turn 0
abbrev pub latest : List (List ℕ) → List ℕ
latest [] = []
latest (c ∷ cs) = c

abbrev pub Distinct : List ℕ → Type 0
Distinct [] = Unit {0}
Distinct (y ∷ ys) = (held y ys ≡ false) × Distinct ys

-- c may be held after a touch of t, where `before` was held before it
pub record LegalTurn (W t : ℕ) (c before : List ℕ) : Type 0 where
  pub distinct : Distinct c
  pub small : length c ≤ W
  pub kept : (y : ℕ) → held y c ≡ true → held y (t ∷ before) ≡ true

abbrev pub Legal : ℕ → List ℕ → List (List ℕ) → Type 0
Legal W [] [] = Unit {0}
Legal W [] (c ∷ cs) = ⊥
Legal W (t ∷ ts) [] = ⊥
Legal W (t ∷ ts) (c ∷ cs) = LegalTurn W t c (latest cs) × Legal W ts cs

-- a turn is a history's hit exactly when its line is held just before; the number of its hits
unfoldable pub turn_hits : List ℕ → List (List ℕ) → List Bool
turn_hits [] cs = []
turn_hits (t ∷ ts) [] = []
turn_hits (t ∷ ts) (c ∷ cs) = held t (latest cs) ∷ turn_hits ts cs

unfoldable pub earned : List ℕ → List (List ℕ) → ℕ
earned ts cs = trues (turn_hits ts cs)

-- the sizes of all contents together
abbrev pub load : List (List ℕ) → ℕ
load cs = sum (map length cs)

-- n is the best count: some legal history has n hits, and none has more
pub record Best (W : ℕ) (ts : List ℕ) (n : ℕ) : Type 0 where
  pub some : (cs : List (List ℕ)) × Legal W ts cs × (earned ts cs ≡ n)
  pub all : (cs : List (List ℕ)) → Legal W ts cs → earned ts cs ≤ n

-- no legal history has more hits than the rule counts
abbrev pub Bounded : Type 0
Bounded = (W : ℕ) (ts : List ℕ) (cs : List (List ℕ)) → Legal W ts cs → earned ts cs ≤ hits W ts

-- the rule's count is the best; a touch is a hit exactly when the best count rises by one with it, and a miss exactly when it stays
pub record Rising (W x : ℕ) (ts : List ℕ) : Type 0 where
  pub best : Best W ts (hits W ts)
  pub rise : (hit W x ts ≡ true) ↔ ((n : ℕ) → Best W ts n → Best W (x ∷ ts) (suc n))
  pub stay : (hit W x ts ≡ false) ↔ ((n : ℕ) → Best W ts n → Best W (x ∷ ts) n)

abbrev pub Rises : Type 0
Rises = (W x : ℕ) (ts : List ℕ) → Rising W x ts
