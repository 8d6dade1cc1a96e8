-- What a kind of summary is, and the summary of a list of occupancies.
use Rattle.std.specs.Prelude.{◌≡◌, ℕ, zero, suc, ◌^◌, ◌≤◌, List, [], ◌∷◌, length}

-- values for no gaps and for one gap of occupancy 0, the join of two neighbouring stretches, and the raise of every gap by one
pub record Algebra (M : Type 0) : Type 0 where
  pub none : M
  pub one : M
  pub join : M → M → M
  pub up : M → M

-- what a kind has to satisfy
pub record Laws {M : Type 0} (a : Algebra M) : Type 0 where
  pub left : (x : M) → a.join a.none x ≡ x
  pub right : (x : M) → a.join x a.none ≡ x
  pub assoc : (x y z : M) → a.join (a.join x y) z ≡ a.join x (a.join y z)
  pub up_none : a.up a.none ≡ a.none
  pub up_join : (x y : M) → a.up (a.join x y) ≡ a.join (a.up x) (a.up y)

-- n raises
abbrev pub ups : {M : Type 0} → Algebra M → ℕ → M → M
ups a zero x = x
ups a (suc n) x = a.up (ups a n x)

-- the join, in order, of the gaps, each raised as often as its occupancy says
abbrev pub summary : {M : Type 0} → Algebra M → List ℕ → M
summary a [] = a.none
summary a (g ∷ gs) = a.join (ups a g a.one) (summary a gs)

-- no number is above m
abbrev pub Within : ℕ → List ℕ → Type 0
Within m [] = Unit {0}
Within m (g ∷ gs) = (g ≤ m) × Within m gs

-- at most 2^20 gaps, each of occupancy at most 16
pub record Small (gs : List ℕ) : Type 0 where
  pub few : length gs ≤ 2 ^ 20
  pub low : Within 16 gs

-- the summary of every such list fits the machine
abbrev pub Fit : {M : Type 0} → Algebra M → (M → Type 0) → Type 0
Fit a fits = (gs : List ℕ) → Small gs → fits (summary a gs)
