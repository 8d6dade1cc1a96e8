-- The limits of a geometry: lines of 2^b bytes, 2^s sets, W ways.
use Rattle.std.specs.Prelude.{ℕ, ◌≤◌}

abbrev pub Shape : ℕ → ℕ → ℕ → Type 0
Shape b s W = (2 ≤ b) × (b ≤ 12) × (s ≤ 10) × (1 ≤ W) × (W ≤ 16)
