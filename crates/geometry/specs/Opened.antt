-- What the making of a geometry answers: the geometry of those numbers where they are within the limits, else the refusal of limits.
use Rattle.std.specs.Prelude.{◌≡◌, ℕ, Ok, Err, Result}
use Rattle.geometry.specs.Shape.{Shape}
use Rattle.geometry.specs.declared.refusal.Refusal.{Refusal}
use Rattle.geometry.specs.declared.refusal.Refusal.TheVariants.{Limits}
use Rattle.geometry.specs.declared.shape.Geometry.{Geometry}

abbrev pub Opened : ℕ → ℕ → ℕ → Result Geometry Refusal → Type 0
Opened b s W (Ok g) = Shape b s W × (g.b ≡ b) × (g.s ≡ s) × (g.ways ≡ W)
Opened b s W (Err e) = (e ≡ Limits) × (Shape b s W → ⊥)
