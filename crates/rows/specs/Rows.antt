-- A row with one of its entries replaced, and what is looked for in a row.
use Rattle.std.specs.Prelude.{◌≡◌, ℕ, ◌<◌, List, length, slice_set}
use Rattle.replacement.specs.declared.Way.{Way}
use Rattle.replacement.specs.Ways.{first, vacant, oldest, greatest}
use Rattle.rows.specs.declared.row.Row.{Row}
use Rattle.rows.specs.declared.row.Place.{Place}
use Rattle.rows.specs.declared.row.Place.TheVariants.{Empty, Oldest}

abbrev pub replaced : {X : Type 0} {n : ℕ} → Row X n → ℕ → X → Row X n
replaced d w e = record { ways = slice_set d.ways w e }

-- the lowest-numbered empty way, else the lowest-numbered one of the greatest age
abbrev pub Places : List Way → Place → Type 0
Places m (Empty v) = (v ≡ first vacant m) × (v < length m)
Places m (Oldest v a) = (first vacant m ≡ length m) × (v ≡ oldest m) × (a ≡ greatest m) × (v < length m)
