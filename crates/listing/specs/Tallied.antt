-- What a call of a tally leaves.
use Rattle.std.specs.Prelude.{◌≡◌, ℕ, List}
use Rattle.listing.specs.Touches.{Counted}
use Rattle.listing.specs.declared.first.Settings.{Settings}
use Rattle.listing.specs.declared.tally.Tally.{Tally}

-- the settings are as before, and where the counts before were those of the touches taken, After holds of the counts now
abbrev pub Tallied : Tally → Tally → (Settings → List ℕ → List ℕ → Type 0) → Type 0
Tallied old new After = (new.settings ≡ old.settings) × ((taken : List ℕ) → Counted old.settings.geometry.s old.counts.now taken → After old.settings taken new.counts.now)
