-- A text that goes to the front of an output.
use Rattle.std.specs.Prelude.{◌≡◌, ℕ, ◌<◌, ◌≤◌, List, ◌++◌, length, drop, Ok, Err, Result}
use Rattle.geometry.specs.declared.refusal.Refusal.{Refusal}
use Rattle.geometry.specs.declared.refusal.Refusal.TheVariants.{Output}

-- The text stands at the front, its length is answered, and what lies past it is as it was; or the output is too short, and all of it is as it was.
abbrev pub Copied : List ℕ → List ℕ → Result ℕ Refusal → List ℕ → Type 0
Copied text before (Ok n) after = (n ≡ length text) × (n ≤ length before) × (after ≡ text ++ drop n before)
Copied text before (Err e) after = (e ≡ Output) × (length before < length text) × (after ≡ before)
