-- What becomes of the lines of a trace.
use Rattle.std.specs.Prelude.{◌≡◌, ℕ, ◌+◌, ◌⊎◌, List, [], ◌∷◌, Ok, Err, Result}
use Rattle.geometry.specs.Lines.{lines}
use Rattle.geometry.specs.declared.refusal.Refusal.{Refusal}
use Rattle.geometry.specs.declared.refusal.Refusal.TheVariants.{SetFull}
use Rattle.notations.specs.Grammar.{Grammar, Said, skipped, told, refused, Means}
use Rattle.notations.specs.declared.fault.TextFault.{TextFault}
use Rattle.listing.specs.Touches.{Admits}

-- how a trace ends: with its text, or refused at a line and a column
pub data Ending : Type 0 where
  whole : Ending
  stopped : Refusal → ℕ → ℕ → Ending

abbrev pub ending : Result (Unit {0}) TextFault → Ending
ending (Ok x) = whole
ending (Err f) = stopped f.fault.cause f.line f.fault.column

-- a line with this meaning comes next, after which the rest of the trace goes on from what is taken then
abbrev pub Step : ℕ → ℕ → ℕ → Said → ℕ → List ℕ → (List ℕ → Type 0) → List ℕ → Ending → Type 0
Step b s k skipped n taken Rest after end = Rest taken
Step b s k (refused cause column) n taken Rest after end = (after ≡ taken) × (end ≡ stopped cause n column)
Step b s k (told t) n taken Rest after end =
    ((next : List ℕ) × Admits s k taken (lines b t.address t.size) next [] × Rest next)
    ⊎ ((x : ℕ) × (left : List ℕ) × Admits s k taken (lines b t.address t.size) after (x ∷ left) × (end ≡ stopped SetFull n t.column))

-- The lines of a trace, the first of which has number n: every record's lines are taken in turn, and the first line that is refused, of text or of cache, ends the trace.
abbrev pub Traced : Grammar → ℕ → ℕ → ℕ → List (List ℕ) → ℕ → List ℕ → List ℕ → Ending → Type 0
Traced G b s k [] n taken after end = (after ≡ taken) × (end ≡ whole)
Traced G b s k (l ∷ ls) n taken after end = (m : Said) × Means G l m × Step b s k m n taken (λ next. Traced G b s k ls (n + 1) next after end) after end
