-- The counts of the sets' touches after a record and after a trace.
use Rattle.std.specs.Prelude.{◌≡◌, ℕ, ◌+◌, List, [], ◌∷◌, Ok, Err, Result}
use Rattle.geometry.specs.Lines.{lines}
use Rattle.geometry.specs.declared.refusal.Refusal.TheVariants.{SetFull}
use Rattle.notations.specs.Formats.{grammar_of}
use Rattle.notations.specs.declared.fault.LineFault.{LineFault}
use Rattle.notations.specs.declared.fault.TextFault.{TextFault}
use Rattle.notations.specs.declared.line.Record.{Record}
use Rattle.listing.specs.Touches.{Admits, Counted}
use Rattle.listing.specs.Trace.{Ending, stopped, Traced, ending}
use Rattle.listing.specs.declared.first.Settings.{Settings}

-- all lines of the record were taken, or one found its set full
abbrev pub RecordCounted : ℕ → ℕ → ℕ → List ℕ → Record → Result (Unit {0}) LineFault → List ℕ → Type 0
RecordCounted b s k taken t (Ok u) counts = (after : List ℕ) × Admits s k taken (lines b t.address.0 t.size) after [] × Counted s counts after
RecordCounted b s k taken t (Err f) counts = (f.cause ≡ SetFull) × (f.column ≡ t.column) × ((after : List ℕ) × (x : ℕ) × (left : List ℕ) × Admits s k taken (lines b t.address.0 t.size) after (x ∷ left) × Counted s counts after)

-- After a line that is not refused, whatever comes next goes on from the touches taken then; after one that is refused, nothing does.
abbrev pub LineCounted : Settings → ℕ → List ℕ → List ℕ → Result (Unit {0}) LineFault → List ℕ → Type 0
LineCounted x k taken line (Ok u) counts = (next : List ℕ) × Counted x.geometry.s counts next × ((ls : List (List ℕ)) (n : ℕ) (after : List ℕ) (end : Ending) → Traced (grammar_of x.format) x.geometry.b x.geometry.s k ls (n + 1) next after end → Traced (grammar_of x.format) x.geometry.b x.geometry.s k (line ∷ ls) n taken after end)
LineCounted x k taken line (Err f) counts = (after : List ℕ) × Counted x.geometry.s counts after × ((ls : List (List ℕ)) (n : ℕ) → Traced (grammar_of x.format) x.geometry.b x.geometry.s k (line ∷ ls) n taken after (stopped f.cause n f.column))

abbrev pub TraceCounted : Settings → ℕ → List ℕ → List (List ℕ) → ℕ → Result (Unit {0}) TextFault → List ℕ → Type 0
TraceCounted x k taken ls n r counts = (after : List ℕ) × Traced (grammar_of x.format) x.geometry.b x.geometry.s k ls n taken after (ending r) × Counted x.geometry.s counts after
