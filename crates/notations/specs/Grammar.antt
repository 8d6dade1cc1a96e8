-- What a line of text means, for any notation: it is skipped, a record, or refused with a cause at a column.
use Rattle.std.specs.Prelude.{◌≡◌, ℕ, ◌+◌, ◌<◌, ◌≤◌, ◌⊎◌, List, ◌++◌, length, take, Some, None, Ok, Err, Option, Result}
use Rattle.geometry.specs.Lines.{Sized, Within}
use Rattle.geometry.specs.declared.refusal.Refusal.{Refusal}
use Rattle.geometry.specs.declared.refusal.Refusal.TheVariants.{UnknownKind, Misfit, Size, PastMemory}
use Rattle.notations.specs.declared.fault.LineFault.{LineFault}
use Rattle.notations.specs.declared.line.Kind.{Kind}
use Rattle.notations.specs.declared.line.Record.{Record}

-- what a record says: the digits of its address stand in the line from `column` on
pub record Reading : Type 0 where
  pub kind : Kind
  pub address : ℕ
  pub size : ℕ
  pub digits : List ℕ
  pub column : ℕ

-- A notation: the lines that it skips, the lines that are a record, and what may stand before a record's kind.
pub record Grammar : Type 1 where
  pub skips : List ℕ → Type 0
  pub records : List ℕ → Reading → Type 0
  pub lead : List ℕ → Type 0

-- some record begins with these bytes
abbrev pub Begins : Grammar → List ℕ → Type 0
Begins G bs = (rest : List ℕ) × (t : Reading) × G.records (bs ++ rest) t

-- The leftmost misfit of a line stands i bytes in: what is to its left begins a record, and no record begins with that and the byte there, or else the line ends there too early.
pub record Misfits (G : Grammar) (line : List ℕ) (i : ℕ) : Type 0 where
  pub within : i ≤ length line
  pub left : Begins G (take i line)
  pub here : i < length line → Begins G (take (i + 1) line) → ⊥
  pub none : (t : Reading) → G.records line t → ⊥

-- The causes for which a line is refused, and the column of each. A written size follows the address's digits and one byte.
abbrev pub Refuses : Grammar → List ℕ → Refusal → ℕ → Type 0
Refuses G line cause column =
    ((cause ≡ UnknownKind) × ((i : ℕ) × (column ≡ i + 1) × Misfits G line i × G.lead (take i line)))
    ⊎ (((cause ≡ Misfit) × ((i : ℕ) × (column ≡ i + 1) × Misfits G line i × (G.lead (take i line) → ⊥)))
    ⊎ (((cause ≡ Size) × ((t : Reading) × G.records line t × (Sized t.size → ⊥) × (column ≡ t.column + length t.digits + 1)))
    ⊎ ((cause ≡ PastMemory) × ((t : Reading) × G.records line t × Sized t.size × (Within t.address t.size → ⊥) × (column ≡ t.column)))))

-- the meaning of a line
pub data Said : Type 0 where
  skipped : Said
  told : Reading → Said
  refused : Refusal → ℕ → Said

-- Skipping comes first; a record is one that can be accessed.
abbrev pub Means : Grammar → List ℕ → Said → Type 0
Means G line skipped = G.skips line
Means G line (told t) = (G.skips line → ⊥) × G.records line t × Sized t.size × Within t.address t.size
Means G line (refused cause column) = (G.skips line → ⊥) × Refuses G line cause column

-- what the answer of a reader says
abbrev pub said : Result (Option Record) LineFault → Said
said (Ok None) = skipped
said (Ok (Some r)) = told (record { kind = r.kind; address = r.address.0; size = r.size; digits = r.digits.now; column = r.column })
said (Err f) = refused f.cause f.column

-- a line has one meaning at most
abbrev pub One : Grammar → Type 0
One G = (line : List ℕ) (m n : Said) → Means G line m → Means G line n → m ≡ n
