-- din: blanks if any, a label of one byte, one or more blanks, the address, then the end, or a blank and anything. An access has one byte.
use Rattle.std.specs.Prelude.{◌≡◌, ℕ, ◌+◌, ◌<◌, List, ◌∷◌, ◌++◌, length, Some, None, Option}
use Rattle.std.specs.Str.Parse.{digits_value}
use Rattle.std.specs.List.{AllByRecursion}
use Rattle.notations.specs.Bytes.{Blank, Figures, Stops}
use Rattle.notations.specs.Grammar.{Reading, Grammar}
use Rattle.notations.specs.declared.line.Kind.{Kind}
use Rattle.notations.specs.declared.line.Kind.TheVariants.{Fetch, Load, Store, Modify}

-- 0 is a read, 1 a write, 2 an instruction fetch
abbrev pub label : Kind → Option ℕ
label Load = Some 48
label Store = Some 49
label Fetch = Some 50
label Modify = None

pub record DinRecord (line : List ℕ) (t : Reading) : Type 0 where
  pub indent : List ℕ
  pub mark : ℕ
  pub gap : List ℕ
  pub rest : List ℕ
  pub shape : line ≡ indent ++ mark ∷ (gap ++ (t.digits ++ rest))
  pub indented : AllByRecursion Blank indent
  pub labelled : label t.kind ≡ Some mark
  pub apart : AllByRecursion Blank gap
  pub some : 0 < length gap
  pub figures : Figures 16 16 t.digits
  pub stops : Stops rest
  pub address : t.address ≡ digits_value 16 t.digits
  pub size : t.size ≡ 1
  pub column : t.column ≡ length indent + length gap + 2

unfoldable pub din : Grammar
din = record { skips = AllByRecursion Blank; records = DinRecord; lead = AllByRecursion Blank }
