-- Lackey: `I` and two spaces, or a space, one of L, S, M, and a space; then the address, a comma, a size of 1 to 3 decimal digits, the end. A line that starts with `==` is skipped.
use Rattle.std.specs.Prelude.{◌≡◌, ℕ, ◌⊎◌, List, [], ◌∷◌, ◌++◌, ◌≢◌}
use Rattle.std.specs.Str.Parse.{digits_value}
use Rattle.std.specs.List.{AllByRecursion}
use Rattle.notations.specs.Bytes.{Blank, Figures}
use Rattle.notations.specs.Grammar.{Reading, Grammar}
use Rattle.notations.specs.declared.line.Kind.{Kind}
use Rattle.notations.specs.declared.line.Kind.TheVariants.{Fetch, Load, Store, Modify}

-- "I  ", " L ", " S ", " M "
abbrev pub prefix : Kind → List ℕ
prefix Fetch = 73 ∷ 32 ∷ 32 ∷ []
prefix Load = 32 ∷ 76 ∷ 32 ∷ []
prefix Store = 32 ∷ 83 ∷ 32 ∷ []
prefix Modify = 32 ∷ 77 ∷ 32 ∷ []

pub record LackeyRecord (line : List ℕ) (t : Reading) : Type 0 where
  pub sized : List ℕ
  pub shape : line ≡ prefix t.kind ++ (t.digits ++ 44 ∷ sized)
  pub figures : Figures 16 16 t.digits
  pub counted : Figures 10 3 sized
  pub address : t.address ≡ digits_value 16 t.digits
  pub size : t.size ≡ digits_value 10 sized
  pub column : t.column ≡ 4

-- no kind's prefix opens the line
abbrev pub Unopened : List ℕ → Type 0
Unopened line = (k : Kind) (rest : List ℕ) → line ≢ prefix k ++ rest

-- L, S or M
abbrev pub Letter : ℕ → Type 0
Letter b = (b ≡ 76) ⊎ ((b ≡ 83) ⊎ (b ≡ 77))

-- the line starts with `==`
abbrev pub Commented : List ℕ → Type 0
Commented line = (rest : List ℕ) × (line ≡ 61 ∷ 61 ∷ rest)

abbrev pub Skips : List ℕ → Type 0
Skips line = AllByRecursion Blank line ⊎ Commented line

-- the kind stands first, or after a space
abbrev pub Lead : List ℕ → Type 0
Lead bs = (bs ≡ []) ⊎ (bs ≡ 32 ∷ [])

unfoldable pub lackey : Grammar
lackey = record { skips = Skips; records = LackeyRecord; lead = Lead }
