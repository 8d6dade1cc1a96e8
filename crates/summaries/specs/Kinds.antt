-- The kinds of this crate, over numbers without limit, and which of their values fit the machine.
use Rattle.std.specs.Prelude.{ℕ, ◌+◌, ◌^◌, ◌<◌, max, Some, None, Option, IfSome, option_map}
use Rattle.summaries.specs.Algebra.{Algebra}
use Rattle.summaries.specs.declared.kind.Peak.{Peak}
use Rattle.summaries.specs.declared.kind.Load.{Load}
use Rattle.summaries.specs.declared.kind.Both.{Both}

-- ---- the highest occupancy
abbrev pub of_highest : Option ℕ → Peak
of_highest o = record { highest = o }

abbrev pub higher : Option ℕ → Option ℕ → Option ℕ
higher None y = y
higher (Some a) None = Some a
higher (Some a) (Some b) = Some (max a b)

abbrev pub more : Option ℕ → Option ℕ
more o = option_map (λ a. a + 1) o

abbrev pub peak : Algebra Peak
peak = record { none = of_highest None; one = of_highest (Some 0); join = λ x y. of_highest (higher x.highest y.highest); up = λ x. of_highest (more x.highest) }

abbrev pub Byte : Option ℕ → Type 0
Byte o = IfSome o (λ a. a < 2 ^ 8)

abbrev pub peak_fits : Peak → Type 0
peak_fits p = Byte p.highest

-- ---- how many gaps, and the sum of their occupancies
abbrev pub of_load : ℕ → ℕ → Load
of_load g s = record { gaps = g; sum = s }

abbrev pub load : Algebra Load
load = record { none = of_load 0 0; one = of_load 1 0; join = λ x y. of_load (x.gaps + y.gaps) (x.sum + y.sum); up = λ x. of_load x.gaps (x.sum + x.gaps) }

abbrev pub load_fits : Load → Type 0
load_fits x = (x.gaps < 2 ^ 32) × (x.sum < 2 ^ 32)

-- ---- two kinds side by side
module _ {A B : Type 0} where
  abbrev pub of_both : A → B → Both A B
  of_both x y = record { first = x; second = y }

  abbrev pub both : Algebra A → Algebra B → Algebra (Both A B)
  both a b = record { none = of_both a.none b.none; one = of_both a.one b.one; join = λ x y. of_both (a.join x.first y.first) (b.join x.second y.second); up = λ x. of_both (a.up x.first) (b.up x.second) }

  abbrev pub both_fits : (A → Type 0) → (B → Type 0) → Both A B → Type 0
  both_fits f h p = f p.first × h p.second
