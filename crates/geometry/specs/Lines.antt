-- The lines that an access touches: every line in which one of its bytes lies, ascending, once each.
use Rattle.std.specs.Prelude.{◌≡◌, ℕ, zero, suc, ◌+◌, ◌-◌, ◌/◌, ◌^◌, ◌<◌, ◌≤◌, ◌⊎◌, List, [], ◌∷◌, Ok, Err, Result}
use Rattle.std.specs.List.{ContainsAt as Has, AllByRecursion}
use Rattle.geometry.specs.declared.access.LineSpan.{LineSpan}
use Rattle.geometry.specs.declared.refusal.Refusal.{Refusal}
use Rattle.geometry.specs.declared.refusal.Refusal.TheVariants.{Size, PastMemory}

-- n numbers in a row, the first being a
abbrev pub upward : ℕ → ℕ → List ℕ
upward a zero = []
upward a (suc n) = a ∷ upward (suc a) n

-- the lines from that of the first byte to that of the last
abbrev pub lines : ℕ → ℕ → ℕ → List ℕ
lines b address size = upward (address / 2 ^ b) ((address + size - 1) / 2 ^ b + 1 - address / 2 ^ b)

-- an access may be taken: its size is from 1 to 256, and its last byte has an address
abbrev pub Sized : ℕ → Type 0
Sized size = (1 ≤ size) × (size ≤ 256)

abbrev pub Within : ℕ → ℕ → Type 0
Within address size = address + size ≤ 2 ^ 64

-- the ends of an access's lines, or its refusal: the size is looked at first
abbrev pub Spans : ℕ → ℕ → ℕ → Result LineSpan Refusal → Type 0
Spans b address size (Ok r) = Sized size × Within address size × (r.first.0 ≡ address / 2 ^ b) × (r.last.0 ≡ (address + size - 1) / 2 ^ b)
Spans b address size (Err e) = ((e ≡ Size) × (Sized size → ⊥)) ⊎ ((e ≡ PastMemory) × Sized size × (Within address size → ⊥))

-- a byte of the access lies in line y
abbrev pub Touched : ℕ → ℕ → ℕ → ℕ → Type 0
Touched b address size y = (i : ℕ) × (i < size) × ((address + i) / 2 ^ b ≡ y)

-- each number is less than all that follow it
abbrev pub Ascending : List ℕ → Type 0
Ascending [] = Unit {0}
Ascending (x ∷ xs) = AllByRecursion (λ y. x < y) xs × Ascending xs

-- The lines of an access are those in which its bytes lie, and no others, ascending (so that none comes twice).
abbrev pub Covers : Type 0
Covers = (b address size : ℕ) → 1 ≤ size → ((y : ℕ) → Has (lines b address size) y → Touched b address size y) × ((y : ℕ) → Touched b address size y → Has (lines b address size) y) × Ascending (lines b address size)
