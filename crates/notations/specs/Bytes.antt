-- Bytes and runs of bytes that both notations know.
use Rattle.std.specs.Prelude.{◌≡◌, ℕ, ◌<◌, ◌≤◌, ◌⊎◌, List, [], ◌∷◌, length, take, slice_index}
use Rattle.std.specs.Str.Parse.{AllDigits, digits_value}
use Rattle.std.specs.Char.{digit_value}
use Rattle.std.specs.List.{AllByRecursion}

-- a space or a tab
abbrev pub Blank : ℕ → Type 0
Blank b = (b ≡ 32) ⊎ (b ≡ 9)

-- a number that is written in 1 to `most` digits of the radix, in either case
pub record Figures (radix most : ℕ) (ds : List ℕ) : Type 0 where
  pub some : 0 < length ds
  pub few : length ds ≤ most
  pub digits : AllDigits radix ds

-- the end of a line, or a blank and then anything
abbrev pub Stops : List ℕ → Type 0
Stops [] = Unit {0}
Stops (b ∷ bs) = Blank b

-- the first n bytes are the longest front of blanks
pub record Indent (bs : List ℕ) (n : ℕ) : Type 0 where
  pub within : n ≤ length bs
  pub blanks : AllByRecursion Blank (take n bs)
  pub stops : n < length bs → Blank (slice_index bs n) → ⊥

-- the first n bytes are the longest front of at most `most` digits, and write v
pub record Longest (radix most : ℕ) (bs : List ℕ) (n v : ℕ) : Type 0 where
  pub within : n ≤ length bs
  pub few : n ≤ most
  pub digits : AllDigits radix (take n bs)
  pub is : v ≡ digits_value radix (take n bs)
  pub stops : n < length bs → n < most → radix ≤ digit_value (slice_index bs n)
