-- The set that a line falls into.
use Rattle.std.specs.Prelude.{ℕ, ◌%◌, ◌^◌}

-- of 2^s sets, line x falls into set x modulo 2^s
abbrev pub set_of : ℕ → ℕ → ℕ
set_of s x = x % (2 ^ s)
