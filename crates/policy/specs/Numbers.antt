-- Line numbers as numbers.
use Rattle.std.specs.Prelude.{ℕ}
use Rattle.geometry.specs.declared.numbers.LineNumber.{LineNumber}

abbrev pub line_number : LineNumber → ℕ
line_number x = x.0
