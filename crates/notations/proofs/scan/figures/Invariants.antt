use Rattle.std.proofs.Common.{◌≡◌, take}
use Rattle.std.specs.Str.Parse.{AllDigits, digits_value}
use Rattle.notations.proofs.scan.figures.Given as goal

abbrev pub invariant-loop-count : goal.invariant-loop-count
invariant-loop-count l = AllDigits l.radix (take l.count l.bytes) × (l.value ≡ digits_value l.radix (take l.count l.bytes))
