-- The number of each refusal, by which listings and documents name it.
use Rattle.std.specs.Prelude.{ℕ}
use Rattle.geometry.specs.declared.refusal.Refusal.{Refusal}
use Rattle.geometry.specs.declared.refusal.Refusal.TheVariants.{Limits, Memory, PastMemory, Size, Reversed, NoSuchSet, Output, FirstLine, UnknownKind, Misfit, Input, SetFull, NotTaken, OtherShape}

abbrev pub number : Refusal → ℕ
number Limits = 1
number Memory = 2
number PastMemory = 3
number Size = 4
number Reversed = 5
number NoSuchSet = 6
number Output = 8
number FirstLine = 9
number UnknownKind = 12
number Misfit = 13
number Input = 18
number SetFull = 21
number NotTaken = 22
number OtherShape = 23
