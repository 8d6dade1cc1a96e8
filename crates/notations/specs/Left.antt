-- The lines that a reader has still to give.
use Rattle.std.specs.Prelude.{◌≡◌, ℕ, ◌+◌, List, [], ◌∷◌, MatchOption, Option}
use denote.Ref.{Bor}
use Rattle.notations.specs.Text.{lines}
use Rattle.notations.specs.declared.text.Lines.{Lines}

abbrev pub left : Lines → List (List ℕ)
left reader = lines reader.rest.now

-- A reader gives the first line that is left, and counts it; or, where none is left, nothing, and stays as it was.
pub record GivesLine (before : Lines) (given : Option (Bor (List ℕ))) (after : Lines) : Type 0 where
  pub line : MatchOption given (left before ≡ []) (λ l. left before ≡ l.now ∷ left after)
  pub number : MatchOption given (after ≡ before) (λ _. after.number ≡ before.number + 1)
