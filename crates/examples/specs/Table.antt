-- The worked examples, one table. Touches are in their order, the first one first.
use Rattle.std.specs.Prelude.{◌≡◌, ℕ, Bool, true, false, List, [], ◌∷◌, map, reverse}
use Rattle.std.specs.List.{All}
use Rattle.histories.specs.Rule.{tally, verdicts, hits}
use Rattle.histories.specs.Schedule.{Row, rows}
use Rattle.replacement.specs.Sets.{lru_hits, srrip_hits}

-- different lines of one set
abbrev pub A : ℕ
A = 1

abbrev pub B : ℕ
B = 2

abbrev pub C : ℕ
C = 3

abbrev pub D : ℕ
D = 4

abbrev pub E : ℕ
E = 5

-- hit and miss
abbrev pub h : Bool
h = true

abbrev pub m : Bool
m = false

-- verdict, hold and way, as the image has them
abbrev pub bytes : Row → List ℕ
bytes r = tally r.verdict ∷ tally r.hold ∷ r.way ∷ []

pub data Example : Type 0 where
  judged : (W : ℕ) (touches : List ℕ) (answer : List Bool) → Example
  scheduled : (W : ℕ) (touches : List ℕ) (answer : List (List ℕ)) → Example
  counted : (W : ℕ) (touches : List ℕ) (answer : ℕ) → Example
  scored_by_lru : (W : ℕ) (touches : List ℕ) (answer : ℕ) → Example
  scored_by_srrip : (W : ℕ) (touches : List ℕ) (answer : ℕ) → Example

-- what an example says
abbrev pub Holds : Example → Type 0
Holds (judged W xs answer) = reverse (verdicts W (reverse xs)) ≡ answer
Holds (scheduled W xs answer) = reverse (map bytes (rows W (reverse xs))) ≡ answer
Holds (counted W xs answer) = hits W (reverse xs) ≡ answer
Holds (scored_by_lru W xs answer) = lru_hits W xs ≡ answer
Holds (scored_by_srrip W xs answer) = srrip_hits W xs ≡ answer

abbrev pub table : List Example
table =
    judged 2 (A ∷ B ∷ C ∷ A ∷ B ∷ C ∷ []) (m ∷ m ∷ m ∷ h ∷ h ∷ m ∷ [])
    ∷ scheduled 2 (A ∷ B ∷ C ∷ A ∷ B ∷ C ∷ []) ((0 ∷ 1 ∷ 0 ∷ []) ∷ (0 ∷ 1 ∷ 1 ∷ []) ∷ (0 ∷ 0 ∷ 255 ∷ []) ∷ (1 ∷ 0 ∷ 0 ∷ []) ∷ (1 ∷ 0 ∷ 1 ∷ []) ∷ (0 ∷ 0 ∷ 255 ∷ []) ∷ [])
    ∷ scheduled 2 (A ∷ B ∷ A ∷ A ∷ C ∷ B ∷ C ∷ []) ((0 ∷ 1 ∷ 0 ∷ []) ∷ (0 ∷ 1 ∷ 1 ∷ []) ∷ (1 ∷ 1 ∷ 0 ∷ []) ∷ (1 ∷ 0 ∷ 0 ∷ []) ∷ (0 ∷ 1 ∷ 0 ∷ []) ∷ (1 ∷ 0 ∷ 1 ∷ []) ∷ (1 ∷ 0 ∷ 0 ∷ []) ∷ [])
    ∷ judged 1 (A ∷ B ∷ A ∷ B ∷ []) (m ∷ m ∷ h ∷ m ∷ [])
    ∷ counted 4 (A ∷ B ∷ C ∷ D ∷ A ∷ E ∷ B ∷ []) 2
    ∷ scored_by_lru 4 (A ∷ B ∷ C ∷ D ∷ A ∷ E ∷ B ∷ []) 1
    ∷ scored_by_srrip 4 (A ∷ B ∷ C ∷ D ∷ A ∷ E ∷ B ∷ []) 1
    ∷ []

abbrev pub TableHolds : Type 0
TableHolds = All Holds table
