-- The lines of a text: each ends at an LF, which the last may lack.
use Rattle.std.specs.Prelude.{◌≡◌, ℕ, ◌<◌, ◌≤◌, if◌then◌else◌, ◌⊎◌, List, [], ◌∷◌, ◌++◌, length, take, ◌==◌, ◌≢◌, slice_index}
use Rattle.std.specs.List.{AllByRecursion}

-- b at the front of the first line
abbrev pub onto : ℕ → List (List ℕ) → List (List ℕ)
onto b [] = (b ∷ []) ∷ []
onto b (l ∷ ls) = (b ∷ l) ∷ ls

abbrev pub lines : List ℕ → List (List ℕ)
lines [] = []
lines (b ∷ bs) = if b == 10 then [] ∷ lines bs else onto b (lines bs)

-- each line with its LF
abbrev pub ended : List (List ℕ) → List ℕ
ended [] = []
ended (l ∷ ls) = l ++ 10 ∷ ended ls

-- No line holds an LF, and the lines with their LFs are the text, or the text and the LF that its last line lacks.
abbrev pub Rejoins : Type 0
Rejoins = (text : List ℕ) → AllByRecursion (AllByRecursion (λ b. b ≢ 10)) (lines text) × ((ended (lines text) ≡ text) ⊎ (ended (lines text) ≡ text ++ 10 ∷ []))

-- the first n bytes hold no `stop`, and one comes next, or the end
pub record LongestWithout (stop : ℕ) (bs : List ℕ) (n : ℕ) : Type 0 where
  pub within : n ≤ length bs
  pub free : AllByRecursion (λ b. b ≢ stop) (take n bs)
  pub stops : n < length bs → slice_index bs n ≡ stop
