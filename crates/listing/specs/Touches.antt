-- The touches taken: a list of line numbers, in the order of their touch numbers.
use Rattle.std.specs.Prelude.{◌≡◌, ℕ, ◌%◌, ◌^◌, ◌<◌, List, [], ◌∷◌, ◌++◌, length, sum, filter, Ok, Err, Result, nat_eq, slice_index}
use Rattle.geometry.specs.declared.refusal.Refusal.{Refusal}
use Rattle.geometry.specs.declared.refusal.Refusal.TheVariants.{SetFull}

-- those of a set: the lines whose number modulo 2^s is the set's
unfoldable pub of_set : ℕ → ℕ → List ℕ → List ℕ
of_set s j taken = filter (λ x. nat_eq (x % 2 ^ s) j) taken

-- the line's set has a free slot, of 2^k
abbrev pub Room : ℕ → ℕ → List ℕ → ℕ → Type 0
Room s k taken x = length (of_set s (x % 2 ^ s) taken) < 2 ^ k

-- each of these lines finds a free slot, one after the other
abbrev pub Roomy : ℕ → ℕ → List ℕ → List ℕ → Type 0
Roomy s k taken [] = Unit {0}
Roomy s k taken (x ∷ xs) = Room s k taken x × Roomy s k (taken ++ x ∷ []) xs

-- the first of these lines, if there is one, finds none
abbrev pub Full : ℕ → ℕ → List ℕ → List ℕ → Type 0
Full s k taken [] = Unit {0}
Full s k taken (x ∷ xs) = Room s k taken x → ⊥

-- Of the lines of an access, those up to the first whose set is full are taken, and `left` are left.
pub record Admits (s k : ℕ) (before lines after left : List ℕ) : Type 0 where
  pub took : List ℕ
  pub split : lines ≡ took ++ left
  pub taken : after ≡ before ++ took
  pub roomy : Roomy s k before took
  pub full : Full s k after left

-- the counts are those of the sets' touches, and add up to all of them
pub record Counted (s : ℕ) (counts taken : List ℕ) : Type 0 where
  pub long : length counts ≡ 2 ^ s
  pub each : (j : ℕ) → j < 2 ^ s → slice_index counts j ≡ length (of_set s j taken)
  pub total : sum counts ≡ length taken

-- after the lines of an access: all were taken, or the first of those left found no slot
abbrev pub CountedOn : ℕ → ℕ → List ℕ → List ℕ → Result (Unit {0}) Refusal → List ℕ → Type 0
CountedOn s k before lines (Ok u) counts = (after : List ℕ) × Admits s k before lines after [] × Counted s counts after
CountedOn s k before lines (Err e) counts = (e ≡ SetFull) × ((after : List ℕ) × (x : ℕ) × (left : List ℕ) × Admits s k before lines after (x ∷ left) × Counted s counts after)
