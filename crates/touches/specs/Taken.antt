-- The touches that a cache has taken: line numbers in the order of their touch numbers. It has 2^s sets, each with as many slots.
use Rattle.std.specs.Prelude.{◌≡◌, ℕ, ◌+◌, ◌*◌, ◌%◌, ◌^◌, ◌<◌, ◌≤◌, Bool, List, [], ◌∷◌, ◌++◌, reverse, length, filter, nat_eq}
use Rattle.histories.specs.Rule.{tally, hit}

-- those of a set: the lines whose number modulo 2^s is the set's
unfoldable pub of_set : ℕ → ℕ → List ℕ → List ℕ
of_set s j taken = filter (λ x. nat_eq (x % 2 ^ s) j) taken

-- the same, the newest first, as the theory of one set has them
abbrev pub touches : ℕ → ℕ → List ℕ → List ℕ
touches s j taken = reverse (of_set s j taken)

-- the line's set has a free slot
abbrev pub Room : ℕ → ℕ → List ℕ → ℕ → Type 0
Room s slots taken x = length (of_set s (x % 2 ^ s) taken) < slots

-- each of these lines finds a free slot, one after the other
abbrev pub Roomy : ℕ → ℕ → List ℕ → List ℕ → Type 0
Roomy s slots taken [] = Unit {0}
Roomy s slots taken (x ∷ xs) = Room s slots taken x × Roomy s slots (taken ++ x ∷ []) xs

-- the first of these lines, if there is one, finds none
abbrev pub Full : ℕ → ℕ → List ℕ → List ℕ → Type 0
Full s slots taken [] = Unit {0}
Full s slots taken (x ∷ xs) = Room s slots taken x → ⊥

-- of these lines, those up to the first whose set is full are taken
pub record Admits (s slots : ℕ) (before lines took left : List ℕ) : Type 0 where
  pub split : lines ≡ took ++ left
  pub roomy : Roomy s slots before took
  pub full : Full s slots (before ++ took) left

-- whether a touch of x after the touches taken is a hit of its set
abbrev pub verdict : ℕ → ℕ → List ℕ → ℕ → Bool
verdict W s taken x = hit W x (touches s (x % 2 ^ s) taken)

-- how many of the lines xs, taken one after another, are hits
abbrev pub hits_of : ℕ → ℕ → List ℕ → List ℕ → ℕ
hits_of W s taken [] = 0
hits_of W s taken (x ∷ xs) = tally (verdict W s taken x) + hits_of W s (taken ++ x ∷ []) xs

-- where no set has more than its slots and one has fewer, fewer are taken than there are slots
abbrev pub Spread : Type 0
Spread = (s slots : ℕ) (taken : List ℕ) (j : ℕ) → ((i : ℕ) → i < 2 ^ s → length (of_set s i taken) ≤ slots) → j < 2 ^ s → length (of_set s j taken) < slots → length taken < 2 ^ s * slots
