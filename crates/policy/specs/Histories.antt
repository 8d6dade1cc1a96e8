-- A policy's contents, turn by turn, among the touches of all sets. Every list is newest first.
use Rattle.std.specs.Prelude.{◌≡◌, ℕ, ◌+◌, cond, List, [], ◌∷◌, ◌==◌}
use Rattle.histories.specs.Rule.{tally}
use Rattle.histories.specs.Histories.{latest, Legal, earned}
use Rattle.replacement.specs.Lines.{set_of}
use Rattle.replacement.specs.Policy.{Event, told, untold, emptied, found, state_after, touches_of}

-- nothing is held from the latest turn on
abbrev pub wiped : List (List ℕ) → List (List ℕ)
wiped [] = []
wiped (c ∷ cs) = [] ∷ cs

module _ {S : Type 0} (slog wide : S → ℕ) (holds : S → ℕ → List ℕ) (next : S → ℕ → S) (cleared : S → S) (q : S) (k : ℕ) where
  abbrev pub after : List Event → S
  after es = state_after next cleared q es

  -- what set k holds from each of its touches to the next: what it holds after the touch, or nothing where the policy is emptied before the next touch
  abbrev pub contents : List Event → List (List ℕ)
  contents [] = []
  contents (told x ∷ es) = cond (k == set_of (slog q) x) (holds (next (after es) x) k ∷ contents es) (contents es)
  contents (untold x ∷ es) = cond (k == set_of (slog q) x) (holds (after es) k ∷ contents es) (contents es)
  contents (emptied ∷ es) = wiped (contents es)

  -- how many touches of set k found their line held
  abbrev pub scored : List Event → ℕ
  scored [] = 0
  scored (told x ∷ es) = cond (k == set_of (slog q) x) (tally (found slog holds (after es) x) + scored es) (scored es)
  scored (untold x ∷ es) = cond (k == set_of (slog q) x) (tally (found slog holds (after es) x) + scored es) (scored es)
  scored (emptied ∷ es) = scored es

  -- the contents of set k are a legal history of its touches; the newest is what the set holds now; its hits are the touches that found their line held
  pub record History (es : List Event) : Type 0 where
    pub legal : Legal (wide q) (touches_of (slog q) k es) (contents es)
    pub holds_now : latest (contents es) ≡ holds (after es) k
    pub hits : earned (touches_of (slog q) k es) (contents es) ≡ scored es

-- whatever happens to a policy from its empty state on, in every set
abbrev pub Histories : {S : Type 0} → (S → ℕ) → (S → ℕ) → (S → ℕ → List ℕ) → (S → ℕ → S) → (S → S) → S → Type 0
Histories slog wide holds next cleared q = (k : ℕ) (es : List Event) → History slog wide holds next cleared (cleared q) k es
