-- Operations on a plain list of occupancies: what each leaves, and what it answers.
use Rattle.std.specs.Prelude.{◌≡◌, ℕ, ◌≤◌, Bool, if◌then◌else◌, ◌&&◌, List, [], ◌∷◌, ◌++◌, length, take, drop, nat_le, nat_lt}
use Rattle.std.specs.List.{between, list_all}
use Rattle.summaries.specs.Algebra.{Algebra, summary}
use Rattle.summaries.specs.Kinds.{peak, both}
use Rattle.summaries.specs.Stretches.{bump}
use Rattle.trees.specs.Trees.{leaves, size}
use Rattle.ranges.specs.Occupancies.{Sound, occupancies, recents}
use Rattle.summaries.specs.declared.kind.Peak.{Peak}
use Rattle.summaries.specs.declared.kind.Both.{Both}
use Rattle.trees.specs.declared.tree.Node.{Node}
use Rattle.ranges.specs.declared.operations.Operation.{Operation}
use Rattle.ranges.specs.declared.operations.Operation.TheVariants.{Push, Raise, Ask}
use Rattle.ranges.specs.declared.operations.Answer.{Answer}
use Rattle.ranges.specs.declared.operations.Answer.TheVariants.{Done, Summary, Refused}

-- each number is below m
abbrev pub all_below : ℕ → List ℕ → Bool
all_below m gs = list_all (λ g. nat_lt g m) gs

-- a stretch can be raised if its gaps are there and each is below 16
abbrev pub raisable : ℕ → ℕ → List ℕ → Bool
raisable from to gs = nat_le to (length gs) && all_below 16 (between from to gs)

-- the occupancies after an operation on a list of at most 2^k; what cannot be done is refused and leaves them
abbrev pub after : ℕ → Operation → List ℕ → List ℕ
after k Push gs = if nat_lt (length gs) (leaves k) then gs ++ (0 ∷ []) else gs
after k (Raise from to) gs = if raisable from to gs then bump from to gs else gs
after k (Ask from to) gs = gs

-- what an operation answers
abbrev pub reply : {M : Type 0} → Algebra M → ℕ → Operation → List ℕ → Answer M
reply a k Push gs = if nat_lt (length gs) (leaves k) then Done else Refused
reply a k (Raise from to) gs = if raisable from to gs then Done else Refused
reply a k (Ask from to) gs = Summary (summary a (between from to gs))

-- the occupancies after operations one after another, and the answers on the way
abbrev pub ending : ℕ → List Operation → List ℕ → List ℕ
ending k [] gs = gs
ending k (o ∷ os) gs = ending k os (after k o gs)

abbrev pub replies : {M : Type 0} → Algebra M → ℕ → List Operation → List ℕ → List (Answer M)
replies a k [] gs = []
replies a k (o ∷ os) gs = reply a k o gs ∷ replies a k os (after k o gs)

-- memory of these lengths is enough
pub record Enough (k nodes recent many replied : ℕ) : Type 0 where
  pub low : k ≤ 16
  pub tree : size k ≤ nodes
  pub array : recents k ≤ recent
  pub room : many ≤ replied

-- operations that were refused as a whole: the memory is not enough, and as it was
pub record Untouched {M : Type 0} (k : ℕ) (os : List Operation) (nodes nodes_end : List (Node (Both Peak M))) (recent recent_end : List ℕ) (replied replied_end : List (Answer M)) : Type 0 where
  pub scarce : Enough k (length nodes) (length recent) (length os) (length replied) → ⊥
  pub nodes_same : nodes_end ≡ nodes
  pub recent_same : recent_end ≡ recent
  pub replied_same : replied_end ≡ replied

-- a column of memory of which only the first n elements were written
abbrev pub Beyond : {X : Type 0} → ℕ → List X → List X → Type 0
Beyond n before end = drop n end ≡ drop n before

-- operations that were carried out from empty: the memory stands for what they make of an empty list, each answer is what the list gives, and nothing further was written
pub record Carried {M : Type 0} (a : Algebra M) (k n : ℕ) (os : List Operation) (nodes nodes_end : List (Node (Both Peak M))) (recent recent_end : List ℕ) (replied replied_end : List (Answer M)) : Type 0 where
  pub enough : Enough k (length nodes) (length recent) (length os) (length replied)
  pub count : n ≡ length (ending k os [])
  pub sound : Sound (both peak a) k n (take (size k) nodes_end) (take (recents k) recent_end)
  pub gaps : occupancies k n (take (size k) nodes_end) (take (recents k) recent_end) ≡ ending k os []
  pub answered : take (length os) replied_end ≡ replies a k os []
  pub nodes_kept : Beyond (size k) nodes nodes_end
  pub recent_kept : Beyond (recents k) recent recent_end
  pub replied_kept : Beyond (length os) replied replied_end
