-- What the policy LRU holds, said of its touches.
use Rattle.std.specs.Prelude.{ℕ, ◌<◌, List, length, take}
use Rattle.replacement.specs.declared.Way.{Way}
use Rattle.replacement.specs.Ways.{lines, empty_row}
use Rattle.replacement.specs.Lru.{MostRecent}
use Rattle.replacement.specs.Policy.{Event, state_after, told_of}
use Rattle.replacement.specs.Sets.{Sets, held_in, cleared_of, lru_next, sets_of, Ready}
use Rattle.replacement.proofs.Lru.{Fine}
use Rattle.rows.specs.declared.aged.AgedRow.{AgedRow}
use Rattle.rows.specs.declared.lru.LruAging.{LruAging}
use Rattle.policies.specs.declared.sets.Sets.{Sets as Rows}

-- the ways of a row
abbrev pub lru_row : ℕ → AgedRow LruAging → List Way
lru_row w r = take w r.row.ways

-- the state of an LRU policy, and what each call keeps of it
abbrev pub lru_state : Rows (AgedRow LruAging) → Sets (List Way)
lru_state p = sets_of lru_row p.shape.s p.shape.ways p.sets p.rows.now

abbrev pub LruReady : Rows (AgedRow LruAging) → Type 0
LruReady p = Ready lru_row Fine p.shape.s p.shape.ways p.sets p.rows.now

-- whatever happens from the empty state on, each set holds exactly the W lines of it that were touched most recently
abbrev pub HoldsRecent : Sets (List Way) → Type 0
HoldsRecent q =
    (k : ℕ) (es : List Event) → k < length q.sets
    → MostRecent q.wide (told_of q.slog k es) (held_in lines empty_row (state_after lru_next (cleared_of empty_row) (cleared_of empty_row q) es) k)
