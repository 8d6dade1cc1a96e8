-- A policy made of one row model for each set and a rule of one row.
use Rattle.std.specs.Prelude.{◌≡◌, ℕ, ◌+◌, ◌^◌, ◌<◌, ◌≤◌, true, ◌⊎◌, List, [], ◌∷◌, map, length, take, replicate, slice_index_or, slice_set}
use Rattle.histories.specs.Rule.{held, tally}
use Rattle.histories.specs.Histories.{Distinct}
use Rattle.replacement.specs.Lines.{set_of}
use Rattle.replacement.specs.Ways.{lines, empty_row}
use Rattle.replacement.specs.Lru as lru
use Rattle.replacement.specs.Srrip as srrip
use Rattle.replacement.specs.Policy.{Event, state_after, told_of, found, hits}
use Rattle.replacement.specs.declared.Way.{Way}

-- s, W, and the model of each set
pub record Sets (M : Type 0) : Type 0 where
  pub slog : ℕ
  pub wide : ℕ
  pub sets : List M

-- set k, which is an empty one past the sets that there are
abbrev pub at : {M : Type 0} → (ℕ → M) → Sets M → ℕ → M
at none q k = slice_index_or q.sets k (none q.wide)

abbrev pub held_in : {M : Type 0} → (M → List ℕ) → (ℕ → M) → Sets M → ℕ → List ℕ
held_in lines none q k = lines (at none q k)

-- a touch alters the line's set and no other
abbrev pub next_of : {M : Type 0} → (ℕ → ℕ → M → M) → (ℕ → M) → Sets M → ℕ → Sets M
next_of step none q x =
    let k = set_of q.slog x in
    record { slog = q.slog; wide = q.wide; sets = slice_set q.sets k (step q.wide x (at none q k)) }

abbrev pub cleared_of : {M : Type 0} → (ℕ → M) → Sets M → Sets M
cleared_of none q = record { slog = q.slog; wide = q.wide; sets = replicate (length q.sets) (none q.wide) }

-- what the rule of one row keeps, for a model m of a row of w ways
pub record RowLaws {M : Type 0} (lines : M → List ℕ) (step : ℕ → ℕ → M → M) (none : ℕ → M) (Fine : ℕ → M → Type 0) : Type 0 where
  pub starts : (w : ℕ) → Fine w (none w)
  pub stays : (w x : ℕ) (m : M) → 0 < w → Fine w m → Fine w (step w x m)
  pub apart : (w : ℕ) (m : M) → Fine w m → Distinct (lines m)
  pub fits : (w : ℕ) (m : M) → Fine w m → length (lines m) ≤ w
  pub only : (w x y : ℕ) (m : M) → 0 < w → Fine w m → held y (lines (step w x m)) ≡ true → (y ≡ x) ⊎ (held y (lines m) ≡ true)
  pub nothing : (w : ℕ) → lines (none w) ≡ []

-- a sound state: each set is a fine row of W ways, of which there are some if there are sets
pub record Kept {M : Type 0} (none : ℕ → M) (Fine : ℕ → M → Type 0) (q : Sets M) : Type 0 where
  pub some : 0 < length q.sets → 0 < q.wide
  pub fine : (k : ℕ) → Fine q.wide (at none q k)

-- ---- memory: one row of the program for each set

-- the state that the first n rows stand for
abbrev pub sets_of : {R M : Type 0} → (ℕ → R → M) → ℕ → ℕ → ℕ → List R → Sets M
sets_of model s w n rows = record { slog = s; wide = w; sets = map (model w) (take n rows) }

-- the state just opened
abbrev pub opened : {M : Type 0} → (ℕ → M) → ℕ → ℕ → ℕ → Sets M
opened none s w n = record { slog = s; wide = w; sets = replicate n (none w) }

-- the hits of some touches from there on, oldest first
abbrev pub opened_hits : {M : Type 0} → (M → List ℕ) → (Sets M → ℕ → Sets M) → (ℕ → M) → ℕ → ℕ → ℕ → List ℕ → ℕ
opened_hits {M} lines next none s w n xs = hits (found (λ (q : Sets M). q.slog) (held_in lines none)) next (opened none s w n) xs

-- what a policy keeps of the rows that it is lent: it uses n of them, one for each set or none
pub record Ready {R M : Type 0} (model : ℕ → R → M) (Fine : ℕ → M → Type 0) (s w n : ℕ) (rows : List R) : Type 0 where
  pub long : n ≤ length rows
  pub all : 0 < n → n ≡ 2 ^ s
  pub some : 0 < n → 0 < w
  pub few : 0 < n → w ≤ 16
  pub fine : (k : ℕ) (d : R) → k < n → Fine w (model w (slice_index_or rows k d))

-- ---- what is proved of such policies

-- a policy with no sets holds nothing for ever
abbrev pub Idle : {M : Type 0} → (M → List ℕ) → (ℕ → ℕ → M → M) → (ℕ → M) → Type 0
Idle lines step none = (s w k : ℕ) (es : List Event) → held_in lines none (state_after (next_of step none) (cleared_of none) (opened none s w 0) es) k ≡ []

-- a row after some touches, newest first
abbrev pub row_after : {M : Type 0} → (ℕ → ℕ → M → M) → (ℕ → M) → ℕ → List ℕ → M
row_after step none w [] = none w
row_after step none w (t ∷ ts) = step w t (row_after step none w ts)

-- in each set, from empty, a policy is its rule run over what it was told of that set since it was last emptied
abbrev pub ByRows : {M : Type 0} → (ℕ → ℕ → M → M) → (ℕ → M) → Type 0
ByRows step none =
    (s w k : ℕ) (es : List Event) → k < 2 ^ s
    → at none (state_after (next_of step none) (cleared_of none) (opened none s w (2 ^ s)) es) k ≡ row_after step none w (told_of s k es)

-- the policies LRU and SRRIP as steps of their states
abbrev pub lru_next : Sets (List Way) → ℕ → Sets (List Way)
lru_next = next_of (λ _ x m. lru.touched x m) empty_row

abbrev pub srrip_next : Sets (List Way) → ℕ → Sets (List Way)
srrip_next = next_of (λ _ x m. srrip.touched x m) empty_row

-- LRU, from empty, holds in each set exactly the W lines of that set touched most recently
abbrev pub LruRecent : Type 0
LruRecent =
    (s w k : ℕ) (es : List Event) → 0 < w → k < 2 ^ s
    → lru.MostRecent w (told_of s k es) (held_in lines empty_row (state_after lru_next (cleared_of empty_row) (opened empty_row s w (2 ^ s)) es) k)

-- the hits of some touches of one row, oldest first
abbrev pub row_hits : (ℕ → List Way → List Way) → List Way → List ℕ → ℕ
row_hits step m [] = 0
row_hits step m (x ∷ xs) = tally (held x (lines m)) + row_hits step (step x m) xs

-- the hits of some touches of one set of w ways, oldest first, from empty
abbrev pub lru_hits : ℕ → List ℕ → ℕ
lru_hits w xs = row_hits lru.touched (empty_row w) xs

abbrev pub srrip_hits : ℕ → List ℕ → ℕ
srrip_hits w xs = row_hits srrip.touched (empty_row w) xs

-- they are the hits of a policy of one set
pub record OneSet (w : ℕ) (xs : List ℕ) : Type 0 where
  pub by_lru : opened_hits lines lru_next empty_row 0 w 1 xs ≡ lru_hits w xs
  pub by_srrip : opened_hits lines srrip_next empty_row 0 w 1 xs ≡ srrip_hits w xs

abbrev pub OneSetIsOneRow : Type 0
OneSetIsOneRow = (w : ℕ) (xs : List ℕ) → OneSet w xs
