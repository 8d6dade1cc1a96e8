-- The last turn of each line of a set, kept in chains of entries. A line is its number here.
use Rattle.std.specs.Prelude.{◌≡◌, ℕ, zero, suc, ◌-◌, ◌*◌, ◌/◌, ◌%◌, ◌^◌, ◌<◌, ◌≤◌, cond, List, length, Some, None, Option, ◌==◌, ◌≢◌, MatchOption, bit_and, slice_index_or}
use Rattle.lastuse.specs.declared.Entry.{Entry}

-- the chain of line x, of n chains: what follows holds of any function below n
unfoldable pub chain_of : ℕ → ℕ → ℕ
chain_of x n = bit_and (x * 0x9E37_79B9_7F4A_7C15 % 2 ^ 64 / 2 ^ 32) (n - 1)

abbrev pub at : List Entry → ℕ → Entry
at es i = slice_index_or es i (record { line = record { 0 = 0 }; last = 0; next = None })

-- what the first n entries say of line x: the last turn in the latest of them that has it
abbrev pub look : List Entry → ℕ → ℕ → Option ℕ
look es zero x = None
look es (suc n) x = cond (x == (at es n).line.0) (Some (at es n).last) (look es n x)

-- none of the first n entries has line x
abbrev pub Absent : List Entry → ℕ → ℕ → Type 0
Absent es n x = (k : ℕ) → k < n → (at es k).line.0 ≢ x

-- entry i has line x, and no later one of the first n has
pub record Latest (es : List Entry) (n x i : ℕ) : Type 0 where
  pub within : i < n
  pub here : (at es i).line.0 ≡ x
  pub newer : (k : ℕ) → i < k → k < n → (at es k).line.0 ≢ x

-- entry p is in the chain h of m chains, and no later one of the first n is
pub record LatestIn (es : List Entry) (m h n p : ℕ) : Type 0 where
  pub within : p < n
  pub here : chain_of (at es p).line.0 m ≡ h
  pub newer : (k : ℕ) → p < k → k < n → chain_of (at es k).line.0 m ≢ h

-- the place of the latest of the first n entries that is in the chain h of m chains; None where there is none
abbrev pub Leads : List Entry → ℕ → ℕ → ℕ → Option ℕ → Type 0
Leads es m h n o = MatchOption o ((k : ℕ) → k < n → chain_of (at es k).line.0 m ≢ h) (LatestIn es m h n)

-- each head leads to the newest of the first n entries in its chain, and each entry to the one before it
pub record Chained (hs : List (Option ℕ)) (es : List Entry) (n : ℕ) : Type 0 where
  pub room : n ≤ length es
  pub some : 0 < length hs
  pub heads : (h : ℕ) → h < length hs → Leads es (length hs) h n (slice_index_or hs h None)
  pub nexts : (k : ℕ) → k < n → Leads es (length hs) (chain_of (at es k).line.0 (length hs)) k (at es k).next
