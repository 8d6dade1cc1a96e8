-- The entries of several sets, in parts of equal size.
use Rattle.std.specs.Prelude.{◌≡◌, ℕ, ◌+◌, ◌*◌, ◌≤◌, ◌≢◌, List, length, drop, Some, Option, nat_eq}
use Rattle.std.specs.Map.{update}
use Rattle.parts.specs.Equal.{part}
use Rattle.lastuse.specs.declared.Entry.{Entry}
use Rattle.lastuse.specs.Chains.{Chained, look}

-- the heads and entries of set j after a turn of line x: it had `used` entries and has `more`, and all else is as it was
pub record Mapped (chains room sets : ℕ) (hs hs' : List (Option ℕ)) (es es' : List Entry) (j x turn used : ℕ) (earlier : Option ℕ) (more : ℕ) : Type 0 where
  pub chained : Chained (part chains j hs') (part room j es') more
  pub looks : look (part room j es') more ≡ update nat_eq (look (part room j es) used) x (Some turn)
  pub before : earlier ≡ look (part room j es) used x
  pub grows : more ≤ used + 1
  pub heads : (i : ℕ) → i ≢ j → part chains i hs' ≡ part chains i hs
  pub entries : (i : ℕ) → i ≢ j → part room i es' ≡ part room i es
  pub heads_past : drop (sets * chains) hs' ≡ drop (sets * chains) hs
  pub entries_past : drop (sets * room) es' ≡ drop (sets * room) es
  pub wide : length hs' ≡ length hs
  pub deep : length es' ≡ length es
