-- The chains of a set before its first turn.
use Rattle.std.proofs.Common.{ℕ, ◌+◌, ◌*◌, ◌<◌, ◌≤◌, List, Option, None, length, arith}
use Rattle.parts.specs.Equal.{part, Filled}
use Rattle.parts.proofs.Writes.{inside, length_part, get_d_part}
use Rattle.lastuse.specs.declared.Entry.{Entry}
use Rattle.lastuse.specs.Chains.{Leads, Chained}

leads_none : (es : List Entry) (m h : ℕ) → Leads es m h 0 None
leads_none es m h = λ k b _. let z : ⊥ = omega arith in z

-- where every head is None no set has an entry, whatever the memory of the entries holds
pub nothing_chained : (sets chains room j : ℕ) (hs : List (Option ℕ)) (es : List Entry) → j < sets → 0 < chains → sets * chains ≤ length hs → Filled None (sets * chains) hs
    → Chained (part chains j hs) (part room j es) 0
nothing_chained sets chains room j hs es b some wide f =
    let within = inside chains sets j (length hs) b wide in
    let low = inside chains sets j (sets * chains) b (omega arith) in
    let many = length_part chains j hs within in
    record {
      room = omega arith;
      some = omega arith;
      heads = λ h l. rw (get_d_part chains j h hs None (omega arith), f (j * chains + h) None (omega arith)) (leads_none (part room j es) (length (part chains j hs)) h);
      nexts = λ k l. let q : ⊥ = omega arith in absurd q;
    }
