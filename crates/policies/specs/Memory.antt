-- The memory that a policy needs: one row for each set.
use Rattle.std.specs.Prelude.{◌≡◌, ℕ, ◌^◌, Bool, false, cond, ◌&&◌, List, [], is_ok, Ok, Err, Result, nat_le}
use Rattle.geometry.specs.declared.refusal.Refusal.{Refusal}
use Rattle.geometry.specs.declared.refusal.Refusal.TheVariants.{Limits, Memory}
use Rattle.replacement.specs.Policy.{Event, state_after}
use Rattle.replacement.specs.Sets.{held_in, next_of, cleared_of, opened}

-- s and W are within their limits
abbrev pub allowed : ℕ → ℕ → Bool
allowed s w = nat_le s 10 && (nat_le 1 w && nat_le w 16)

-- the number of rows that a policy needs
abbrev pub needed : ℕ → ℕ → Result ℕ Refusal
needed s w = cond (allowed s w) (Ok (2 ^ s)) (Err Limits)

-- whether it can be opened over a number of rows
abbrev pub checked : ℕ → ℕ → ℕ → Result (Unit {0}) Refusal
checked rows s w = cond (allowed s w) (cond (nat_le (2 ^ s) rows) (Ok tt) (Err Memory)) (Err Limits)

-- the number of rows that it uses: what it needs, or none where the check refuses
abbrev pub used : ℕ → ℕ → ℕ → ℕ
used rows s w = cond (allowed s w && nat_le (2 ^ s) rows) (2 ^ s) 0

-- opened where the check refuses, a policy of rows by some rule holds nothing, whatever happens to it
abbrev pub HoldsNothing : {M : Type 0} → (M → List ℕ) → (ℕ → ℕ → M → M) → (ℕ → M) → Type 0
HoldsNothing lines step none =
    (rows s w k : ℕ) (es : List Event) → is_ok (checked rows s w) ≡ false
    → held_in lines none (state_after (next_of step none) (cleared_of none) (opened none s w (used rows s w)) es) k ≡ []
