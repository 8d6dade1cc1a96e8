-- What is known of the rows that a policy uses.
use Rattle.std.proofs.Common.{◌≡◌, ℕ, ◌^◌, ◌<◌, ◌≤◌, false, List, [], is_ok, sym, subst, arith}
use Rattle.std.proofs.lemmas.Bool.Decides.{nat_tests}
use Rattle.replacement.specs.Policy.{state_after}
use Rattle.replacement.specs.Sets.{held_in, next_of, cleared_of, opened, RowLaws}
use Rattle.replacement.proofs.Sets.{idle}
use Rattle.policies.specs.Memory.{checked, used, HoldsNothing}

pub record Uses (rows s w n : ℕ) : Type 0 where
  pub long : n ≤ rows
  pub all : 0 < n → n ≡ 2 ^ s
  pub some : 0 < n → 0 < w
  pub few : 0 < n → w ≤ 16

pub uses : (rows s w n : ℕ) → n ≡ used rows s w → Uses rows s w n
uses rows s w n e = record {
  long = grind (arith, nat_tests);
  all = λ h. grind (arith, nat_tests);
  some = λ h. grind (arith, nat_tests);
  few = λ h. grind (arith, nat_tests);
}

-- where the check refuses, no row is used
none_used : (rows s w : ℕ) → is_ok (checked rows s w) ≡ false → used rows s w ≡ 0
none_used rows s w h = grind (arith, nat_tests)

pub holds_nothing : {M : Type 0} {lines : M → List ℕ} {step : ℕ → ℕ → M → M} {none : ℕ → M} {Fine : ℕ → M → Type 0} (laws : RowLaws lines step none Fine) → HoldsNothing lines step none
holds_nothing {lines = lines} {step = step} {none = none} laws rows s w k es h =
    subst (λ n. held_in lines none (state_after (next_of step none) (cleared_of none) (opened none s w n) es) k ≡ []) (sym (none_used rows s w h)) (idle laws s w k es)
