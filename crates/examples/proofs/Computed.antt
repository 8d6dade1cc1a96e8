-- Examples, by computing both sides.
use Rattle.std.proofs.Common.{◌≡◌, ℕ, List, [], ◌∷◌, refl, ap, ap₂}
use Rattle.std.proofs.lemmas.List.Elements.{All-from_recursion}
use Rattle.histories.specs.Rule.{fits, raise, occupancies, verdicts, hits}
use Rattle.histories.specs.Schedule.{mark, holds, resident, seat, lowest, rows_with, rows}
use Rattle.examples.specs.Table.{Holds, table, TableHolds}
use Rattle.examples.specs.NearMisses.{gaps_by, verdicts_by, optgen, fits_after, raise_after, NearMisses}

pub table_holds : TableHolds
unfolding fits raise occupancies verdicts hits mark holds resident seat lowest rows_with rows
table_holds = All-from_recursion Holds table (refl, (refl, (refl, (refl, (refl, (refl, (refl, tt)))))))

same_gaps : (W : ℕ) (ts : List ℕ) → gaps_by (optgen W) ts ≡ occupancies W ts
unfolding occupancies
same_gaps W [] = refl
same_gaps W (t ∷ ts) = ap (λ os. (optgen W t ts os).1) (same_gaps W ts)

same : (W : ℕ) (ts : List ℕ) → verdicts_by (optgen W) ts ≡ verdicts W ts
unfolding verdicts
same W [] = refl
same W (t ∷ ts) = ap₂ ◌∷◌ (ap (fits W t ts) (same_gaps W ts)) (same W ts)

pub near_misses : NearMisses
unfolding fits raise fits_after raise_after
near_misses = record { same = same; own_gap_right = refl; own_gap_wrong = refl; no_first_gap_right = refl; no_first_gap_wrong = refl; raise_at_miss_right = refl; raise_at_miss_wrong = refl }
