-- A touch is a hit exactly when the best count rises.
use Rattle.std.proofs.Common.{◌≡◌, ℕ, suc, ◌+◌, Bool, true, false, List, ◌∷◌, ap, subst, arith}
use Rattle.histories.specs.Rule.{tally, hit, verdicts, hits}
use Rattle.histories.specs.Histories.{Best, Rises}
use Rattle.histories.specs.Schedule.{schedule}
use Rattle.histories.proofs.Upper.{upper}
use Rattle.histories.proofs.Lower.{attained}

best : (W : ℕ) (ts : List ℕ) → Best W ts (hits W ts)
best W ts = let k = attained W ts in record { some = (schedule W ts, k.legal, k.count); all = upper W ts }

unique : (W : ℕ) (ts : List ℕ) (m n : ℕ) → Best W ts m → Best W ts n → m ≡ n
unique W ts m n a b =
    let (cs, l, e) = a.some in
    let (ds, k, f) = b.some in
    omega (arith, b.all cs l, a.all ds k)

tally_true : (b : Bool) → tally b ≡ 1 → b ≡ true
tally_true b e = grind arith

tally_false : (b : Bool) → tally b ≡ 0 → b ≡ false
tally_false b e = grind arith

pub rises : Rises
unfolding hits verdicts
rises W x ts = record {
  best = best W ts;
  rise = (
    λ e n b. into (suc n) (omega (arith, ap tally e, unique W ts n (hits W ts) b (best W ts))),
    λ h. let k = from (suc (hits W ts)) (h (hits W ts) (best W ts)) in grind arith,
  );
  stay = (
    λ e n b. into n (omega (arith, ap tally e, unique W ts n (hits W ts) b (best W ts))),
    λ h. let k = from (hits W ts) (h (hits W ts) (best W ts)) in grind arith,
  );
}
  where
    into : (n : ℕ) → tally (hit W x ts) + hits W ts ≡ n → Best W (x ∷ ts) n
    into n e = subst (λ (k : ℕ). Best W (x ∷ ts) k) e (best W (x ∷ ts))

    from : (n : ℕ) → Best W (x ∷ ts) n → tally (hit W x ts) + hits W ts ≡ n
    from n b = unique W (x ∷ ts) (hits W (x ∷ ts)) n (best W (x ∷ ts)) b
