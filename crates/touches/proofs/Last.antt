-- The latest turn of a line, and the rule by it.
use Rattle.std.proofs.Common.{◌≡◌, ℕ, suc, ◌-◌, ◌<◌, false, cond, eqb, ◌≢◌, List, [], ◌∷◌, ◌++◌, map, length, take, drop, IfSome, Some, None, Option, sym, refl, ◌∙◌, inl, inr, arith, MatchOption}
use Rattle.std.proofs.lemmas.Bool.Decides.{nat_tests}
use Rattle.histories.specs.Rule.{fits, raise, at_turn}
use Rattle.histories.proofs.Index.{at_newest, at_older, Where, where_is, last_older}
use Rattle.touches.specs.Turns.{latest_turn, Earlier, below, TurnsFound}

-- ---- the latest turn is the last touch
earlier_older : (x t : ℕ) (ts : List ℕ) (o : Option ℕ) → (x ≡ t → ⊥) → Earlier ts x o → Earlier (t ∷ ts) x o
earlier_older x t ts None n h = λ p l. h p (last_older x t ts p n l)
earlier_older x t ts (Some p) n h =
    record { past = omega (arith, h.past); here = at_older 0 t ts p h.past ∙ h.here; since = λ i a b. since i a (where_is 0 t ts i b) }
  where
    since : (i : ℕ) → p < i → Where 0 t ts i → at_turn (t ∷ ts) i ≡ x → ⊥
    since i a (inl k) e = n (sym e ∙ k.1)
    since i a (inr k) e = h.since i a k.0 (sym k.1 ∙ e)

pub found_turn : TurnsFound
found_turn [] x = λ p l. omega (arith, l.past)
found_turn (t ∷ ts) x = grind (arith, nat_tests, at_newest 0 t ts, earlier_older x t ts (latest_turn ts x), found_turn ts x)

-- ---- it lies before the present turn
abbrev pub Before : List ℕ → Option ℕ → Type 0
Before ts o = IfSome o (λ p. p < length ts)

pub before : (ts : List ℕ) (x : ℕ) → Before ts (latest_turn ts x)
before [] x = tt
before (t ∷ ts) x = before_more t x ts (latest_turn ts x) (before ts x)
  where
    before_more : (t x : ℕ) (ts : List ℕ) (o : Option ℕ) → Before ts o → Before (t ∷ ts) (cond (eqb x t) (Some (length ts)) o)
    before_more t x ts o h = grind (arith, nat_tests)

-- ---- the rule by the latest turn: of the gaps, the newest first, those since it are the front
abbrev pub ByLast : ℕ → ℕ → List ℕ → List ℕ → Option ℕ → Type 0
ByLast W x ts os o = MatchOption o (fits W x ts os ≡ false)
    (λ p. (fits W x ts os ≡ below W (take (length ts - p) os)) × (raise x ts os ≡ map suc (take (length ts - p) os) ++ drop (length ts - p) os))

by_older : (W x t : ℕ) (ts : List ℕ) (o : ℕ) (os : List ℕ) (l : Option ℕ) → x ≢ t → Before ts l → ByLast W x ts os l → ByLast W x (t ∷ ts) (o ∷ os) l
unfolding fits raise
by_older W x t ts o os None ne s r = grind (arith, nat_tests)
by_older W x t ts o os (Some p) ne s r = let e : length (t ∷ ts) - p ≡ suc (length ts - p) = omega arith in grind (arith, nat_tests)

pub by_last : (W x : ℕ) (ts os : List ℕ) → length os ≡ length ts → ByLast W x ts os (latest_turn ts x)
unfolding fits raise
by_last W x [] os e = refl
by_last W x (t ∷ ts) [] e = let z : ⊥ = omega arith in absurd z
by_last W x (t ∷ ts) (o ∷ os) e = let k : length (t ∷ ts) - length ts ≡ 1 = omega arith in grind (arith, nat_tests, by_last W x ts os, by_older W x t ts o os (latest_turn ts x), before ts x)
