-- The rule by index: turns, the last touch, and the gaps from there on.
use Rattle.std.proofs.Common.{◌≡◌, ℕ, suc, ◌+◌, ◌<◌, ◌≤◌, Bool, true, false, cond, ◌||◌, eqb, ltb, leb, ◌⊎◌, ◌↔◌, List, [], ◌∷◌, reverse, length, get_or, sym, refl, ap, ◌∙◌, arith}
use mathlib.Core.List.{reverse-cons}
use Rattle.std.proofs.lemmas.List.{get_or_append_left, get_or_push, length-reverse}
use Rattle.std.proofs.lemmas.Bool.{eqb-true, and_parts, false≢true}
use Rattle.std.proofs.lemmas.Bool.Decides.{nat_tests}
use Rattle.histories.specs.Rule.{tally, fits, raise, occupancies, hit, at_turn, LastTouch, RuleByIndex}

-- ---- what stands at a turn

-- of any list, the newest first; d where there is no such turn
module _ {X : Type 0} (d : X) where
  abbrev pub at : List X → ℕ → X
  at xs i = get_or (reverse xs) i d

  pub at_newest : (x : X) (xs : List X) → at (x ∷ xs) (length xs) ≡ x
  at_newest x xs = ap (λ l. get_or l (length xs) d) (reverse-cons x xs) ∙ get_or_push (reverse xs) x d (length xs) (length-reverse xs)

  pub at_older : (x : X) (xs : List X) (i : ℕ) → i < length xs → at (x ∷ xs) i ≡ at xs i
  at_older x xs i h = ap (λ l. get_or l i d) (reverse-cons x xs) ∙ get_or_append_left (reverse xs) (x ∷ []) d i (omega (arith, length-reverse xs))

  -- a turn is the newest or an older one
  abbrev pub Where : X → List X → ℕ → Type 0
  Where x xs i = ((i ≡ length xs) × (at (x ∷ xs) i ≡ x)) ⊎ ((i < length xs) × (at (x ∷ xs) i ≡ at xs i))

  pub where_is : (x : X) (xs : List X) (i : ℕ) → i < length (x ∷ xs) → Where x xs i
  where_is x xs i h = grind (arith, at_newest x xs, at_older x xs i)

-- ---- the last touch

-- of the line just touched, and of another
pub last_newest : (x t : ℕ) (ts : List ℕ) (p : ℕ) → x ≡ t → LastTouch (t ∷ ts) x p → p ≡ length ts
last_newest x t ts p e l = let k = l.past in grind (arith, at_newest 0 t ts, l.since (length ts))

pub last_older : (x t : ℕ) (ts : List ℕ) (p : ℕ) → (x ≡ t → ⊥) → LastTouch (t ∷ ts) x p → LastTouch ts x p
last_older x t ts p n l = let k = l.here in grind (arith, where_is 0 t ts p l.past, at_older 0 t ts, l.since)

-- a line that fits has been touched
pub last_touch : (W x : ℕ) (ts os : List ℕ) → fits W x ts os ≡ true → (p : ℕ) × LastTouch ts x p
unfolding fits
last_touch W x [] os f = absurd (false≢true f)
last_touch W x (t ∷ ts) [] f = absurd (false≢true f)
last_touch W x (t ∷ ts) (o ∷ os) f = go (eqb x t) refl (and_parts (ltb o W) (eqb x t || fits W x ts os) f).1 (last_touch W x ts os)
  where
    go : (b : Bool) → eqb x t ≡ b → (b || fits W x ts os) ≡ true → (fits W x ts os ≡ true → (p : ℕ) × LastTouch ts x p) → (p : ℕ) × LastTouch (t ∷ ts) x p
    go true e k rec = (length ts, record { past = omega arith; here = at_newest 0 t ts ∙ sym (eqb-true x t e); since = λ i a b. absurd (omega arith) })
    go false e k rec =
        let m = rec k in
        let l = m.1 in
        (m.0, record { past = omega (arith, l.past); here = at_older 0 t ts m.0 l.past ∙ l.here; since = λ i a b h. grind (arith, nat_tests, where_is 0 t ts i b, l.since i) })

-- ---- the test and the raise

abbrev Below : ℕ → ℕ → List ℕ → Type 0
Below W p os = (i : ℕ) → p ≤ i → i < length os → at_turn os i < W

room : (W x : ℕ) (ts os : List ℕ) → length os ≡ length ts → (p : ℕ) → LastTouch ts x p → (fits W x ts os ≡ true) ↔ Below W p os
unfolding fits
room W x [] os e p l = absurd (omega (arith, l.past))
room W x (t ∷ ts) [] e p l = absurd (omega arith)
room W x (t ∷ ts) (o ∷ os) e p l =
    grind (arith, nat_tests, last_newest x t ts p, last_older x t ts p, room W x ts os (omega arith) p, at_newest 0 o os, where_is 0 o os, at_older 0 o os)

length_raise : (x : ℕ) (ts os : List ℕ) → length (raise x ts os) ≡ length os
unfolding raise
length_raise x [] os = refl
length_raise x (t ∷ ts) [] = refl
length_raise x (t ∷ ts) (o ∷ os) = grind (arith, length_raise x ts os)

pub length_occupancies : (W : ℕ) (ts : List ℕ) → length (occupancies W ts) ≡ length ts
unfolding occupancies
length_occupancies W [] = refl
length_occupancies W (t ∷ ts) = grind (arith, length_occupancies W ts, length_raise t ts (occupancies W ts))

raised : (x : ℕ) (ts os : List ℕ) → length os ≡ length ts → (p : ℕ) → LastTouch ts x p → (i : ℕ) → i < length os → at_turn (raise x ts os) i ≡ at_turn os i + tally (leb p i)
unfolding raise
raised x [] os e p l i h = absurd (omega (arith, l.past))
raised x (t ∷ ts) [] e p l i h = absurd (omega arith)
raised x (t ∷ ts) (o ∷ os) e p l i h =
    let past = l.past in
    let rec = raised x ts os (omega arith) p in
    let same = length_raise x ts os in
    grind (arith, nat_tests, last_newest x t ts p, last_older x t ts p, rec, where_is 0 o os i, where_is 0 (suc o) os i, where_is 0 (suc o) (raise x ts os) i)

-- ---- the whole rule

pub rule_by_index : RuleByIndex
unfolding occupancies
rule_by_index W x ts = record {
  gaps = long;
  room = λ p l. let r = room W x ts os long p l in (λ f i a b. r.0 f i a (omega (arith, long)), λ h. r.1 (λ i a b. h i a (omega (arith, long))));
  never = never (hit W x ts) refl;
  raised = λ p l f i h. after true f i h ∙ raised x ts os long p l i (omega (arith, long));
  stays = λ f i h. after false f i h;
  fresh = ap (at_turn (0 ∷ new (hit W x ts))) (sym (length_new (hit W x ts))) ∙ at_newest 0 0 (new (hit W x ts));
}
  where
    os : List ℕ
    os = occupancies W ts

    long : length os ≡ length ts
    long = length_occupancies W ts

    new : Bool → List ℕ
    new b = cond b (raise x ts os) os

    length_new : (b : Bool) → length (new b) ≡ length ts
    length_new true = length_raise x ts os ∙ long
    length_new false = long

    after : (b : Bool) → hit W x ts ≡ b → (i : ℕ) → i < length ts → at_turn (0 ∷ new (hit W x ts)) i ≡ at_turn (new b) i
    after b e i h = at_older 0 0 (new (hit W x ts)) i (omega (arith, length_new (hit W x ts))) ∙ ap (λ c. at_turn (new c) i) e

    never : (b : Bool) → hit W x ts ≡ b → ((p : ℕ) → LastTouch ts x p → ⊥) → hit W x ts ≡ false
    never true e n = let m = last_touch W x ts os e in absurd (n m.0 m.1)
    never false e n = e
