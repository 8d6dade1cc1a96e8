-- No legal history has more hits than the rule counts.
--
-- Beside h ≤ H, with h the hits of a history and H those of the rule so far, every gap keeps  occupancy + h + k ≤ W + H,
-- where k is the number of lines now held that were last touched at that gap's turn or before.
-- At a touch of x that the history has as a hit, h rises by one, and k falls by one at each gap since x's last touch, where x counted.
-- The rule's hit raises the same gaps, and H with them. At the rule's miss one of these gaps is full, so  h + k ≤ H  there;
-- its k counts x and every line that counts at an older gap, which pays for the history's hit at each of those.
use Rattle.std.proofs.Common.{◌≡◌, ℕ, ◌+◌, ◌≤◌, Bool, false, cond, eqb, ◌⊎◌, List, [], ◌∷◌, refl, arith}
use Rattle.std.proofs.lemmas.Bool.Decides.{nat_tests}
use Rattle.std.proofs.lemmas.Bool.{eq-eqb}
use Rattle.histories.specs.Rule.{tally, held, fits, raise, occupancies, verdicts, hits}
use Rattle.histories.specs.Histories.{latest, LegalTurn, Legal, turn_hits, earned, Bounded}
use Rattle.histories.proofs.Counts.{count, all, less, only, count_two, count_mono, count_length, tally_one, held_count, within}

-- ---- the invariant

-- A history with h hits holds C, and the rule has H hits. At each gap, p is the test whether a line was last touched there or before.
abbrev Invariant : ℕ → ℕ → ℕ → (ℕ → Bool) → List ℕ → List ℕ → List ℕ → Type 0
Invariant W h H p C [] os = count p C ≡ 0
Invariant W h H p C (t ∷ ts) [] = ⊥
Invariant W h H p C (t ∷ ts) (o ∷ os) = (o ≤ W) × (o + h + count p C ≤ W + H) × Invariant W h H (less p t) C ts os

-- gaps where x does not count: the rule's hits rise with the history's, or a full gap, at which m lines count, pays for them
keep : (W h h' H H' m : ℕ) (p q : ℕ → Bool) (C ts os : List ℕ) → ((y : ℕ) → tally (q y) ≤ tally (p y)) → count q C ≤ m → (h' + H ≤ h + H') ⊎ (h' + m ≤ H') → Invariant W h H p C ts os → Invariant W h' H' q C ts os
keep W h h' H H' m p q C [] os s n k f = omega (arith, count_mono q p C s)
keep W h h' H H' m p q C (t ∷ ts) [] s n k f = f
keep W h h' H H' m p q C (t ∷ ts) (o ∷ os) s n k f =
    let one : (y : ℕ) → tally (less q t y) ≤ tally (less p t y) = λ y. grind (arith, s y) in
    let two : (y : ℕ) → tally (less q t y) ≤ tally (q y) = λ y. grind arith in
    grind (arith, count_mono q p C s, count_mono (less q t) q C two, keep W h h' H H' m (less p t) (less q t) C ts os one)

-- the same with D, what is held after the turn, in place of C
other : (W h H x : ℕ) (p : ℕ → Bool) (C D ts os : List ℕ) → ((r : ℕ → Bool) → r x ≡ false → count r D ≤ count r C) → p x ≡ false → Invariant W h H p C ts os → Invariant W h H p D ts os
other W h H x p C D [] os s e f = omega (arith, s p e)
other W h H x p C D (t ∷ ts) [] s e f = f
other W h H x p C D (t ∷ ts) (o ∷ os) s e f = grind (arith, s p e, other W h H x (less p t) C D ts os s)

-- after a touch with the rule's verdict b
Stepped : ℕ → ℕ → ℕ → (ℕ → Bool) → List ℕ → List ℕ → List ℕ → List ℕ → Bool → Type 0
Stepped W h H q C ts os raised b = (h ≤ tally b + H) × Invariant W h (tally b + H) q C ts (cond b raised os)

-- x is touched, and a is 1 if the history holds it; p is the test before the touch, and q the same test without x
step : (W h H a x : ℕ) (p q : ℕ → Bool) (C ts os : List ℕ) → a ≤ 1 → h ≤ H → a ≤ count (only p x) C → ((y : ℕ) → tally (q y) + tally (only p x y) ≤ tally (p y)) → Invariant W h H p C ts os
    → Stepped W (a + h) H q C ts os (raise x ts os) (fits W x ts os)
unfolding fits raise Stepped
step W h H a x p q C [] os a1 hH ac s f = (omega (arith, count_two q (only p x) p C s), omega (arith, count_two q (only p x) p C s))
step W h H a x p q C (t ∷ ts) [] a1 hH ac s f = absurd f
step W h H a x p q C (t ∷ ts) (o ∷ os) a1 hH ac s f =
    let below : (y : ℕ) → tally (less q t y) ≤ tally (less p t y) = λ y. grind (arith, s y) in
    let apart : (y : ℕ) → tally (less q t y) + tally (only (less p t) x y) ≤ tally (less p t y) = λ y. grind (arith, s y) in
    let drops : (y : ℕ) → tally (less q t y) ≤ tally (q y) = λ y. grind arith in
    let stays : eqb x t ≡ false → (y : ℕ) → tally (only p x y) ≤ tally (only (less p t) x y) = λ e y. grind (arith, nat_tests, e) in
    let c = count_two q (only p x) p C s in
    let d = count_mono (less q t) q C drops in
    let fewer : eqb x t ≡ false → count (only p x) C ≤ count (only (less p t) x) C = λ e. count_mono (only p x) (only (less p t) x) C (stays e) in
    let paid = λ (H' : ℕ) (k : (a + h + H ≤ h + H') ⊎ (a + h + count q C ≤ H')). keep W h (a + h) H H' (count q C) (less p t) (less q t) C ts os below d k f.2 in
    let rec : a ≤ count (only (less p t) x) C → Stepped W (a + h) H (less q t) C ts os (raise x ts os) (fits W x ts os) = λ k. step W h H a x (less p t) (less q t) C ts os a1 hH k apart f.2 in
    grind (arith, nat_tests, fewer, paid, rec)

-- ---- the whole history

-- but for x, no more lines are held after the turn than before
fresh : (W x : ℕ) (C D : List ℕ) → LegalTurn W x D C → (r : ℕ → Bool) → r x ≡ false → count r D ≤ count r C
fresh W x C D t r e = within r C D t.distinct (λ y h k. grind (arith, nat_tests, t.kept y h))

Whole : ℕ → List ℕ → List (List ℕ) → Type 0
Whole W ts cs = (earned ts cs ≤ hits W ts) × Invariant W (earned ts cs) (hits W ts) all (latest cs) ts (occupancies W ts)

whole : (W : ℕ) (ts : List ℕ) (cs : List (List ℕ)) → Legal W ts cs → Whole W ts cs
unfolding Whole Stepped earned turn_hits hits verdicts occupancies
whole W [] [] l = (omega arith, refl)
whole W [] (c ∷ cs) l = absurd l
whole W (x ∷ ts) [] l = absurd l
whole W (x ∷ ts) (D ∷ cs) l =
    let k = whole W ts cs l.1 in
    let C = latest cs in
    let s = step W (earned ts cs) (hits W ts) (tally (held x C)) x all (less all x) C ts (occupancies W ts) (tally_one (held x C)) k.0 (held_count x C) (λ y. grind arith) k.1 in
    let turned = raise x ts (occupancies W ts) in
    let small = l.0.small in
    let few = count_length all D in
    (s.0, (omega arith, omega (arith, few), other W _ _ x (less all x) C D ts (cond (fits W x ts (occupancies W ts)) turned (occupancies W ts)) (fresh W x C D l.0) (rw (eq-eqb x x refl)) s.1))

pub upper : Bounded
unfolding Whole
upper W ts cs l = (whole W ts cs l).0
