-- The peak and the load of a list of gaps, and gaps that stay low.
use Rattle.std.proofs.Common.{◌≡◌, ℕ, zero, suc, ◌<◌, ◌≤◌, max, Bool, true, ◌&&◌, ltb, List, [], ◌∷◌, length, drop, Some, None, sum, Option, sym, refl, ap, ◌∙◌, subst, ⊎_elim, arith}
use Rattle.std.specs.List.{between, Contains}
use Rattle.std.proofs.lemmas.List.Elements.{Contains-append_right}
use Rattle.std.proofs.lemmas.List.Sums.{sum_by-cons}
use Rattle.std.proofs.lemmas.Bool.{cases_lt}
use Rattle.std.proofs.lemmas.Bool.Decides.{nat_tests}
use Rattle.std.proofs.lemmas.Grind.{common_steps}
use Rattle.summaries.specs.Algebra.{Within, summary}
use Rattle.summaries.specs.Kinds.{higher, peak, load, both}
use Rattle.summaries.specs.Stretches.{bump}
use Rattle.summaries.specs.declared.kind.Peak.{Peak}
use Rattle.summaries.specs.declared.kind.Load.{Load}
use Rattle.summaries.specs.declared.kind.Both.{Both}
use Rattle.summaries.specs.KindLaws.{peak_ups, load_ups, both_summary}
use Rattle.touches.specs.Turns.{below, highest, Highest, Peaks}

-- the peak of one gap more
highest_more : (g : ℕ) (gs : List ℕ) → highest (g ∷ gs) ≡ higher (Some g) (highest gs)
highest_more g gs = ap (λ (p : Peak). higher p.highest (highest gs)) (peak_ups g 0) ∙ ap (λ n. higher (Some n) (highest gs)) (omega arith)

-- ---- the peak is the highest
has_higher : (g m : ℕ) (gs : List ℕ) → Contains gs m → Contains (g ∷ gs) (max g m)
has_higher g m gs h = ⊎_elim
    (λ (l : g < m). let e : max g m ≡ m = omega arith in rw e (Contains-append_right (g ∷ []) gs m h))
    (λ (l : m ≤ g). let e : max g m ≡ g = omega arith in rw e (0, omega arith, refl))
    (cases_lt g m)

highest_step : (g : ℕ) (gs : List ℕ) (o : Option ℕ) → Highest gs o → Highest (g ∷ gs) (higher (Some g) o)
highest_step g gs None e = grind (arith, common_steps)
highest_step g gs (Some m) h = (has_higher g m gs h.0, grind (arith, common_steps))

pub peaks : Peaks
peaks [] = refl
peaks (g ∷ gs) = subst (Highest (g ∷ gs)) (sym (highest_more g gs)) (highest_step g gs (highest gs) (peaks gs))

-- ---- the peak tells whether all are below
abbrev pub under : ℕ → Option ℕ → Bool
under W None = true
under W (Some m) = ltb m W

under_higher : (W g : ℕ) (o : Option ℕ) → under W (higher (Some g) o) ≡ (ltb g W && under W o)
under_higher W g None = grind (arith, nat_tests)
under_higher W g (Some m) = grind (arith, nat_tests)

pub below_highest : (W : ℕ) (gs : List ℕ) → under W (highest gs) ≡ below W gs
below_highest W [] = refl
below_highest W (g ∷ gs) = ap (under W) (highest_more g gs) ∙ under_higher W g (highest gs) ∙ ap (λ b. ltb g W && b) (below_highest W gs)

-- ---- peak and load side by side
loaded : (gs : List ℕ) → ((summary load gs).gaps ≡ length gs) × ((summary load gs).sum ≡ sum gs)
loaded [] = (refl, refl)
loaded (g ∷ gs) =
    let rest = loaded gs in
    let here = load_ups g load.one in
    (omega (arith, rest.0, ap (λ (x : Load). x.gaps) here), omega (arith, rest.1, ap (λ (x : Load). x.sum) here, sum_by-cons (λ n. n) g gs))

pub both_parts : (gs : List ℕ) → ((summary (both peak load) gs).first.highest ≡ highest gs) × ((summary (both peak load) gs).second.gaps ≡ length gs) × ((summary (both peak load) gs).second.sum ≡ sum gs)
both_parts gs =
    let parts = both_summary peak load gs in
    let rest = loaded gs in
    (ap (λ (b : Both Peak Load). b.first.highest) parts, ap (λ (b : Both Peak Load). b.second.gaps) parts ∙ rest.0, ap (λ (b : Both Peak Load). b.second.sum) parts ∙ rest.1)

-- ---- a higher bound; the gaps from a on; one more in each of them where they are below W
pub within_more : (m n : ℕ) (xs : List ℕ) → m ≤ n → Within m xs → Within n xs
within_more m n [] l h = tt
within_more m n (x ∷ xs) l h = (omega (arith, h.0), within_more m n xs l h.1)

pub between_end : (a b : ℕ) (xs : List ℕ) → length xs ≤ b → between a b xs ≡ drop a xs
between_end a b xs h = grind (arith, common_steps)

bump_front_low : (W : ℕ) (xs : List ℕ) → below W xs ≡ true → Within W (bump 0 (length xs) xs)
bump_front_low W [] h = tt
bump_front_low W (x ∷ xs) h = grind (arith, nat_tests, bump_front_low W xs)

pub bump_low : (W a : ℕ) (xs : List ℕ) → Within W xs → below W (drop a xs) ≡ true → Within W (bump a (length xs) xs)
bump_low W a [] w h = tt
bump_low W zero (x ∷ xs) w h = bump_front_low W (x ∷ xs) h
bump_low W (suc a) (x ∷ xs) w h = (w.0, bump_low W a xs w.1 h)
