-- The laws of the kinds of this crate, and that their summaries fit.
use Rattle.std.specs.Prelude.{◌≡◌, ℕ, zero, suc, ◌+◌, ◌*◌, ◌≤◌, List, [], ◌∷◌, length, Some, None, Option, refl}
use Rattle.std.proofs.Common.{sym, ap, ap₂, subst, ◌∙◌, arith}
use Rattle.summaries.specs.Algebra.{Algebra, Laws, Within, Fit, ups, summary}
use Rattle.summaries.specs.Kinds.{of_highest, higher, more, peak, Byte, peak_fits, of_load, load, load_fits, of_both, both, both_fits}
use Rattle.summaries.specs.declared.kind.Load.{Load}
use Rattle.summaries.specs.declared.kind.Both.{Both}

-- ---- the highest occupancy
higher_right : (x : Option ℕ) → higher x None ≡ x
higher_right None = refl
higher_right (Some a) = refl

higher_assoc : (x y z : Option ℕ) → higher (higher x y) z ≡ higher x (higher y z)
higher_assoc None y z = refl
higher_assoc (Some a) None z = refl
higher_assoc (Some a) (Some b) None = refl
higher_assoc (Some a) (Some b) (Some c) = ap Some (omega arith)

more_higher : (x y : Option ℕ) → more (higher x y) ≡ higher (more x) (more y)
more_higher None y = refl
more_higher (Some a) None = refl
more_higher (Some a) (Some b) = ap Some (omega arith)

pub peak_laws : Laws peak
peak_laws = record {
  left = λ x. refl;
  right = λ x. ap of_highest (higher_right x.highest);
  assoc = λ x y z. ap of_highest (higher_assoc x.highest y.highest z.highest);
  up_none = refl;
  up_join = λ x y. ap of_highest (more_higher x.highest y.highest);
}

abbrev Under : ℕ → Option ℕ → Type 0
Under m None = Unit {0}
Under m (Some a) = a ≤ m

pub peak_ups : (n a : ℕ) → ups peak n (of_highest (Some a)) ≡ of_highest (Some (a + n))
peak_ups zero a = ap (λ m. of_highest (Some m)) (omega arith)
peak_ups (suc n) a = ap peak.up (peak_ups n a) ∙ ap (λ m. of_highest (Some m)) (omega arith)

pub peak_ups_none : (n : ℕ) → ups peak n (of_highest None) ≡ of_highest None
peak_ups_none zero = refl
peak_ups_none (suc n) = ap peak.up (peak_ups_none n)

under_higher : (m : ℕ) (x y : Option ℕ) → Under m x → Under m y → Under m (higher x y)
under_higher m None y h k = k
under_higher m (Some a) None h k = h
under_higher m (Some a) (Some b) h k = omega arith

under_summary : (m : ℕ) (gs : List ℕ) → Within m gs → Under m (summary peak gs).highest
under_summary m [] w = tt
under_summary m (g ∷ gs) w =
    under_higher m (ups peak g peak.one).highest (summary peak gs).highest (subst (λ p. Under m p.highest) (sym (peak_ups g 0)) (omega (arith, w.0))) (under_summary m gs w.1)

below_under : (o : Option ℕ) → Under 16 o → Byte o
below_under None h = tt
below_under (Some a) h = omega arith

pub peak_fit : Fit peak peak_fits
peak_fit gs s = below_under (summary peak gs).highest (under_summary 16 gs s.low)

-- ---- how many gaps, and the sum of their occupancies
pub load_laws : Laws load
load_laws = record {
  left = λ x. ap₂ of_load (omega arith) (omega arith);
  right = λ x. ap₂ of_load (omega arith) (omega arith);
  assoc = λ x y z. ap₂ of_load (omega arith) (omega arith);
  up_none = refl;
  up_join = λ x y. ap (of_load (x.gaps + y.gaps)) (omega arith);
}

pub load_ups : (n : ℕ) (x : Load) → ups load n x ≡ of_load x.gaps (x.sum + n * x.gaps)
load_ups zero x = ap (of_load x.gaps) (omega arith)
load_ups (suc n) x = ap load.up (load_ups n x) ∙ ap (of_load x.gaps) (omega arith)

load_summary : (m : ℕ) (gs : List ℕ) → Within m gs → ((summary load gs).gaps ≡ length gs) × ((summary load gs).sum ≤ m * length gs)
load_summary m [] w = (refl, omega arith)
load_summary m (g ∷ gs) w =
    let rest = load_summary m gs w.1 in
    let here = load_ups g load.one in
    (omega (arith, rest.0, ap (λ (x : Load). x.gaps) here), omega (arith, rest.1, w.0, ap (λ (x : Load). x.sum) here))

pub load_fit : Fit load load_fits
load_fit gs s = let h = load_summary 16 gs s.low in (omega (arith, h.0, s.few), omega (arith, h.1, s.few))

-- ---- two kinds side by side
module _ {A B : Type 0} where
  pub both_laws : {a : Algebra A} {b : Algebra B} → Laws a → Laws b → Laws (both a b)
  both_laws p q = record {
    left = λ x. ap₂ of_both (p.left x.first) (q.left x.second);
    right = λ x. ap₂ of_both (p.right x.first) (q.right x.second);
    assoc = λ x y z. ap₂ of_both (p.assoc x.first y.first z.first) (q.assoc x.second y.second z.second);
    up_none = ap₂ of_both p.up_none q.up_none;
    up_join = λ x y. ap₂ of_both (p.up_join x.first y.first) (q.up_join x.second y.second);
  }

  pub both_ups : (a : Algebra A) (b : Algebra B) (n : ℕ) (x : Both A B) → ups (both a b) n x ≡ of_both (ups a n x.first) (ups b n x.second)
  both_ups a b zero x = refl
  both_ups a b (suc n) x = ap (both a b).up (both_ups a b n x)

  pub both_summary : (a : Algebra A) (b : Algebra B) (gs : List ℕ) → summary (both a b) gs ≡ of_both (summary a gs) (summary b gs)
  both_summary a b [] = refl
  both_summary a b (g ∷ gs) = ap₂ (both a b).join (both_ups a b g (both a b).one) (both_summary a b gs)

  pub both_fit : (a : Algebra A) (b : Algebra B) (f : A → Type 0) (h : B → Type 0) → Fit a f → Fit b h → Fit (both a b) (both_fits f h)
  both_fit a b f h p q gs s = subst (both_fits f h) (sym (both_summary a b gs)) (p gs s, q gs s)
