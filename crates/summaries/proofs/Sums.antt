-- What the laws give of a summary. Assumes nothing.
use Rattle.std.proofs.Common.{◌≡◌, ℕ, zero, suc, ◌+◌, List, [], ◌∷◌, ◌++◌, sym, refl, ap, ◌∙◌, ap₂, add-zero, add-suc}
use Rattle.summaries.specs.Algebra.{Algebra, Laws, ups, summary}
use Rattle.summaries.specs.Stretches.{lift}

pub ups_ups : {M : Type 0} (a : Algebra M) (p g : ℕ) (x : M) → ups a p (ups a g x) ≡ ups a (g + p) x
ups_ups a zero g x = ap (λ n. ups a n x) (sym (add-zero g))
ups_ups a (suc p) g x = ap a.up (ups_ups a p g x) ∙ ap (λ n. ups a n x) (sym (add-suc g p))

module _ {M : Type 0} {a : Algebra M} (laws : Laws a) where
  pub ups_none : (p : ℕ) → ups a p a.none ≡ a.none
  ups_none zero = refl
  ups_none (suc p) = ap a.up (ups_none p) ∙ laws.up_none

  pub ups_join : (p : ℕ) (x y : M) → ups a p (a.join x y) ≡ a.join (ups a p x) (ups a p y)
  ups_join zero x y = refl
  ups_join (suc p) x y = ap a.up (ups_join p x y) ∙ laws.up_join (ups a p x) (ups a p y)

  pub summary_append : (gs hs : List ℕ) → summary a (gs ++ hs) ≡ a.join (summary a gs) (summary a hs)
  summary_append [] hs = sym (laws.left (summary a hs))
  summary_append (g ∷ gs) hs = ap (a.join (ups a g a.one)) (summary_append gs hs) ∙ sym (laws.assoc (ups a g a.one) (summary a gs) (summary a hs))

  pub summary_lift : (p : ℕ) (gs : List ℕ) → summary a (lift p gs) ≡ ups a p (summary a gs)
  summary_lift p [] = sym (ups_none p)
  summary_lift p (g ∷ gs) = ap₂ a.join (sym (ups_ups a p g a.one)) (summary_lift p gs) ∙ sym (ups_join p (ups a g a.one) (summary a gs))
