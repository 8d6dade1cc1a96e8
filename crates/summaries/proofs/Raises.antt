-- Some raises at once, of each kind.
use Rattle.std.proofs.Common.{◌≡◌, ℕ, ◌+◌, ◌*◌, ◌^◌, ◌<◌, Some, None, ap, ◌∙◌, subst, arith}
use Rattle.summaries.specs.Algebra.{ups}
use Rattle.summaries.specs.Kinds.{of_highest, peak, peak_fits, load, load_fits}
use Rattle.summaries.specs.KindLaws.{peak_ups, peak_ups_none, load_ups}
use Rattle.summaries.specs.declared.kind.Peak.{Peak}
use Rattle.summaries.specs.declared.kind.Load.{Load}

pub peak_room : (n a : ℕ) (p : Peak) → p.highest ≡ Some a → peak_fits (ups peak n p) → a + n < 2 ^ 8
peak_room n a p is fit = let h = subst peak_fits (ap (λ o. ups peak n (of_highest o)) is ∙ peak_ups n a) fit in omega (arith, h)

pub raised_peak : (n a : ℕ) (p : Peak) → p.highest ≡ Some a → ups peak n p ≡ of_highest (Some (a + n))
raised_peak n a p is = ap (λ o. ups peak n (of_highest o)) is ∙ peak_ups n a

pub raised_nothing : (n : ℕ) (p : Peak) → p.highest ≡ None → ups peak n p ≡ of_highest None
raised_nothing n p is = ap (λ o. ups peak n (of_highest o)) is ∙ peak_ups_none n

pub load_room : (n : ℕ) (x : Load) → load_fits (ups load n x) → x.sum + n * x.gaps < 2 ^ 32
load_room n x fit = let h = subst load_fits (load_ups n x) fit in omega (arith, h.1)
