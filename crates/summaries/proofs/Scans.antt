-- The summary of a plain row, one gap after another.
use Rattle.std.proofs.Common.{◌≡◌, ℕ, ◌+◌, ◌<◌, List, [], ◌∷◌, length, get_or, take, sym, ap, ◌∙◌, subst, arith, length-take}
use Rattle.std.proofs.lemmas.List.{take_more}
use Rattle.summaries.specs.Algebra.{Algebra, Laws, Small, Fit, ups, summary}
use Rattle.summaries.proofs.Sums.{summary_append}
use Rattle.summaries.proofs.Rows.{within_take, small_right}

small_take : (n : ℕ) (xs : List ℕ) → Small xs → Small (take n xs)
small_take n xs s = record { few = simp length-take (omega (arith, s.few)); low = within_take 16 n xs s.low }

-- what one more turn of the loop asks and gives, where `gap` is a gap of occupancy 0, `here` the gap that the turn adds, and `whole` what was joined before
pub record Turn {K : Type 0} (a : Algebra K) (fits : K → Type 0) (xs : List ℕ) (i : ℕ) : Type 0 where
  pub raises : (gap : K) → gap ≡ a.one → fits (ups a (get_or xs i 0) gap)
  pub joins : (whole here : K) → whole ≡ summary a (take i xs) → here ≡ ups a (get_or xs i 0) a.one → fits (a.join whole here)
  pub next : (whole here : K) → whole ≡ summary a (take i xs) → here ≡ ups a (get_or xs i 0) a.one → a.join whole here ≡ summary a (take (i + 1) xs)

pub turn : {K : Type 0} {a : Algebra K} (laws : Laws a) (fits : K → Type 0) (fit : Fit a fits) (xs : List ℕ) (i : ℕ) → Small xs → i < length xs → Turn a fits xs i
turn {K} {a} laws fits fit xs i small lt =
    let x = get_or xs i 0 in
    let more = take_more xs i 0 lt in
    let one : summary a (x ∷ []) ≡ ups a x a.one = laws.right (ups a x a.one) in
    let next : a.join (summary a (take i xs)) (ups a x a.one) ≡ summary a (take (i + 1) xs) =
    ap (a.join (summary a (take i xs))) (sym one) ∙ sym (summary_append laws (take i xs) (x ∷ [])) ∙ ap (summary a) (sym more) in
    let small_more = small_take (i + 1) xs small in
    record {
      raises = λ gap e. rw (e, ← one) (fit (x ∷ []) (small_right (take i xs) (x ∷ []) (subst Small more small_more)));
      joins = λ whole here w h. rw (w, h, next) (fit (take (i + 1) xs) small_more);
      next = λ whole here w h. rw (w, h) next;
    }
