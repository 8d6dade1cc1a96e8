-- One more touch, and the lines of an access one after another.
use Rattle.std.proofs.Common.{◌≡◌, ℕ, zero, suc, ◌+◌, ◌-◌, ◌*◌, ◌/◌, ◌%◌, ◌^◌, ◌<◌, ◌≤◌, eqb, ◌⊎◌, List, [], ◌∷◌, ◌++◌, length, get_or, take, set, replicate, sum, Ok, Err, Result, MatchResult, sym, refl, ap, ◌∙◌, subst, inl, inr, ⊎_elim, append_assoc, append-nil, mod-lt, mul-le-mul_left, div-mul-le_self, arith, length-append, length-set, pow_pos, pow_mono, eq-eqb, ne_eqb}
use lib.Pow.{shr_mono}
use Rattle.std.proofs.lemmas.List.Elements.{filter-append}
use Rattle.std.proofs.lemmas.List.{get_or-set_same, get_or-set_other, get_or-replicate, length_push, length-replicate, take-replicate}
use Rattle.std.proofs.lemmas.List.Sums.{sum_by-set, sum_by-cons}
use Rattle.std.proofs.lemmas.Bool.{cases_lt}
use Rattle.geometry.specs.Lines.{upward, Sized, Within, Spans}
use Rattle.geometry.specs.declared.access.LineSpan.{LineSpan}
use Rattle.geometry.specs.declared.refusal.Refusal.{Refusal}
use Rattle.geometry.specs.declared.refusal.Refusal.TheVariants.{SetFull}
use Rattle.listing.specs.declared.first.Settings.{Settings}
use Rattle.listing.specs.Touches.{of_set, Room, Roomy, Counted, CountedOn}

pub of_set_here : (s : ℕ) (taken : List ℕ) (x j : ℕ) → x % 2 ^ s ≡ j → length (of_set s j (taken ++ x ∷ [])) ≡ length (of_set s j taken) + 1
unfolding of_set
of_set_here s taken x j e =
    let split = ap length (filter-append (λ y. eqb (y % 2 ^ s) j) taken (x ∷ [])) in
    let t = eq-eqb (x % 2 ^ s) j e in
    split ∙ simp (length-append, t) refl

pub of_set_other : (s : ℕ) (taken : List ℕ) (x j : ℕ) → (x % 2 ^ s ≡ j → ⊥) → length (of_set s j (taken ++ x ∷ [])) ≡ length (of_set s j taken)
unfolding of_set
of_set_other s taken x j e =
    let split = ap length (filter-append (λ y. eqb (y % 2 ^ s) j) taken (x ∷ [])) in
    let t = ne_eqb (x % 2 ^ s) j e in
    split ∙ simp (length-append, t) (omega arith)

-- a count goes up by one
pub counted_more : (s : ℕ) (counts taken : List ℕ) (x : ℕ) → Counted s counts taken → Counted s (set counts (x % 2 ^ s) (get_or counts (x % 2 ^ s) 0 + 1)) (taken ++ x ∷ [])
counted_more s counts taken x h =
    let j = x % 2 ^ s in
    let low : j < 2 ^ s = mod-lt x (pow_pos s) in
    let long = h.long in
    record {
      long = length-set counts j (get_or counts j 0 + 1) ∙ long;
      each = λ i small. ⊎_elim
          (λ (e : j ≡ i). subst (λ m. get_or (set counts j (get_or counts j 0 + 1)) m 0 ≡ length (of_set s m (taken ++ x ∷ []))) e (get_or-set_same counts j (get_or counts j 0 + 1) 0 (omega arith) ∙ ap (λ n. n + 1) (h.each j low) ∙ sym (of_set_here s taken x j refl)))
          (λ (ne : j ≡ i → ⊥). get_or-set_other counts j i (get_or counts j 0 + 1) 0 (λ e. ne (sym e)) ∙ h.each i small ∙ sym (of_set_other s taken x i ne))
          (same j i);
      total = let moved = sum_by-set (λ n. n) counts j (get_or counts j 0 + 1) 0 (omega arith) in let long' = length_push taken x in let all = h.total in omega arith;
    }
  where
    same : (m n : ℕ) → (m ≡ n) ⊎ (m ≡ n → ⊥)
    same m n = ⊎_elim (λ low. inr (λ e. omega arith)) (λ high. ⊎_elim (λ low. inr (λ e. omega arith)) (λ low. inl (omega arith)) (cases_lt n m)) (cases_lt m n)

pub roomy_push : (s k : ℕ) (taken xs : List ℕ) (x : ℕ) → Roomy s k taken xs → Room s k (taken ++ xs) x → Roomy s k taken (xs ++ x ∷ [])
roomy_push s k taken [] x h room = (subst (λ t. Room s k t x) (append-nil taken) room, tt)
roomy_push s k taken (y ∷ xs) x h room = (h.0, roomy_push s k (taken ++ y ∷ []) xs x h.1 (subst (λ t. Room s k t x) (sym (append_assoc taken (y ∷ []) xs)) room))

pub upward_split : (a m n : ℕ) → upward a (m + n) ≡ upward a m ++ upward (a + m) n
upward_split a zero n = let e : 0 + n ≡ n = omega arith in let f : a + 0 ≡ a = omega arith in ap (upward a) e ∙ ap (λ b. upward b n) (sym f)
upward_split a (suc m) n =
    let e : suc m + n ≡ suc (m + n) = omega arith in
    let f : suc a + m ≡ a + suc m = omega arith in
    ap (upward a) e ∙ ap (λ l. a ∷ l) (upward_split (suc a) m n ∙ ap (λ b. upward (suc a) m ++ upward b n) f)

-- lines i to the end, the first by itself
pub upward_first : (a n : ℕ) → 0 < n → upward a n ≡ a ∷ upward (suc a) (n - 1)
upward_first a zero h = absurd (omega arith)
upward_first a (suc n) h = let e : n ≡ suc n - 1 = omega arith in ap (λ m. a ∷ upward (suc a) m) e

-- what was counted by the time that line x comes
pub record Going (s k : ℕ) (taken : List ℕ) (first x : ℕ) (counts : List ℕ) : Type 0 where
  pub counted : Counted s counts (taken ++ upward first (x - first))
  pub roomy : Roomy s k taken (upward first (x - first))

pub going_more : (s k : ℕ) (taken : List ℕ) (first x : ℕ) (counts : List ℕ) → first ≤ x → Going s k taken first x counts → get_or counts (x % 2 ^ s) 0 < 2 ^ k → Going s k taken first (x + 1) (set counts (x % 2 ^ s) (get_or counts (x % 2 ^ s) 0 + 1))
going_more s k taken first x counts low g room =
    let m = x - first in
    let sum : x + 1 - first ≡ m + 1 = omega arith in
    let place : first + m ≡ x = omega arith in
    let more : upward first (x + 1 - first) ≡ upward first m ++ x ∷ [] = ap (upward first) sum ∙ upward_split first m 1 ∙ ap (λ y. upward first m ++ y ∷ []) place in
    let here : Room s k (taken ++ upward first m) x = subst (λ n. n < 2 ^ k) (g.counted.each (x % 2 ^ s) (mod-lt x (pow_pos s))) room in
    record {
      counted = subst (Counted s _) (append_assoc taken (upward first m) (x ∷ []) ∙ ap (λ l. taken ++ l) (sym more)) (counted_more s counts (taken ++ upward first m) x g.counted);
      roomy = subst (Roomy s k taken) (sym more) (roomy_push s k taken (upward first m) x g.roomy here);
    }

pub going_full : (s k : ℕ) (taken : List ℕ) (first last x : ℕ) (counts : List ℕ) → first ≤ x → x ≤ last → 2 ^ k ≤ get_or counts (x % 2 ^ s) 0 → Going s k taken first x counts → CountedOn s k taken (upward first (last + 1 - first)) (Err SetFull) counts
going_full s k taken first last x counts low high full g =
    let m = x - first in
    let n = last + 1 - x in
    let sum : last + 1 - first ≡ m + n = omega arith in
    let place : first + m ≡ x = omega arith in
    let left = upward (suc x) (n - 1) in
    let split : upward first (last + 1 - first) ≡ upward first m ++ x ∷ left = ap (upward first) sum ∙ upward_split first m n ∙ ap (λ y. upward first m ++ upward y n) place ∙ ap (λ l. upward first m ++ l) (upward_first x n (omega arith)) in
    let shut : Room s k (taken ++ upward first m) x → ⊥ = λ room. let e = g.counted.each (x % 2 ^ s) (mod-lt x (pow_pos s)) in omega arith in
    (refl, (taken ++ upward first m, x, left, record { took = upward first m; split = split; taken = refl; roomy = g.roomy; full = shut }, g.counted))

-- the ends of an access's lines
pub span_ordered : (b address size first last : ℕ) → 1 ≤ size → first ≡ address / 2 ^ b → last ≡ (address + size - 1) / 2 ^ b → first ≤ last
span_ordered b address size first last some e f = let up : address / 2 ^ b ≤ (address + size - 1) / 2 ^ b = shr_mono b (omega arith) in omega arith

pub span_bounded : (b address size last : ℕ) → 2 ≤ b → 1 ≤ size → address + size ≤ 2 ^ 64 → last ≡ (address + size - 1) / 2 ^ b → last + 1 < 2 ^ 64
span_bounded b address size last two some within e =
    let x = address + size - 1 in
    let four : 2 ^ 2 ≤ 2 ^ b = pow_mono two in
    let down : x / 2 ^ b * 2 ^ b ≤ x = div-mul-le_self x (2 ^ b) in
    let grow : x / 2 ^ b * 2 ^ 2 ≤ x / 2 ^ b * 2 ^ b = mul-le-mul_left (x / 2 ^ b) four in
    omega arith

-- .. where they were answered, with another error or the same
pub span_fits : {F : Type 0} (b address size : ℕ) (r : Result LineSpan Refusal) (answered : Result LineSpan F) (Q : Refusal → Type 0) (span : LineSpan) → 2 ≤ b → Sized size × Within address size → Spans b address size r → MatchResult r (λ x. answered ≡ Ok x) Q → answered ≡ Ok span → (span.first.0 ≤ span.last.0) × (span.last.0 + 1 < 2 ^ 64)
span_fits b address size (Ok x) answered Q span two fits s m is =
    let same : x ≡ span = cc in
    subst (λ (y : LineSpan). (y.first.0 ≤ y.last.0) × (y.last.0 + 1 < 2 ^ 64)) same (span_ordered b address size _ _ s.0.0 s.2 s.3, span_bounded b address size _ two s.0.0 s.1 s.3)
span_fits b address size (Err e) answered Q span two fits s m is = ⊎_elim (λ w. absurd (w.1 fits.0)) (λ w. absurd (w.2 fits.1)) s

-- before the first touch every count is 0
sum_zeros : (n : ℕ) → sum (replicate n 0) ≡ 0
sum_zeros zero = refl
sum_zeros (suc n) = sum_by-cons (λ x. x) 0 (replicate n 0) ∙ (let e = sum_zeros n in omega arith)

pub none_counted : (s n room : ℕ) → n ≡ 2 ^ s → n ≤ room → Counted s (take n (replicate room 0)) []
unfolding of_set
none_counted s n room sets fit =
    let zeros : take n (replicate {A = ℕ} room 0) ≡ replicate n 0 = take-replicate n room 0 fit in
    subst (λ c. Counted s c []) (sym zeros) (record {
      long = length-replicate n 0 ∙ sets;
      each = λ j low. get_or-replicate n j 0 0 (omega arith);
      total = sum_zeros n;
    })

-- .. as many as the settings allow
pub start_counted : (x : Settings) (n : ℕ) → n ≡ 2 ^ x.geometry.s → Counted x.geometry.s (take n (replicate 128 0)) []
start_counted x n sets =
    let few : 2 ^ x.geometry.s ≤ 2 ^ 7 = pow_mono {j = 7} (omega (arith, x.few)) in
    none_counted x.geometry.s n 128 sets (omega arith)
