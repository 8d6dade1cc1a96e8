-- The first field of a line, and what is left.
use Rattle.std.proofs.Common.{◌≡◌, ℕ, ◌+◌, ◌-◌, ◌<◌, ◌≤◌, Bool, true, false, cond, eqb, leb, List, [], ◌∷◌, ◌++◌, length, take, drop, sym, refl, ap, ◌∙◌, subst, ⊎_elim, arith, length-drop, take-append-drop, rules}
use Rattle.std.specs.List.{AllByRecursion}
use Rattle.std.proofs.lemmas.List.{drop_more, take_all, drop-drop, length-take-le}
use Rattle.std.proofs.lemmas.Bool.{cases_lt}
use Rattle.notations.specs.Text.{onto, LongestWithout}
use Rattle.listing.specs.Fields.{fields, from}

abbrev Free : List ℕ → Type 0
Free l = AllByRecursion (λ b. b ≡ 32 → ⊥) l

other : (b : ℕ) → (b ≡ 32 → ⊥) → eqb b 32 ≡ false
other b ne = search rules

fields_ended : (f rest : List ℕ) → Free f → fields (f ++ 32 ∷ rest) ≡ f ∷ fields rest
fields_ended [] rest free = refl
fields_ended (b ∷ f) rest free = rw (other b free.0, fields_ended f rest free.1)

fields_last : (f : List ℕ) → Free f → fields f ≡ f ∷ []
fields_last [] free = refl
fields_last (b ∷ f) free = rw (other b free.0, fields_last f free.1)

at_most : (m n : ℕ) → m ≤ n → leb m n ≡ true
at_most m n h = search rules

over : (m n : ℕ) → n < m → leb m n ≡ false
over m n h = search rules

pub from_past : (line : List ℕ) (at : ℕ) → length line < at → from line at ≡ []
from_past line at h = rw (over at (length line) h)

pub record Cut (line : List ℕ) (at n : ℕ) (f : List ℕ) : Type 0 where
  pub field : from line at ≡ f ∷ from line (at + (n + 1))
  pub long : length f ≡ n

pub next_field : (line rest : List ℕ) (at n : ℕ) → at ≤ length line → rest ≡ drop at line → LongestWithout 32 rest n → Cut line at n (take n rest)
next_field line rest at n low is h =
    let long : length rest ≡ length line - at = ap length is ∙ length-drop at line in
    let here : from line at ≡ fields rest = rw (at_most at (length line) low) (ap fields (sym is)) in
    record {
      field = here ∙ ⊎_elim
          (λ (inside : n < length rest).
          let cut : rest ≡ take n rest ++ 32 ∷ drop (n + 1) rest = sym (take-append-drop n rest) ∙ ap (λ r. take n rest ++ r) (drop_more rest n 0 inside ∙ ap (λ b. b ∷ drop (n + 1) rest) (h.stops inside)) in
          let sum : at + (n + 1) ≡ n + 1 + at = omega arith in
          let next : fields (drop (n + 1) rest) ≡ from line (at + (n + 1)) = ap (λ r. fields (drop (n + 1) r)) is ∙ ap fields (drop-drop (n + 1) at line) ∙ sym (there (at + (n + 1)) (omega arith)) in
          ap fields cut ∙ fields_ended (take n rest) (drop (n + 1) rest) h.free ∙ ap (λ fs. take n rest ∷ fs) next)
          (λ (end : length rest ≤ n).
          let whole = take_all n rest end in
          fields_last rest (subst Free whole h.free) ∙ (λ i. sym whole i ∷ sym (from_past line (at + (n + 1)) (omega arith)) i))
          (cases_lt n (length rest));
      long = length-take-le n rest h.within;
    }
  where
    there : (k : ℕ) → k ≤ length line → from line k ≡ fields (drop k line)
    there k h = rw (at_most k (length line) h)

-- a line has a field at each place within it
some_fields : (bs : List ℕ) → (f : List ℕ) × (fs : List (List ℕ)) × (fields bs ≡ f ∷ fs)
some_fields [] = ([], [], refl)
some_fields (b ∷ bs) = go (eqb b 32) (some_fields bs)
  where
    go : (t : Bool) → (f : List ℕ) × (fs : List (List ℕ)) × (fields bs ≡ f ∷ fs) → (f : List ℕ) × (fs : List (List ℕ)) × (cond t ([] ∷ fields bs) (onto b (fields bs)) ≡ f ∷ fs)
    go true h = ([], fields bs, refl)
    go false h = (b ∷ h.0, h.1, ap (onto b) h.2)

pub some_field : (line : List ℕ) (at : ℕ) → at ≤ length line → (f : List ℕ) × (fs : List (List ℕ)) × (from line at ≡ f ∷ fs)
some_field line at low = let h = some_fields (drop at line) in (h.0, h.1, rw (at_most at (length line) low) h.2)
