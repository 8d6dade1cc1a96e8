-- Runs of bytes: how a line can go on after some of it, and that a run ends at one place only.
use Rattle.std.specs.Prelude.{◌≡◌, ℕ, zero, suc, ◌+◌, ◌<◌, ◌≤◌, ◌⊎◌, List, [], ◌∷◌, ◌++◌, length, take, slice_index, refl}
use Rattle.std.proofs.Common.{sym, ap, subst, inl, inr, ⊎_elim, arith}
use Rattle.std.specs.Str.Parse.{AllDigits}
use Rattle.std.specs.Char.{digit_value}
use Rattle.std.specs.List.{between, AllByRecursion}
use Rattle.std.proofs.lemmas.List.{length-take-le, take_rest}
use Rattle.notations.specs.Bytes.{Blank, Figures, Longest}

-- blanks, then K
abbrev pub Blanks : (List ℕ → Type 0) → List ℕ → Type 0
Blanks K [] = K []
Blanks K (b ∷ bs) = (Blank b × Blanks K bs) ⊎ K (b ∷ bs)

-- at most n digits, then K
abbrev pub More : ℕ → ℕ → (List ℕ → Type 0) → List ℕ → Type 0
More radix zero K bs = K bs
More radix (suc n) K [] = K []
More radix (suc n) K (b ∷ bs) = ((digit_value b < radix) × More radix n K bs) ⊎ K (b ∷ bs)

-- a digit, at most n more, then K
abbrev pub Some : ℕ → ℕ → (List ℕ → Type 0) → List ℕ → Type 0
Some radix n K [] = ⊥
Some radix n K (b ∷ bs) = (digit_value b < radix) × More radix n K bs

-- K does not begin with a byte of P
abbrev pub Apart : (ℕ → Type 0) → (List ℕ → Type 0) → Type 0
Apart P K = (b : ℕ) (bs : List ℕ) → P b → K (b ∷ bs) → ⊥

pub blanks_in : (K : List ℕ → Type 0) (xs r : List ℕ) → AllByRecursion Blank xs → K r → Blanks K (xs ++ r)
blanks_in K [] [] h k = k
blanks_in K [] (b ∷ bs) h k = inr k
blanks_in K (x ∷ xs) r h k = inl (h.0, blanks_in K xs r h.1 k)

pub blanks_out : (K : List ℕ → Type 0) → Apart Blank K → (xs r : List ℕ) → AllByRecursion Blank xs → Blanks K (xs ++ r) → Blanks K r
blanks_out K apart [] r h k = k
blanks_out K apart (x ∷ xs) r h k = ⊎_elim (λ w. blanks_out K apart xs r h.1 w.1) (λ w. absurd (apart x (xs ++ r) h.0 w)) k

pub blanks_done : (K : List ℕ → Type 0) (b : ℕ) (bs : List ℕ) → (Blank b → ⊥) → Blanks K (b ∷ bs) → K (b ∷ bs)
blanks_done K b bs solid k = ⊎_elim (λ w. absurd (solid w.0)) (λ w. w) k

pub more_in : (radix n : ℕ) (K : List ℕ → Type 0) (ds r : List ℕ) → AllDigits radix ds → length ds ≤ n → K r → More radix n K (ds ++ r)
more_in radix zero K [] r h few k = k
more_in radix (suc n) K [] [] h few k = k
more_in radix (suc n) K [] (b ∷ bs) h few k = inr k
more_in radix zero K (d ∷ ds) r h few k = absurd (omega arith)
more_in radix (suc n) K (d ∷ ds) r h few k = inl (h.0, more_in radix n K ds r h.1 (omega arith) k)

pub more_out : (radix n m : ℕ) (K : List ℕ → Type 0) → Apart (λ b. digit_value b < radix) K → (ds r : List ℕ) → AllDigits radix ds → n ≡ length ds + m → More radix n K (ds ++ r) → More radix m K r
more_out radix n m K apart [] r h e k = let same : n ≡ m = omega arith in subst (λ j. More radix j K r) same k
more_out radix zero m K apart (d ∷ ds) r h e k = absurd (omega arith)
more_out radix (suc n) m K apart (d ∷ ds) r h e k =
    ⊎_elim (λ w. more_out radix n m K apart ds r h.1 (omega arith) w.1) (λ w. absurd (apart d (ds ++ r) h.0 w)) k

pub more_done : (radix m : ℕ) (K : List ℕ → Type 0) (b : ℕ) (bs : List ℕ) → (0 < m → radix ≤ digit_value b) → More radix m K (b ∷ bs) → K (b ∷ bs)
more_done radix zero K b bs stops k = k
more_done radix (suc m) K b bs stops k = ⊎_elim (λ w. let low = w.0 in let high = stops (omega arith) in absurd (omega arith)) (λ w. w) k

pub more_end : (radix m : ℕ) (K : List ℕ → Type 0) → More radix m K [] → K []
more_end radix zero K k = k
more_end radix (suc m) K k = k

-- the same of a run that is not empty
pub some_in : (radix n : ℕ) (K : List ℕ → Type 0) (ds r : List ℕ) → AllDigits radix ds → 0 < length ds → length ds ≤ suc n → K r → Some radix n K (ds ++ r)
some_in radix n K [] r h some few k = absurd (omega arith)
some_in radix n K (d ∷ ds) r h some few k = (h.0, more_in radix n K ds r h.1 (omega arith) k)

pub some_out : (radix n m : ℕ) (K : List ℕ → Type 0) → Apart (λ b. digit_value b < radix) K → (ds r : List ℕ) → AllDigits radix ds → 0 < length ds → suc n ≡ length ds + m → Some radix n K (ds ++ r) → More radix m K r
some_out radix n m K apart [] r h some e k = absurd (omega arith)
some_out radix n m K apart (d ∷ ds) r h some e k = more_out radix n m K apart ds r h.1 (omega arith) k.1

-- a run of P ends at the end, or before a byte that is none of P's
abbrev pub Ends : (ℕ → Type 0) → List ℕ → Type 0
Ends P [] = Unit {0}
Ends P (b ∷ bs) = P b → ⊥

-- equal lists have equal heads and tails
pub cells : {x y : ℕ} {xs ys : List ℕ} → x ∷ xs ≡ y ∷ ys → (x ≡ y) × (xs ≡ ys)
cells e = (cc, cc)

-- so two runs that make up the same bytes are the same
pub same_run : (P : ℕ → Type 0) (xs ys r s : List ℕ) → AllByRecursion P xs → AllByRecursion P ys → Ends P r → Ends P s → xs ++ r ≡ ys ++ s → (xs ≡ ys) × (r ≡ s)
same_run P [] [] r s h k e f same = (refl, same)
same_run P [] (y ∷ ys) [] s h k e f same = absurd (cc)
same_run P [] (y ∷ ys) (b ∷ r) s h k e f same = absurd (e (subst P (sym (cells same).0) k.0))
same_run P (x ∷ xs) [] r [] h k e f same = absurd (cc)
same_run P (x ∷ xs) [] r (b ∷ s) h k e f same = absurd (f (subst P (cells same).0 h.0))
same_run P (x ∷ xs) (y ∷ ys) r s h k e f same =
    let more = same_run P xs ys r s h.1 k.1 e f (cells same).1 in
    (λ i. (cells same).0 i ∷ more.0 i, more.1)

pub digits_all : (radix : ℕ) (ds : List ℕ) → AllDigits radix ds → AllByRecursion (λ b. digit_value b < radix) ds
digits_all radix [] h = tt
digits_all radix (d ∷ ds) h = (h.0, digits_all radix ds h.1)

pub all_here : (P : ℕ → Type 0) (xs : List ℕ) (y : ℕ) (ys : List ℕ) → AllByRecursion P (xs ++ y ∷ ys) → P y
all_here P [] y ys h = h.0
all_here P (x ∷ xs) y ys h = all_here P xs y ys h.1

-- no byte past the space is a blank
pub later_solid : (b : ℕ) → 32 < b → Blank b → ⊥
later_solid b past blank = grind arith

-- no digit is a blank
pub digit_solid : (radix b : ℕ) → radix ≤ 36 → digit_value b < radix → Blank b → ⊥
digit_solid radix b small low blank =
    ⊎_elim (λ e. let v : digit_value b ≡ 36 = ap digit_value e in omega arith) (λ e. let v : digit_value b ≡ 36 = ap digit_value e in omega arith) blank

-- the number 0
pub zero_figures : (radix most : ℕ) → 0 < radix → 0 < most → Figures radix most (48 ∷ [])
zero_figures radix most some room = record { some = omega arith; few = omega arith; digits = (omega arith, tt) }

pub zero_address : Figures 16 16 (48 ∷ [])
zero_address = zero_figures 16 16 (omega arith) (omega arith)

-- the longest front of digits is a number, if it is not empty
pub figures_of : (radix most : ℕ) (bs : List ℕ) (n v : ℕ) → Longest radix most bs n v → 0 < n → Figures radix most (take n bs)
figures_of radix most bs n v h any =
    let long = length-take-le n bs h.within in
    let few = h.few in
    record { some = omega arith; few = omega arith; digits = h.digits }

-- some bytes by the first and the rest, as a slice pattern gives them
pub first_and_rest : (bs : List ℕ) → 1 ≤ length bs → bs ≡ slice_index bs 0 ∷ between 1 (length bs) bs
first_and_rest [] some = absurd (omega arith)
first_and_rest (b ∷ bs) some = ap (λ r. b ∷ r) (sym (take_rest (b ∷ bs) 1))
