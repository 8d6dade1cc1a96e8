-- How many lines of a list pass a test.
use Rattle.std.proofs.Common.{◌≡◌, ℕ, ◌+◌, ◌≤◌, Bool, true, false, not, ◌&&◌, eqb, List, [], ◌∷◌, length, sym, refl, ◌∙◌, arith}
use Rattle.std.proofs.lemmas.Bool.Decides.{nat_tests}
use Rattle.histories.specs.Rule.{tally, held}
use Rattle.histories.specs.Histories.{Distinct}

abbrev pub count : (ℕ → Bool) → List ℕ → ℕ
count p [] = 0
count p (y ∷ ys) = tally (p y) + count p ys

abbrev pub none : ℕ → Bool
none y = false

abbrev pub all : ℕ → Bool
all y = true

-- p without t; p at x alone
abbrev pub less : (ℕ → Bool) → ℕ → ℕ → Bool
less p t y = p y && not (eqb t y)

abbrev pub only : (ℕ → Bool) → ℕ → ℕ → Bool
only p x y = p y && eqb x y

-- an inequality between tests holds between their counts
pub count_le : (a b c d : ℕ → Bool) (ys : List ℕ) → ((y : ℕ) → tally (a y) + tally (b y) ≤ tally (c y) + tally (d y)) → count a ys + count b ys ≤ count c ys + count d ys
count_le a b c d [] h = omega arith
count_le a b c d (y ∷ ys) h = omega (arith, h y, count_le a b c d ys h)

pub none_zero : (C : List ℕ) → count none C ≡ 0
none_zero [] = refl
none_zero (y ∷ ys) = omega (arith, none_zero ys)

pub count_two : (a b c : ℕ → Bool) (ys : List ℕ) → ((y : ℕ) → tally (a y) + tally (b y) ≤ tally (c y)) → count a ys + count b ys ≤ count c ys
count_two a b c ys h = omega (arith, none_zero ys, count_le a b c none ys (λ y. omega (arith, h y)))

pub count_mono : (a b : ℕ → Bool) (ys : List ℕ) → ((y : ℕ) → tally (a y) ≤ tally (b y)) → count a ys ≤ count b ys
count_mono a b ys h = omega (arith, count_le a none b none ys (λ y. omega (arith, h y)))

pub tally_one : (b : Bool) → tally b ≤ 1
tally_one b = grind arith

pub count_length : (p : ℕ → Bool) (C : List ℕ) → count p C ≤ length C
count_length p [] = omega arith
count_length p (y ∷ ys) = omega (arith, tally_one (p y), count_length p ys)

pub count_all : (C : List ℕ) → count all C ≡ length C
count_all [] = refl
count_all (y ∷ ys) = omega (arith, count_all ys)

pub held_count : (x : ℕ) (C : List ℕ) → tally (held x C) ≤ count (eqb x) C
held_count x [] = omega arith
held_count x (y ∷ ys) = grind (arith, held_count x ys)

gone_count : (x : ℕ) (C : List ℕ) → held x C ≡ false → count (eqb x) C ≡ 0
gone_count x [] e = refl
gone_count x (y ∷ ys) e = grind (arith, gone_count x ys)

-- of distinct lines that are all held in C, there are no more than in C
pub within : (r : ℕ → Bool) (C D : List ℕ) → Distinct D → ((y : ℕ) → held y D ≡ true → r y ≡ true → held y C ≡ true) → count r D ≤ count r C
within r C [] d h = omega arith
within r C (y ∷ ys) d h =
    let one : (v : ℕ) → tally (r v) + tally (none v) ≤ tally (less r y v) + tally (eqb y v) = λ v. grind arith in
    let two : (v : ℕ) → tally (less r y v) + tally (only r y v) ≤ tally (r v) = λ v. grind arith in
    let sub : (v : ℕ) → held v ys ≡ true → less r y v ≡ true → held v C ≡ true = λ v e k. grind (arith, h v) in
    let here : tally (r y) ≤ count (only r y) C = grind (arith, nat_tests, h y, held_count y C) in
    omega (arith, within (less r y) C ys d.1 sub, gone_count y ys d.0, none_zero ys, count_le r none (less r y) (eqb y) ys one, count_two (less r y) (only r y) r C two)

-- distinct lists of the same lines have one length
pub same_length : (C D : List ℕ) → Distinct C → Distinct D → ((y : ℕ) → held y C ≡ held y D) → length C ≡ length D
same_length C D c d s = omega (arith, within all D C c (λ y h k. sym (s y) ∙ h), within all C D d (λ y h k. s y ∙ h), count_all C, count_all D)
