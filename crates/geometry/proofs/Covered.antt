-- The lines of an access are those in which a byte of it lies, ascending.
use Rattle.std.proofs.Common.{◌≡◌, ℕ, zero, suc, ◌+◌, ◌-◌, ◌*◌, ◌/◌, ◌^◌, ◌<◌, ◌≤◌, length, get_or, sym, refl, ap, ◌∙◌, subst, ⊎_elim, le-div_iff_mul-le, mul-div_cancel, arith, pow_pos}
use lib.Pow.{shr_mono}
use Rattle.std.specs.List.{AllByRecursion}
use Rattle.std.proofs.lemmas.Bool.{cases_lt}
use Rattle.geometry.specs.Lines.{upward, Touched, Ascending, Covers}

pub length_upward : (a n : ℕ) → length (upward a n) ≡ n
length_upward a zero = refl
length_upward a (suc n) = ap suc (length_upward (suc a) n)

pub get_or_upward : (a n k d : ℕ) → k < n → get_or (upward a n) k d ≡ a + k
get_or_upward a zero k d h = absurd (omega arith)
get_or_upward a (suc n) zero d h = omega arith
get_or_upward a (suc n) (suc k) d h = let e = get_or_upward (suc a) n k d (omega arith) in omega arith

above : (a m n : ℕ) → a < m → AllByRecursion (λ y. a < y) (upward m n)
above a m zero h = tt
above a m (suc n) h = (h, above a (suc m) n (omega arith))

ascending : (a n : ℕ) → Ascending (upward a n)
ascending a zero = tt
ascending a (suc n) = (above a (suc a) n (omega arith), ascending (suc a) n)

-- the byte by which line y is touched: its first, or the access's first if that comes later
byte : (b address size y : ℕ) → 1 ≤ size → address / 2 ^ b ≤ y → y ≤ (address + size - 1) / 2 ^ b → Touched b address size y
byte b address size y some low high =
    let m = 2 ^ b in
    let last : y * m ≤ address + size - 1 = (le-div_iff_mul-le (pow_pos b)).0 high in
    ⊎_elim
    (λ (later : address < y * m). let i = y * m - address in let e : address + i ≡ y * m = omega arith in (i, omega arith, ap (λ n. n / m) e ∙ mul-div_cancel y (pow_pos b)))
    (λ (early : y * m ≤ address). let up : y ≤ address / m = (le-div_iff_mul-le (pow_pos b)).1 early in let e : address + 0 ≡ address = omega arith in (0, omega arith, ap (λ n. n / m) e ∙ (omega arith)))
    (cases_lt address (y * m))

pub covers : Covers
covers b address size some =
    let first = address / 2 ^ b in
    let last = (address + size - 1) / 2 ^ b in
    let count = last + 1 - first in
    let ordered : first ≤ last = shr_mono b (omega arith) in (
      λ y h. let k = h.0 in let in' : k < count = subst (λ n. k < n) (length_upward first count) h.1 in let e : first + k ≡ y = sym (get_or_upward first count k 0 in') ∙ h.2 0 in byte b address size y some (omega arith) (omega arith),
      λ y t. let low : first ≤ (address + t.0) / 2 ^ b = shr_mono b (omega arith) in let high : (address + t.0) / 2 ^ b ≤ last = shr_mono b (omega (arith, t.1)) in let is = t.2 in let k = y - first in let in' : k < count = omega arith in (k, subst (λ n. k < n) (sym (length_upward first count)) in', λ d. get_or_upward first count k d in' ∙ (omega arith)),
      ascending first count,
    )
