-- The touches of the sets: one more of them, their hits, and how many there are.
use Rattle.std.proofs.Common.{◌≡◌, ℕ, zero, suc, ◌+◌, ◌*◌, ◌%◌, ◌^◌, ◌<◌, ◌≤◌, Bool, cond, eqb, ltb, List, [], ◌∷◌, ◌++◌, length, sym, refl, ap, ◌∙◌, subst, append_assoc, append-nil, mod-lt, arith, pow_pos}
use Rattle.std.proofs.lemmas.List.Elements.{filter-append}
use Rattle.std.proofs.lemmas.List.{reverse-append, length-reverse}
use Rattle.std.proofs.lemmas.Bool.{lt-ltb}
use Rattle.std.proofs.lemmas.Bool.Decides.{nat_tests}
use Rattle.histories.specs.Rule.{tally, hit, verdicts, hits}
use Rattle.touches.specs.Taken.{of_set, touches, Room, Roomy, verdict, hits_of, Spread}

-- ---- one touch more
pub touches_push : (s j : ℕ) (ts : List ℕ) (x : ℕ) → touches s j (ts ++ x ∷ []) ≡ cond (eqb (x % 2 ^ s) j) (x ∷ touches s j ts) (touches s j ts)
unfolding of_set
touches_push s j ts x =
    grind (arith, filter-append, reverse-append)

pub touches_long : (s j : ℕ) (ts : List ℕ) → length (touches s j ts) ≡ length (of_set s j ts)
touches_long s j ts = length-reverse (of_set s j ts)

pub roomy_push : (s slots : ℕ) (before took : List ℕ) (x : ℕ) → Roomy s slots before took → Room s slots (before ++ took) x → Roomy s slots before (took ++ x ∷ [])
roomy_push s slots before [] x h room = (subst (λ t. Room s slots t x) (append-nil before) room, tt)
roomy_push s slots before (y ∷ took) x h room = (h.0, roomy_push s slots (before ++ y ∷ []) took x h.1 (subst (λ t. Room s slots t x) (sym (append_assoc before (y ∷ []) took)) room))

-- ---- hits
tally_le : (b : Bool) → tally b ≤ 1
tally_le b = grind arith

pub hits_more : (W x : ℕ) (ts : List ℕ) → hits W (x ∷ ts) ≡ tally (hit W x ts) + hits W ts
unfolding hits verdicts
hits_more W x ts = refl

pub hits_le : (W : ℕ) (ts : List ℕ) → hits W ts ≤ length ts
unfolding hits verdicts
hits_le W [] = omega arith
hits_le W (t ∷ ts) = omega (arith, tally_le (hit W t ts), hits_le W ts)

pub hits_push : (W s : ℕ) (before took : List ℕ) (x : ℕ) → hits_of W s before (took ++ x ∷ []) ≡ hits_of W s before took + tally (verdict W s (before ++ took) x)
hits_push W s before [] x = grind (arith, append-nil)
hits_push W s before (y ∷ took) x = grind (arith, append_assoc, hits_push W s (before ++ y ∷ []) took x)

-- ---- how many touches the sets have together

-- the sum of f 0 up to f (n − 1)
abbrev upto : (ℕ → ℕ) → ℕ → ℕ
upto f zero = 0
upto f (suc n) = upto f n + f n

upto_add : (f g h : ℕ → ℕ) → ((i : ℕ) → h i ≡ f i + g i) → (n : ℕ) → upto h n ≡ upto f n + upto g n
upto_add f g h e zero = refl
upto_add f g h e (suc n) = omega (arith, e n, upto_add f g h e n)

upto_none : (n : ℕ) → upto (λ i. 0) n ≡ 0
upto_none zero = refl
upto_none (suc n) = omega (arith, upto_none n)

upto_one : (j n : ℕ) → upto (λ i. tally (eqb j i)) n ≡ tally (ltb j n)
upto_one j zero = grind (arith, nat_tests)
upto_one j (suc n) = ap (λ m. m + tally (eqb j n)) (upto_one j n) ∙ grind (arith, nat_tests)

upto_le : (f : ℕ → ℕ) (m n : ℕ) → ((i : ℕ) → i < n → f i ≤ m) → upto f n ≤ n * m
upto_le f m zero h = omega arith
upto_le f m (suc n) h = omega (arith, h n (omega arith), upto_le f m n (λ i l. h i (omega arith)))

upto_lt : (f : ℕ → ℕ) (m j n : ℕ) → ((i : ℕ) → i < n → f i ≤ m) → j < n → f j < m → upto f n < n * m
upto_lt f m j zero h l k = absurd (omega arith)
upto_lt f m j (suc n) h l k = grind (arith, upto_le f m n (λ i l. h i (omega arith)), upto_lt f m j n (λ i l. h i (omega arith)))

of_set_more : (s x : ℕ) (xs : List ℕ) (i : ℕ) → length (of_set s i (x ∷ xs)) ≡ tally (eqb (x % 2 ^ s) i) + length (of_set s i xs)
unfolding of_set
of_set_more s x xs i = grind arith

abbrev each : ℕ → List ℕ → ℕ → ℕ
each s taken i = length (of_set s i taken)

together : (s : ℕ) (taken : List ℕ) → length taken ≡ upto (each s taken) (2 ^ s)
unfolding of_set
together s [] = sym (upto_none (2 ^ s))
together s (x ∷ xs) =
    let more = upto_add (λ i. tally (eqb (x % 2 ^ s) i)) (each s xs) (each s (x ∷ xs)) (of_set_more s x xs) (2 ^ s) in
    let one = upto_one (x % 2 ^ s) (2 ^ s) ∙ ap tally (lt-ltb (x % 2 ^ s) (2 ^ s) (mod-lt x (pow_pos s))) in
    let rest = together s xs in
    sym (more ∙ rw (one, rest) (omega arith))

pub spread : Spread
spread s slots taken j h l k = let all = together s taken in let few = upto_lt (each s taken) slots j (2 ^ s) h l k in omega arith
