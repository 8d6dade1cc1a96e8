-- No two lines sit in one way, every way is one of the set's, and a line keeps its way while it is held.
--
-- A missed line that is kept finds a way, since fewer than W lines are held before it, and takes none that is taken.
-- A hit's line is held already, and its row names the way that it sits in.
use Rattle.std.proofs.Common.{◌≡◌, ℕ, zero, suc, ◌+◌, ◌<◌, ◌≤◌, Bool, true, false, cond, eqb, ltb, ◌⊎◌, List, [], ◌∷◌, map, length, get_or, drop, sym, refl, ap, ◌∙◌, subst, inr, arith}
use Rattle.std.proofs.lemmas.List.{length-map}
use Rattle.std.proofs.lemmas.Bool.Decides.{nat_tests}
use Rattle.std.proofs.lemmas.Bool.{both_ways, false≢true}
use Rattle.histories.specs.Rule.{held, hit, verdicts}
use Rattle.histories.specs.Histories.{latest, Distinct, Legal, turn_hits}
use Rattle.histories.specs.Schedule.{Row, without, resident, seat, lowest, way, holds, rows_with, rows, SeatedTurn, Seated, WaysFit}
use Rattle.histories.proofs.Counts.{count_all, all, within}
use Rattle.histories.proofs.Reading.{read_row, held_read, held_by_rows}

-- ---- the lowest empty way

-- the numbers below n
upto : ℕ → List ℕ
upto zero = []
upto (suc n) = n ∷ upto n

held_upto : (y n : ℕ) → held y (upto n) ≡ ltb y n
unfolding upto
held_upto y zero = grind (arith, nat_tests)
held_upto y (suc n) = let k = held_upto y n in grind (arith, nat_tests)

distinct_upto : (n : ℕ) → Distinct (upto n)
unfolding upto
distinct_upto zero = tt
distinct_upto (suc n) = (let k = held_upto n n in grind (arith, nat_tests), distinct_upto n)

length_upto : (n : ℕ) → length (upto n) ≡ n
unfolding upto
length_upto zero = refl
length_upto (suc n) = grind (arith, length_upto n)

-- n ways that are all taken are taken by n lines
pigeon : (n : ℕ) (ways : List ℕ) → ((v : ℕ) → v < n → held v ways ≡ true) → n ≤ length ways
pigeon n ways h = omega (arith, within all ways (upto n) (distinct_upto n) taken, count_all ways, count_all (upto n), length_upto n)
  where
    taken : (y : ℕ) → held y (upto n) ≡ true → all y ≡ true → held y ways ≡ true
    taken y e a = h y (let k = held_upto y n in grind (arith, nat_tests))

-- the lowest is not taken, unless all are
lowest_free : (n w : ℕ) (ways : List ℕ) → ((lowest n w ways < w + n) × (held (lowest n w ways) ways ≡ false)) ⊎ ((v : ℕ) → w ≤ v → v < w + n → held v ways ≡ true)
unfolding lowest
lowest_free zero w ways = inr (λ v a b. absurd (omega arith))
lowest_free (suc n) w ways = grind (arith, nat_tests, lowest_free n (suc w) ways)

lowest_fits : (W : ℕ) (ways : List ℕ) → length ways < W → (lowest W 0 ways < W) × (held (lowest W 0 ways) ways ≡ false)
lowest_fits W ways h = grind (arith, lowest_free W 0 ways, pigeon W ways)

held_map : (f : ℕ → ℕ) (y : ℕ) (ys : List ℕ) → held y ys ≡ true → held (f y) (map f ys) ≡ true
held_map f y [] e = absurd (false≢true e)
held_map f y (z ∷ zs) e = grind (arith, nat_tests, held_map f y zs)

without_absent : (x : ℕ) (c : List ℕ) → held x c ≡ false → without x c ≡ c
without_absent x [] e = refl
without_absent x (z ∷ zs) e = grind (arith, without_absent x zs)

-- ---- one turn

-- what is known of the lines held after the rows rs
record Sitting (W : ℕ) (rs : List Row) : Type 0 where
  below : (y : ℕ) → held y (latest (resident rs)) ≡ true → seat y rs < W
  alone : (y z : ℕ) → held y (latest (resident rs)) ≡ true → held z (latest (resident rs)) ≡ true → seat y rs ≡ seat z rs → y ≡ z

sitting : (W : ℕ) (rs : List Row) → Seated W rs → Sitting W rs
unfolding resident
sitting W [] s = record { below = λ y e. absurd (false≢true e); alone = λ y z e. absurd (false≢true e) }
sitting W (r ∷ rs) s = record { below = s.0.below; alone = s.0.alone }

-- the way w of a touched line t that is kept
record Placed (W t : ℕ) (rs : List Row) (w : ℕ) : Type 0 where
  inside : w < W
  free : (z : ℕ) → held z (latest (resident rs)) ≡ true → seat z rs ≡ w → z ≡ t
  stays : held t (latest (resident rs)) ≡ true → w ≡ seat t rs

placed : (W t : ℕ) (v : Bool) (rs : List Row) → held t (latest (resident rs)) ≡ v → length (read_row true t (latest (resident rs))) ≤ W → Sitting W rs → Placed W t rs (way W v true t rs)
placed W t true rs e n s = record { inside = s.below t e; free = λ z h k. s.alone z t h e k; stays = λ h. refl }
placed W t false rs e n s = record { inside = m.0; free = λ z h k. absurd (both_ways (held (seat z rs) ways) (ap (λ w. held w ways) k ∙ m.1) (held_map (λ y. seat y rs) z L h)); stays = λ h. absurd (both_ways (held t L) e h) }
  where
    L : List ℕ
    L = latest (resident rs)

    ways : List ℕ
    ways = map (λ y. seat y rs) L

    m : (lowest W 0 ways < W) × (held (lowest W 0 ways) ways ≡ false)
    m = lowest_fits W ways (omega (arith, n, ap length (without_absent t L e), length-map L (λ y. seat y rs)))

abbrev row : ℕ → ℕ → Bool → Bool → List Row → Row
row W t v h rs = record { line = t; verdict = v; hold = h; way = way W v h t rs }

-- a line that is held after a row was touched and is kept, or was held before
kept : (W t : ℕ) (v h : Bool) (rs : List Row) (y : ℕ) → held y (latest (resident (row W t v h rs ∷ rs))) ≡ true → ((y ≡ t) × (h ≡ true)) ⊎ ((eqb y t ≡ false) × (held y (latest (resident rs)) ≡ true))
unfolding resident
kept W t v h rs y e = grind (arith, nat_tests, held_read h t y (latest (resident rs)))

seated_turn : (W t : ℕ) (v h : Bool) (rs : List Row) → held t (latest (resident rs)) ≡ v → length (read_row h t (latest (resident rs))) ≤ W → Sitting W rs → SeatedTurn W (row W t v h rs) rs
unfolding seat
seated_turn W t v h rs e n s = record { below = below; alone = alone; keeps = keeps }
  where
    r : Row
    r = row W t v h rs

    w : ℕ
    w = way W v h t rs

    L : List ℕ
    L = latest (resident rs)

    at : h ≡ true → Placed W t rs w
    at k = subst (λ b. Placed W t rs (way W v b t rs)) (sym k) (placed W t v rs e (subst (λ b. length (read_row b t L) ≤ W) k n) s)

    below : (y : ℕ) → held y (latest (resident (r ∷ rs))) ≡ true → cond (eqb y t) w (seat y rs) < W
    below y c =
        let inside : h ≡ true → w < W = λ k. (at k).inside in
        grind (arith, nat_tests, kept W t v h rs y c, inside, s.below y)

    alone : (y z : ℕ) → held y (latest (resident (r ∷ rs))) ≡ true → held z (latest (resident (r ∷ rs))) ≡ true → cond (eqb y t) w (seat y rs) ≡ cond (eqb z t) w (seat z rs) → y ≡ z
    alone y z c d q =
        let free : h ≡ true → (z : ℕ) → held z L ≡ true → seat z rs ≡ w → z ≡ t = λ k. (at k).free in
        grind (arith, nat_tests, kept W t v h rs y c, kept W t v h rs z d, free, s.alone y z)

    keeps : (y : ℕ) → held y L ≡ true → held y (latest (resident (r ∷ rs))) ≡ true → cond (eqb y t) w (seat y rs) ≡ seat y rs
    keeps y b c =
        let stays : h ≡ true → held t L ≡ true → w ≡ seat t rs = λ k. (at k).stays in
        grind (arith, nat_tests, kept W t v h rs y c, stays)

-- ---- every turn

seated : (W : ℕ) (ts : List ℕ) (hs : List Bool) → Legal W ts (resident (rows_with W ts hs)) → turn_hits ts (resident (rows_with W ts hs)) ≡ verdicts W ts → Seated W (rows_with W ts hs)
unfolding rows_with resident turn_hits verdicts
seated W [] hs l v = tt
seated W (t ∷ ts) [] l v = tt
seated W (t ∷ ts) (h ∷ hs) l v = go (seated W ts hs l.1 (ap (drop 1) v))
  where
    go : Seated W (rows_with W ts hs) → Seated W (rows_with W (t ∷ ts) (h ∷ hs))
    go k = (seated_turn W t (hit W t ts) h (rows_with W ts hs) (ap (λ bs. get_or bs 0 false) v) l.0.small (sitting W (rows_with W ts hs) k), k)

pub ways_fit : WaysFit
unfolding rows
ways_fit W ts = let k = (held_by_rows W ts).attains in seated W ts (holds W ts) k.legal k.turns
