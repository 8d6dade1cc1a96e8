-- Writes to one part of a list that is cut into parts of equal size.
use Rattle.std.proofs.Common.{◌≡◌, ℕ, ◌+◌, ◌-◌, ◌*◌, ◌<◌, ◌≤◌, List, length, get_or, take, drop, set, sym, ap, ◌∙◌, mul-le-mul_right, arith}
use lib.Seq.{take-set-lt}
use Rattle.std.proofs.lemmas.List.{length-append, length-take, length-drop, drop-set-add, drop-set-lt, take-set-le, get_or-take, get_or-drop}
use Rattle.std.proofs.lemmas.Slice.{between_is, take-put_mid_below, drop-put_mid, between-put_mid}
use Rattle.std.proofs.lemmas.Bool.Decides.{nat_tests}
use Rattle.parts.specs.Equal.{part, put_part, Apart, ApartSet}

pub length_part : {X : Type 0} (w j : ℕ) (xs : List X) → j * w + w ≤ length xs → length (part w j xs) ≡ w
length_part w j xs h = simp (length-take, length-drop) (omega arith)

pub length_put : {X : Type 0} (w j : ℕ) (xs ys : List X) → j * w + w ≤ length xs → length ys ≡ w → length (put_part w j xs ys) ≡ length xs
length_put w j xs ys h e = simp (length-append, length-take, length-drop) (omega arith)

-- where n parts have room, each of them has: the one fact here about products, which omega does not see
pub inside : (w n j l : ℕ) → j < n → n * w ≤ l → j * w + w ≤ l
inside w n j l h t = let a = mul-le-mul_right w h in omega arith

-- the part written, the parts before it, the parts after it
pub part_same : {X : Type 0} (w j : ℕ) (xs ys : List X) → j * w + w ≤ length xs → length ys ≡ w → part w j (put_part w j xs ys) ≡ ys
part_same w j xs ys h e = between-put_mid (j * w) (j * w + w - j * w) xs ys (j * w + w) (omega arith) (omega arith)

pub part_before : {X : Type 0} (w j i : ℕ) (xs ys : List X) → j * w + w ≤ length xs → i < j → part w i (put_part w j xs ys) ≡ part w i xs
part_before w j i xs ys h l =
    let a : i * w + w ≤ j * w = inside w j i (j * w) l (omega arith) in
    between_is (put_part w j xs ys) (i * w) (i * w + w)
    ∙ ap (drop (i * w)) (take-put_mid_below (j * w) (j * w + w - j * w) xs ys (i * w + w) a (omega arith))
    ∙ sym (between_is xs (i * w) (i * w + w))

pub part_after : {X : Type 0} (w j i : ℕ) (xs ys : List X) → j * w + w ≤ length xs → length ys ≡ w → j < i → part w i (put_part w j xs ys) ≡ part w i xs
part_after w j i xs ys h e l =
    let a : j * w + w ≤ i * w = inside w i j (i * w) l (omega arith) in
    ap (take (i * w + w - i * w)) (drop-put_mid (j * w) (j * w + w - j * w) xs ys (i * w) (omega arith) (omega arith) (omega arith))

pub part_put : {X : Type 0} → Apart X
part_put w j i xs ys h e = grind (arith, nat_tests, part_same w j xs ys h e, part_before w j i xs ys h, part_after w j i xs ys h e)

pub part_set : {X : Type 0} → ApartSet X
part_set w j i k xs v h =
    let same : part w j (set xs (j * w + k) v) ≡ set (part w j xs) k v =
    ap (take (j * w + w - j * w)) (drop-set-add (j * w) xs k v) ∙ take-set-lt (j * w + w - j * w) (drop (j * w) xs) k v (omega arith) in
    let before : i < j → part w i (set xs (j * w + k) v) ≡ part w i xs = λ l.
    let a : i * w + w ≤ j * w = inside w j i (j * w) l (omega arith) in
    between_is (set xs (j * w + k) v) (i * w) (i * w + w)
    ∙ ap (drop (i * w)) (take-set-le (i * w + w) xs (j * w + k) v (omega arith)) ∙ sym (between_is xs (i * w) (i * w + w)) in
    let after : j < i → part w i (set xs (j * w + k) v) ≡ part w i xs = λ l.
    let a : j * w + w ≤ i * w = inside w i j (i * w) l (omega arith) in
    ap (take (i * w + w - i * w)) (drop-set-lt (i * w) xs (j * w + k) v (omega arith)) in
    grind (arith, nat_tests, same, before, after)

-- what lies past n parts stays, whichever of them is written
pub past_put : {X : Type 0} (w n j : ℕ) (xs ys : List X) → n * w ≤ length xs → j < n → length ys ≡ w → drop (n * w) (put_part w j xs ys) ≡ drop (n * w) xs
past_put w n j xs ys long b e =
    let a : j * w + w ≤ n * w = inside w n j (n * w) b (omega arith) in
    drop-put_mid (j * w) (j * w + w - j * w) xs ys (n * w) (omega arith) (omega arith) (omega arith)

pub past_set : {X : Type 0} (w n j k : ℕ) (xs : List X) (v : X) → j < n → k < w → drop (n * w) (set xs (j * w + k) v) ≡ drop (n * w) xs
past_set w n j k xs v b l =
    let a : j * w + w ≤ n * w = inside w n j (n * w) b (omega arith) in
    drop-set-lt (n * w) xs (j * w + k) v (omega arith)

pub get_d_part : {X : Type 0} (w j k : ℕ) (xs : List X) (d : X) → k < w → get_or (part w j xs) k d ≡ get_or xs (j * w + k) d
get_d_part w j k xs d h = get_or-take (j * w + w - j * w) (drop (j * w) xs) k d (omega arith) ∙ get_or-drop (j * w) xs k d
