-- A list cut into parts of equal size.
use Rattle.std.specs.Prelude.{◌≡◌, ℕ, ◌+◌, ◌-◌, ◌*◌, ◌<◌, ◌≤◌, cond, List, length, ◌==◌, slice_index_or, slice_set}
use borrow.Rule.Slice.PartMut.{put_mid}
use Rattle.std.specs.List.{between}

-- part j of parts of w elements, as `xs[j * w..j * w + w]` reads it
abbrev pub part : {X : Type 0} → ℕ → ℕ → List X → List X
part w j xs = between (j * w) (j * w + w) xs

-- the list after a write to that part, as `&mut xs[j * w..j * w + w]` leaves it
abbrev pub put_part : {X : Type 0} → ℕ → ℕ → List X → List X → List X
put_part w j xs ys = put_mid (j * w) (j * w + w - j * w) xs ys

-- a write to a part changes that part alone
abbrev pub Apart : Type 0 → Type 0
Apart X = (w j i : ℕ) (xs ys : List X) → j * w + w ≤ length xs → length ys ≡ w → part w i (put_part w j xs ys) ≡ cond (i == j) ys (part w i xs)

-- and so does a write to an element of it
abbrev pub ApartSet : Type 0 → Type 0
ApartSet X = (w j i k : ℕ) (xs : List X) (v : X) → k < w → part w i (slice_set xs (j * w + k) v) ≡ cond (i == j) (slice_set (part w j xs) k v) (part w i xs)

-- each of the first n elements is v
abbrev pub Filled : {X : Type 0} → X → ℕ → List X → Type 0
Filled {X} v n xs = (k : ℕ) (d : X) → k < n → slice_index_or xs k d ≡ v
