-- Lists of which the first elements are all the same.
use Rattle.std.proofs.Common.{◌≡◌, ℕ, ◌+◌, ◌*◌, ◌<◌, ◌≤◌, List, length, replicate, sym, ◌∙◌, arith}
use Rattle.std.proofs.lemmas.List.{same_lists, get_or-replicate, length-replicate}
use Rattle.parts.specs.Equal.{part, Filled}
use Rattle.parts.proofs.Writes.{inside, length_part, get_d_part}

-- each part of what is filled
pub filled_part : {X : Type 0} (w n j : ℕ) (xs : List X) (v : X) → j < n → n * w ≤ length xs → Filled v (n * w) xs → part w j xs ≡ replicate w v
filled_part w n j xs v b l h =
    let e = length_part w j xs (inside w n j (length xs) b l) in
    let low = inside w n j (n * w) b (omega arith) in
    same_lists (part w j xs) (replicate w v) (e ∙ sym (length-replicate w v))
    (λ k d c. let s : k < w = omega arith in get_d_part w j k xs d s ∙ h (j * w + k) d (omega arith) ∙ sym (get_or-replicate w k v d s))
