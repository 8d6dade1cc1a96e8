-- The first line of a text, and the text from its lines.
use Rattle.std.proofs.Common.{◌≡◌, ℕ, ◌+◌, ◌<◌, Bool, true, false, ◌==◌, if◌then◌else◌, ◌⊎◌, List, [], ◌∷◌, ◌++◌, length, take, drop, sym, refl, ap, ◌∙◌, subst, inl, inr, ⊎_elim, arith, length-drop, take-append-drop, rules, eqb-true}
use Rattle.std.specs.List.{between, AllByRecursion}
use Rattle.std.proofs.lemmas.Bool.{cases_lt}
use Rattle.std.proofs.lemmas.List.{drop_all, drop_more, take_all, take_rest, drop-drop}
use Rattle.notations.specs.Text.{onto, lines, ended, Rejoins, LongestWithout}

abbrev Free : List ℕ → Type 0
Free l = AllByRecursion (λ b. b ≡ 10 → ⊥) l

other : (b : ℕ) → (b ≡ 10 → ⊥) → (b == 10) ≡ false
other b ne = search rules

lines_ended : (l rest : List ℕ) → Free l → lines (l ++ 10 ∷ rest) ≡ l ∷ lines rest
lines_ended [] rest free = refl
lines_ended (b ∷ l) rest free = rw (other b free.0, lines_ended l rest free.1)

lines_last : (b : ℕ) (l : List ℕ) → Free (b ∷ l) → lines (b ∷ l) ≡ (b ∷ l) ∷ []
lines_last b [] free = rw (other b free.0)
lines_last b (c ∷ l) free = let more = lines_last c l free.1 in rw (other b free.0) (ap (onto b) more)

some_last : (l : List ℕ) → 0 < length l → Free l → lines l ≡ l ∷ []
some_last [] some free = absurd (omega arith)
some_last (b ∷ l) some free = lines_last b l free

-- a text from its first n bytes, which hold no LF, and the rest
pub first_line : {bs line end : List ℕ} {n : ℕ} → LongestWithout 10 bs n → line ≡ take n bs → end ≡ drop n bs → 0 < length end → lines bs ≡ line ∷ lines (between 1 (length end) end)
first_line {bs} {line} {end} {n} h front back more =
    let low : n < length bs = ⊎_elim (λ low. low) (λ high. let none = ap length (back ∙ drop_all n bs high) in absurd (omega arith)) (cases_lt n (length bs)) in
    let cut : bs ≡ take n bs ++ 10 ∷ drop (n + 1) bs = sym (take-append-drop n bs) ∙ ap (λ r. take n bs ++ r) (drop_more bs n 0 low ∙ ap (λ b. b ∷ drop (n + 1) bs) (h.stops low)) in
    let rest : between 1 (length end) end ≡ drop (n + 1) bs = take_rest end 1 ∙ ap (drop 1) back ∙ drop-drop 1 n bs in
    ap lines cut ∙ lines_ended (take n bs) (drop (n + 1) bs) h.free ∙ (λ i. sym front i ∷ lines (sym rest i))

pub last_line : {bs line end : List ℕ} {n : ℕ} → LongestWithout 10 bs n → line ≡ take n bs → end ≡ drop n bs → length end < 1 → 0 < length bs → lines bs ≡ line ∷ lines end
last_line {bs} {line} {end} {n} h front back none some =
    let room = ap length back ∙ length-drop n bs in
    let whole : take n bs ≡ bs = take_all n bs (omega arith) in
    let rest : end ≡ [] = back ∙ drop_all n bs (omega arith) in
    some_last bs some (subst Free whole h.free) ∙ (λ i. sym (front ∙ whole) i ∷ lines (sym rest i))

-- these lines hold no LF, and with their LFs they are the text, or the text and the LF that its last line lacks
abbrev Whole : List (List ℕ) → List ℕ → Type 0
Whole ls text = AllByRecursion Free ls × ((ended ls ≡ text) ⊎ (ended ls ≡ text ++ 10 ∷ []))

-- one byte before the lines of a text
before : (b : ℕ) (bs : List ℕ) (ls : List (List ℕ)) → (b ≡ 10 → ⊥) → Whole ls bs → Whole (onto b ls) (b ∷ bs)
before b bs [] ne whole =
    (((ne, tt), tt), ⊎_elim (λ f. inr (ap (λ r. b ∷ (r ++ 10 ∷ [])) f)) (λ f. absurd (no_text bs f)) whole.1)
  where
    no_text : (bs : List ℕ) → [] ≡ bs ++ 10 ∷ [] → ⊥
    no_text [] f = cc
    no_text (x ∷ bs) f = cc
before b bs (l ∷ ls) ne whole =
    (((ne, whole.0.0), whole.0.1), ⊎_elim (λ f. inl (ap (λ r. b ∷ r) f)) (λ f. inr (ap (λ r. b ∷ r) f)) whole.1)

pub rejoins : Rejoins
rejoins [] = (tt, inl refl)
rejoins (b ∷ bs) = go (b == 10) refl (rejoins bs)
  where
    go : (t : Bool) → (b == 10) ≡ t → Whole (lines bs) bs → Whole (if t then [] ∷ lines bs else onto b (lines bs)) (b ∷ bs)
    go true is h =
        let lf : 10 ≡ b = sym (eqb-true b 10 is) in
        ((tt, h.0), ⊎_elim (λ e. inl (λ i. lf i ∷ e i)) (λ e. inr (λ i. lf i ∷ e i)) h.1)
    go false is h = before b bs (lines bs) (λ e. let z : (b == 10) ≡ true = ap (λ x. x == 10) e in cc) h
