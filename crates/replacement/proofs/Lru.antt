-- Least recently used: its laws over runs, said of the touches, and what the rule keeps of a row.
use Rattle.std.proofs.Common.{◌≡◌, ℕ, zero, suc, ◌+◌, ◌<◌, ◌≤◌, Bool, true, false, cond, ◌&&◌, eqb, ltb, ◌⊎◌, List, [], ◌∷◌, map, length, get_or, take, set, sym, refl, ap, ◌∙◌, subst, inl, inr, ⊎_elim, not-suc-le-zero, arith}
use mir.Val.{bool_byte}
use Rattle.std.proofs.lemmas.Bool.{cases_Bool, cond-true, cond-false, lt-ltb, le-ltb, and_parts, and_right, eqb-true}
use Rattle.std.proofs.lemmas.Bool.Decides.{nat_tests}
use Rattle.std.proofs.lemmas.List.{length-replicate, length-take, get_or-take, set-get_or}
use Rattle.replacement.specs.declared.Way.{Way}
use Rattle.histories.specs.Rule.{held}
use Rattle.replacement.proofs.Distinct.{distinct_says}
use Rattle.replacement.specs.Ways.{line_of, way, no_way, empty_row, lines, first, has_line, vacant, greatest, oldest}
use Rattle.replacement.specs.Lru.{fresh, older, placed, touched, since, others, recent, KeepsRecent, TouchedLater, LeavesOldest, AgesTell}
use Rattle.replacement.specs.Sets.{RowLaws}
use Rattle.replacement.proofs.Lines.{has_take, has_others, since_within}
use Rattle.replacement.proofs.Ways.{length_lines, lines_none, has_first, first_passes, take_set}
use Rattle.replacement.proofs.Ranks.{Ranked, ranked_length, ranked_none, ranked_touched, ranked_row, length_touched}

-- ---- laws over runs

pub keeps_recent : KeepsRecent
keeps_recent w ts p = let r = ranked_row w ts p in record { once = distinct_says _ r.once; same = r.same; many = ranked_length _ _ r ∙ length-take w (recent ts) }

pub ages_tell : AgesTell
ages_tell w ts p = (ranked_row w ts p).ages

since_absent : (z : ℕ) (l : List ℕ) → held z l ≡ false → since z l ≡ length l
since_absent z [] h = refl
since_absent z (y ∷ ys) h = grind (arith, nat_tests, since_absent z ys)

has_since : (n y : ℕ) (l : List ℕ) → held y (take n l) ≡ (held y l && ltb (since y l) n)
has_since zero y l = grind (arith, nat_tests)
has_since (suc n) y [] = refl
has_since (suc n) y (z ∷ zs) = grind (arith, nat_tests, has_since n y zs)

since_one : (y z : ℕ) (l : List ℕ) → held y l ≡ true → since y l ≡ since z l → y ≡ z
since_one y z [] h e = grind (arith, nat_tests)
since_one y z (u ∷ us) h e = grind (arith, nat_tests, since_one y z us)

order_others : (t y z : ℕ) (r : List ℕ) → eqb t y ≡ false → eqb t z ≡ false → since y (others t r) < since z (others t r) → since y r < since z r
order_others t y z [] a b l = l
order_others t y z (u ∷ us) a b l = grind (arith, nat_tests, order_others t y z us)

order_recent : (y z : ℕ) (ts : List ℕ) → since y (recent ts) < since z (recent ts) → since y ts < since z ts
order_recent y z [] l = l
order_recent y z (t ∷ ts) l = grind (arith, nat_tests, order_recent y z ts, order_others t y z (recent ts))

pub touched_later : TouchedLater
touched_later w y z ts p a b =
    let r = ranked_row w ts p in
    let l = recent ts in
    let hy : (held y l && ltb (since y l) w) ≡ true = sym (has_since w y l) ∙ sym (r.same y) ∙ a in
    let hz : (held z l && ltb (since z l) w) ≡ false = sym (has_since w z l) ∙ sym (r.same z) ∙ b in
    let before : since y l < since z l = grind (arith, nat_tests, since_absent z l, since_within y l) in
    order_recent y z ts before

closer : (t z : ℕ) (r : List ℕ) → eqb t z ≡ false → since z (others t r) ≤ since z r
closer t z [] h = omega arith
closer t z (u ∷ us) h = grind (arith, nat_tests, closer t z us)

last_since : (n t z : ℕ) (l : List ℕ) → held z l ≡ true → (held z (t ∷ others t l) && ltb (since z (t ∷ others t l)) (suc n)) ≡ false → n ≤ since z l
last_since n t z l h g = grind (arith, nat_tests, closer t z l, has_others t z l)

pub leaves_oldest : LeavesOldest
leaves_oldest zero t y z ts p a b c ne = absurd (not-suc-le-zero p)
leaves_oldest (suc n) t y z ts p a b c ne =
    let r = ranked_row (suc n) ts p in
    let r' = ranked_row (suc n) (t ∷ ts) p in
    let l = recent ts in
    let hy : (held y l && ltb (since y l) (suc n)) ≡ true = sym (has_since (suc n) y l) ∙ sym (r.same y) ∙ c in
    let hz : (held z l && ltb (since z l) (suc n)) ≡ true = sym (has_since (suc n) z l) ∙ sym (r.same z) ∙ a in
    let gone : (held z (recent (t ∷ ts)) && ltb (since z (recent (t ∷ ts))) (suc n)) ≡ false = sym (has_since (suc n) z (recent (t ∷ ts))) ∙ sym (r'.same z) ∙ b in
    let last : n ≤ since z l = last_since n t z l (grind (arith, nat_tests)) gone in
    let before : since y l < since z l = grind (arith, nat_tests, since_one y z l) in
    order_recent y z ts before

-- ---- what the rule keeps of a row of w ways: some list ranks it

abbrev pub Fine : ℕ → List Way → Type 0
Fine w m = (length m ≡ w) × ((l : List ℕ) × Ranked m l)

starts : (w : ℕ) → Fine w (empty_row w)
starts w = (length-replicate w no_way, ([], ranked_none w))

stays : (w x : ℕ) (m : List Way) → 0 < w → Fine w m → Fine w (touched x m)
stays w x m p f = (length_touched x m ∙ f.0, (_, ranked_touched x m f.1.0 (let e = f.0 in omega arith) f.1.1))

fits : (w : ℕ) (m : List Way) → Fine w m → length (lines m) ≤ w
fits w m f = let a = length_lines m in let e = f.0 in omega arith

was_or_is : (n x y : ℕ) (l : List ℕ) → held y (take n (x ∷ others x l)) ≡ true → (y ≡ x) ⊎ (held y l ≡ true)
was_or_is n x y l h =
    let back : held y (x ∷ others x l) ≡ true = ⊎_elim (λ t. t) (λ f. grind (arith, has_take n y (x ∷ others x l) f)) (cases_Bool (held y (x ∷ others x l))) in
    grind (arith, nat_tests, has_others x y l)

only : (w x y : ℕ) (m : List Way) → 0 < w → Fine w m → held y (lines (touched x m)) ≡ true → (y ≡ x) ⊎ (held y (lines m) ≡ true)
only w x y m p f h =
    let e = f.0 in
    let l = f.1.0 in
    let r = ranked_touched x m l (omega arith) f.1.1 in
    ⊎_elim inl (λ (t : held y l ≡ true). inr (f.1.1.same y ∙ t)) (was_or_is (length m) x y l (sym (r.same y) ∙ h))

pub lru_laws : RowLaws lines (λ _ x m. touched x m) empty_row Fine
lru_laws = record { starts = starts; stays = stays; apart = λ w m f. distinct_says _ f.1.1.once; fits = fits; only = only; nothing = lines_none }

-- ---- the program's steps, on the first w of the ways s

-- a hit, found in way v
hit_is : (v x : ℕ) (m : List Way) → v ≡ first (has_line x) m → v < length m → placed (get_or m v no_way).age v x m ≡ touched x m
hit_is v x m e l =
    ap (λ k. placed (get_or m k no_way).age k x m) e ∙ sym (cond-true _ _ _ (has_first x v m e l))

older_zero : (m : List Way) → map (older 0) m ≡ m
older_zero [] = refl
older_zero (e ∷ es) = ap (λ k. k ∷ map (older 0) es) (ap (λ a. way (line_of e) a e.held) (cond-false _ _ _ (and_right e.held (ltb e.age 0) (le-ltb e.age 0 (omega arith))))) ∙ ap (λ k. e ∷ k) (older_zero es)

fresh_is : (e : Way) (x : ℕ) → line_of e ≡ x → e.age ≡ 0 → e.held ≡ true → fresh x ≡ e
fresh_is e x p q r = sym (λ i. way (p i) (q i) (r i))

module _ (w v x : ℕ) (s : List Way) (at_first : v ≡ first (has_line x) (take w s)) (inside : v < length (take w s)) where
  read : get_or (take w s) v no_way ≡ get_or s v no_way
  read = get_or-take w s v no_way (let e = length-take w s in omega (arith, e, inside))

  pub hit_moves : (t : List Way) → take w t ≡ map (older (get_or s v no_way).age) (take w s) → take w (set t v (fresh x)) ≡ touched x (take w s)
  hit_moves t g = take_set w v t (fresh x) ∙ ap (λ k. set k v (fresh x)) g ∙ ap (λ (e : Way). placed e.age v x (take w s)) (sym read) ∙ hit_is v x (take w s) at_first inside

  -- a hit of the youngest line changes nothing
  pub hit_stays : (get_or s v no_way).age ≤ 0 → take w s ≡ touched x (take w s)
  hit_stays low =
      let m = take w s in
      let z : (get_or m v no_way).age ≡ 0 = ap (λ (e : Way). e.age) read ∙ omega (arith, low) in
      let p = and_parts _ _ (subst (λ k. has_line x (get_or m k no_way) ≡ true) (sym at_first) (first_passes (has_line x) m (subst (λ k. k < length m) at_first inside))) in
      sym (sym (hit_is v x m at_first inside) ∙ ap (λ a. placed a v x m) z ∙ ap (λ k. set k v (fresh x)) (older_zero m) ∙ ap (set m v) (fresh_is (get_or m v no_way) x (eqb-true _ _ p.1) z p.0) ∙ set-get_or m v no_way)

-- a miss: the way and the limit that it goes by
pub record Chosen (m : List Way) (v a : ℕ) : Type 0 where
  pub inside : v < length m
  pub how : ((v ≡ first vacant m) × (a ≡ length m)) ⊎ ((first vacant m ≡ length m) × (v ≡ oldest m) × (a ≡ greatest m))

miss_is : (v a x : ℕ) (m : List Way) → held x (lines m) ≡ false → Chosen m v a → placed a v x m ≡ touched x m
miss_is v a x m f c =
    ⊎_elim
    (λ (h : (v ≡ first vacant m) × (a ≡ length m)).
    let into : first vacant m < length m = subst (λ k. k < length m) h.0 c.inside in
    ap (λ k. placed k v x m) h.1 ∙ ap (λ k. placed (length m) k x m) h.0 ∙ sym (cond-true _ _ _ (lt-ltb _ _ into)) ∙ sym (cond-false _ _ _ f))
    (λ (h : (first vacant m ≡ length m) × (v ≡ oldest m) × (a ≡ greatest m)).
    ap (λ k. placed k v x m) h.2 ∙ ap (λ k. placed (greatest m) k x m) h.1 ∙ sym (cond-false _ _ _ (le-ltb (first vacant m) (length m) (let e = h.0 in omega (arith, e)))) ∙ sym (cond-false _ _ _ f))
    c.how

pub miss_moves : (w v a x : ℕ) (s t : List Way) → held x (lines (take w s)) ≡ false → Chosen (take w s) v a → take w t ≡ map (older a) (take w s) → take w (set t v (fresh x)) ≡ touched x (take w s)
miss_moves w v a x s t f c g = take_set w v t (fresh x) ∙ ap (λ k. set k v (fresh x)) g ∙ miss_is v a x (take w s) f c

-- one older without a branch
byte_add : (b : Bool) (n : ℕ) → n + bool_byte b ≡ cond b (n + 1) n
byte_add true n = refl
byte_add false n = omega arith

pub older_byte : (a : ℕ) (e : Way) → way (line_of e) (e.age + bool_byte (e.held && ltb e.age a)) e.held ≡ older a e
older_byte a e = λ i. way (line_of e) (byte_add (e.held && ltb e.age a) e.age i) e.held
