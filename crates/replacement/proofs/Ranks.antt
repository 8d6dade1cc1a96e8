-- Least recently used: what one touch does to a row whose held lines are ranked by age, and the law over runs.
use Rattle.std.proofs.Common.{◌≡◌, ℕ, zero, suc, ◌<◌, ◌≤◌, Bool, true, false, cond, not, ◌&&◌, ◌||◌, eqb, ltb, List, [], ◌∷◌, map, length, get_or, take, sym, refl, ap, ◌∙◌, subst, not-suc-le-zero, arith}
use Rattle.std.proofs.lemmas.Bool.{not-true, cond_both, cond-true, and_parts, eqb-true, ltb-true, ltb-false, lt-ltb}
use Rattle.std.proofs.lemmas.Bool.Decides.{nat_tests}
use Rattle.std.proofs.lemmas.List.{length-set, length-map, length-replicate, take_all}
use Rattle.replacement.specs.declared.Way.{Way}
use Rattle.histories.specs.Rule.{held}
use Rattle.replacement.proofs.Distinct.{distinct}
use Rattle.replacement.specs.Ways.{line_of, no_way, empty_row, lines, first, has_line, vacant, greatest, of_age, oldest}
use Rattle.replacement.specs.Lru.{older, placed, renewed, filled, evicted, touched, since, others, recent, aged, row}
use Rattle.replacement.proofs.Lines.{has_others, distinct_others, others_none, length_others, since_within, since_others, others_last, length_same, distinct_recent, take_others}
use Rattle.replacement.proofs.Ways.{length_lines, lines_none, has_way, first_passes, first_has, oldest_within}

-- l lists the held lines, each once, the youngest first
pub record Ranked (m : List Way) (l : List ℕ) : Type 0 where
  pub apart : distinct l ≡ true
  pub once : distinct (lines m) ≡ true
  pub same : (y : ℕ) → held y (lines m) ≡ held y l
  pub ages : aged l m ≡ true

-- the lines held in the ways other than v
abbrev rest : ℕ → List Way → List ℕ
rest v [] = []
rest zero (e ∷ es) = lines es
rest (suc v) (e ∷ es) = cond e.held (line_of e ∷ rest v es) (rest v es)

lines_older : (a : ℕ) (m : List Way) → lines (map (older a) m) ≡ lines m
lines_older a [] = refl
lines_older a (e ∷ es) = ap (λ k. cond e.held (line_of e ∷ k) k) (lines_older a es)

has_put : (a v x y : ℕ) (m : List Way) → v < length m → held y (lines (placed a v x m)) ≡ (eqb x y || held y (rest v m))
has_put a v x y [] l = absurd (not-suc-le-zero l)
has_put a zero x y (e ∷ es) l = grind (arith, nat_tests, lines_older a es)
has_put a (suc v) x y (e ∷ es) l = grind (arith, nat_tests, has_put a v x y es)

distinct_put : (a v x : ℕ) (m : List Way) → v < length m → distinct (rest v m) ≡ true → held x (rest v m) ≡ false → distinct (lines (placed a v x m)) ≡ true
distinct_put a v x [] l d h = absurd (not-suc-le-zero l)
distinct_put a zero x (e ∷ es) l d h = grind (arith, nat_tests, lines_older a es)
distinct_put a (suc v) x (e ∷ es) l d h = grind (arith, nat_tests, distinct_put a v x es, has_put a v x (line_of e) es)

rest_vacant : (v : ℕ) (m : List Way) → (get_or m v no_way).held ≡ false → rest v m ≡ lines m
rest_vacant v [] h = refl
rest_vacant zero (e ∷ es) h = grind (arith, nat_tests)
rest_vacant (suc v) (e ∷ es) h = grind (arith, nat_tests, rest_vacant v es)

rest_held : (v : ℕ) (m : List Way) → (get_or m v no_way).held ≡ true → distinct (lines m) ≡ true → rest v m ≡ others (line_of (get_or m v no_way)) (lines m)
rest_held v [] h d = refl
rest_held zero (e ∷ es) h d = grind (arith, nat_tests, others_none (line_of e) (lines es))
rest_held (suc v) (e ∷ es) h d = grind (arith, nat_tests, rest_held v es, has_way v es)

aged_older : (a : ℕ) (l l' : List ℕ) (m : List Way) → ((y : ℕ) → held y (lines m) ≡ true → since y l' ≡ cond (ltb (since y l) a) (suc (since y l)) (since y l)) → aged l m ≡ true → aged l' (map (older a) m) ≡ true
aged_older a l l' [] h g = refl
aged_older a l l' (e ∷ es) h g =
    let rec : aged l' (map (older a) es) ≡ true = aged_older a l l' es (λ y t. h y (grind (arith, nat_tests))) (grind (arith, nat_tests)) in
    grind (arith, nat_tests, h (line_of e))

aged_put : (a v x : ℕ) (l l' : List ℕ) (m : List Way) → ((y : ℕ) → held y (rest v m) ≡ true → since y l' ≡ cond (ltb (since y l) a) (suc (since y l)) (since y l)) → since x l' ≡ 0
    → aged l m ≡ true → aged l' (placed a v x m) ≡ true
aged_put a v x l l' [] h z g = refl
aged_put a zero x l l' (e ∷ es) h z g =
    let rec : aged l' (map (older a) es) ≡ true = aged_older a l l' es h (grind (arith, nat_tests)) in
    grind (arith, nat_tests)
aged_put a (suc v) x l l' (e ∷ es) h z g =
    let rec : aged l' (placed a v x es) ≡ true = aged_put a v x l l' es (λ y t. h y (grind (arith, nat_tests))) z (grind (arith, nat_tests)) in
    grind (arith, nat_tests, h (line_of e))

pub age_is : (v : ℕ) (l : List ℕ) (m : List Way) → aged l m ≡ true → (get_or m v no_way).held ≡ true → (get_or m v no_way).age ≡ since (line_of (get_or m v no_way)) l
age_is v l [] g h = grind (arith, nat_tests)
age_is zero l (e ∷ es) g h = grind (arith, nat_tests)
age_is (suc v) l (e ∷ es) g h = grind (arith, nat_tests, age_is v l es)

front_apart : (x : ℕ) (k : List ℕ) → held x k ≡ false → distinct k ≡ true → distinct (x ∷ k) ≡ true
front_apart x k h d = grind (arith, nat_tests)

same_front : (x y : ℕ) (b : Bool) (k : List ℕ) → b ≡ held y k → (eqb x y || b) ≡ held y (x ∷ k)
same_front x y b k e = grind (arith, nat_tests)

since_front : (x : ℕ) (k : List ℕ) → since x (x ∷ k) ≡ 0
since_front x k = grind (arith, nat_tests)

since_behind : (x y n : ℕ) (k : List ℕ) → eqb x y ≡ false → suc (since y k) ≡ n → since y (x ∷ k) ≡ n
since_behind x y n k h e = rw h e

unlike : (x y : ℕ) (k : List ℕ) → held x k ≡ false → held y k ≡ true → eqb x y ≡ false
unlike x y k h t = grind (arith, nat_tests)

not_other : (z y : ℕ) (l : List ℕ) → held y (others z l) ≡ true → eqb z y ≡ false
not_other z y l t = grind (arith, nat_tests, has_others z y l)

not_itself : (x : ℕ) (l : List ℕ) → held x (others x l) ≡ false
not_itself x l = grind (arith, nat_tests, has_others x x l)

-- x in the way of the line z of a held way, which is x itself or leaves
replaces : (v x : ℕ) (m : List Way) (l : List ℕ) → v < length m → (get_or m v no_way).held ≡ true → Ranked m l → held x (others (line_of (get_or m v no_way)) l) ≡ false
    → Ranked (placed (get_or m v no_way).age v x m) (x ∷ others (line_of (get_or m v no_way)) l)
replaces v x m l inside h r out =
    let z = line_of (get_or m v no_way) in
    let a = (get_or m v no_way).age in
    let here : held z (lines m) ≡ true = has_way v m h in
    let hz : held z l ≡ true = sym (r.same z) ∙ here in
    let age : a ≡ since z l = age_is v l m r.ages h in
    let left : rest v m ≡ others z (lines m) = rest_held v m h r.once in
    let both : (y : ℕ) → held y (rest v m) ≡ held y (others z l) = λ y. ap (held y) left ∙ has_others z y (lines m) ∙ ap (λ b. b && not (eqb z y)) (r.same y) ∙ sym (has_others z y l) in
    let gone : held x (rest v m) ≡ false = both x ∙ out in
    let d : distinct (rest v m) ≡ true = ap distinct left ∙ distinct_others z (lines m) r.once in
    record {
      apart = front_apart x (others z l) out (distinct_others z l r.apart);
      once = distinct_put a v x m inside d gone;
      same = λ y. has_put a v x y m inside ∙ same_front x y _ (others z l) (both y);
      ages = aged_put a v x l (x ∷ others z l) m
          (λ y t. since_behind x y _ (others z l) (unlike x y (rest v m) gone t)
          (since_others z y l r.apart hz (not_other z y l (sym (both y) ∙ t)) ∙ ap (λ k. cond (ltb (since y l) k) (suc (since y l)) (since y l)) (sym age)))
          (since_front x (others z l)) r.ages;
    }

-- x in a way that is empty
joins : (a v x : ℕ) (m : List Way) (l : List ℕ) → v < length m → (get_or m v no_way).held ≡ false → Ranked m l → held x l ≡ false → length l ≤ a
    → Ranked (placed a v x m) (x ∷ l)
joins a v x m l inside h r out low =
    let left : rest v m ≡ lines m = rest_vacant v m h in
    let both : (y : ℕ) → held y (rest v m) ≡ held y l = λ y. ap (held y) left ∙ r.same y in
    record {
      apart = front_apart x l out r.apart;
      once = distinct_put a v x m inside (ap distinct left ∙ r.once) (both x ∙ out);
      same = λ y. has_put a v x y m inside ∙ same_front x y _ l (both y);
      ages = aged_put a v x l (x ∷ l) m
          (λ y t. let deep = since_within y l (sym (both y) ∙ t) in
          since_behind x y _ l (unlike x y (rest v m) (both x ∙ out) t) (sym (cond-true _ _ _ (lt-ltb (since y l) a (omega arith)))))
          (since_front x l) r.ages;
    }

aged_none : (w : ℕ) → aged [] (empty_row w) ≡ true
aged_none zero = refl
aged_none (suc w) = aged_none w

take_nil : (n : ℕ) → ◌≡◌ {A = List ℕ} (take n []) []
take_nil zero = refl
take_nil (suc n) = refl

-- no way is empty
all_held : (m : List Way) → length m ≤ first vacant m → length (lines m) ≡ length m
all_held [] h = refl
all_held (e ∷ es) h = grind (arith, nat_tests, all_held es)

some_vacant : (m : List Way) → first vacant m < length m → length (lines m) < length m
some_vacant [] h = absurd (not-suc-le-zero h)
some_vacant (e ∷ es) h = grind (arith, nat_tests, some_vacant es, length_lines es)

held_all : (v : ℕ) (m : List Way) → length m ≤ first vacant m → v < length m → (get_or m v no_way).held ≡ true
held_all v [] h l = absurd (not-suc-le-zero l)
held_all zero (e ∷ es) h l = grind (arith, nat_tests)
held_all (suc v) (e ∷ es) h l = grind (arith, nat_tests, held_all v es)

greatest_above : (q : ℕ) (l : List ℕ) (m : List Way) → aged l m ≡ true → held q (lines m) ≡ true → since q l ≤ greatest m
greatest_above q l [] g h = grind (arith, nat_tests)
greatest_above q l (e ∷ es) g h = grind (arith, nat_tests, greatest_above q l es)

-- the last line of a list
final : ℕ → List ℕ → ℕ
final d [] = d
final d (y ∷ ys) = final y ys

final_since : (d : ℕ) (l : List ℕ) → distinct (d ∷ l) ≡ true → (held (final d l) (d ∷ l) ≡ true) × (since (final d l) (d ∷ l) ≡ length l)
unfolding final
final_since d [] h = (grind (arith, nat_tests), grind (arith, nat_tests))
final_since d (y ∷ ys) h =
    let rec = final_since y ys (grind (arith, nat_tests)) in
    let ne : eqb d (final y ys) ≡ false = unlike d (final y ys) (y ∷ ys) (grind (arith, nat_tests)) rec.0 in
    (let here = rec.0 in grind (arith, nat_tests), rw ne (ap suc rec.1))

deepest : (l : List ℕ) → distinct l ≡ true → 0 < length l → (q : ℕ) × (held q l ≡ true) × (suc (since q l) ≡ length l)
deepest [] d p = absurd (not-suc-le-zero p)
deepest (y ∷ ys) d p = let f = final_since y ys d in (final y ys, f.0, ap suc f.1)

pub ranked_length : (m : List Way) (l : List ℕ) → Ranked m l → length (lines m) ≡ length l
ranked_length m l r = length_same (lines m) l r.once r.apart r.same

module _ (x : ℕ) (m : List Way) (l : List ℕ) (some : 0 < length m) (r : Ranked m l) where
  few : length l ≤ length m
  few = let a = length_lines m in let b = ranked_length m l r in omega arith

  hits : held x (lines m) ≡ true → Ranked (renewed x m) (take (length m) (x ∷ others x l))
  hits t =
      let v = first (has_line x) m in
      let inside : v < length m = ltb-true _ _ (first_has x m ∙ t) in
      let p = and_parts _ _ (first_passes (has_line x) m inside) in
      let e : line_of (get_or m v no_way) ≡ x = eqb-true _ _ p.1 in
      let hx : held x l ≡ true = sym (r.same x) ∙ t in
      let out : held x (others x l) ≡ false = not_itself x l in
      let all : take (length m) (x ∷ others x l) ≡ x ∷ others x l = take_all (length m) (x ∷ others x l) (let a = length_others x l r.apart hx in let b = few in omega arith) in
      let got = replaces v x m l inside p.0 r (rw e out) in
      rw all (rw e at got)

  misses : held x (lines m) ≡ false → others x l ≡ l
  misses f = others_none x l (sym (r.same x) ∙ f)

  fills : held x (lines m) ≡ false → first vacant m < length m → Ranked (filled x m) (take (length m) (x ∷ others x l))
  fills f i =
      let all : take (length m) (x ∷ l) ≡ x ∷ l = take_all (length m) (x ∷ l) (let a = some_vacant m i in let b = ranked_length m l r in omega arith) in
      rw (misses f, all) (joins (length m) (first vacant m) x m l i (not-true _ (first_passes vacant m i)) r (sym (r.same x) ∙ f) few)

  evicts : held x (lines m) ≡ false → length m ≤ first vacant m → Ranked (evicted x m) (take (length m) (x ∷ others x l))
  evicts f full =
      let v = oldest m in
      let inside : v < length m = oldest_within m some in
      let taken : (get_or m v no_way).held ≡ true = held_all v m full inside in
      let z = line_of (get_or m v no_way) in
      let top : (get_or m v no_way).age ≡ greatest m = eqb-true _ _ (first_passes (of_age (greatest m)) m inside) in
      let age : (get_or m v no_way).age ≡ since z l = age_is v l m r.ages taken in
      let hz : held z l ≡ true = sym (r.same z) ∙ has_way v m taken in
      let n : length l ≡ length m = sym (ranked_length m l r) ∙ all_held m full in
      let q = deepest l r.apart (omega (arith, n)) in
      let deep : since q.0 l ≤ greatest m = greatest_above q.0 l m r.ages (r.same q.0 ∙ q.1) in
      let within = since_within z l hz in
      let last : suc (since z l) ≡ length l = let a = q.2 in omega arith in
      let out : held x l ≡ false = sym (r.same x) ∙ f in
      let cut : take (length m) (x ∷ others x l) ≡ x ∷ others z l = rw (misses f, ← n, ← last) (ap (λ k. x ∷ k) (others_last (since z l) z l r.apart (sym last) refl)) in
      let gone : held x (others z l) ≡ false = has_others z x l ∙ ap (λ b. b && not (eqb z x)) out in
      let got = subst (λ a. Ranked (placed a v x m) (x ∷ others z l)) top (replaces v x m l inside taken r gone) in
      subst (Ranked (evicted x m)) (sym cut) got

  pub ranked_touched : Ranked (touched x m) (take (length m) (x ∷ others x l))
  ranked_touched =
      cond_both (held x (lines m)) _ _ (λ k. Ranked k (take (length m) (x ∷ others x l))) hits
      (λ f. cond_both (ltb (first vacant m) (length m)) (filled x m) (evicted x m) (λ k. Ranked k (take (length m) (x ∷ others x l)))
      (λ t. fills f (ltb-true _ _ t)) (λ t. evicts f (ltb-false _ _ t)))

pub ranked_none : (w : ℕ) → Ranked (empty_row w) []
ranked_none w = record { apart = refl; once = ap distinct (lines_none w); same = λ y. ap (held y) (lines_none w); ages = aged_none w }

pub length_touched : (x : ℕ) (m : List Way) → length (touched x m) ≡ length m
length_touched x m =
    cond_both (held x (lines m)) _ _ (λ k. length k ≡ length m) (λ _. length-set _ _ _ ∙ length-map m _)
    (λ _. cond_both (ltb (first vacant m) (length m)) (filled x m) (evicted x m) (λ k. length k ≡ length m) (λ _. length-set _ _ _ ∙ length-map m _) (λ _. length-set _ _ _ ∙ length-map m _))

pub length_row : (w : ℕ) (ts : List ℕ) → length (row w ts) ≡ w
length_row w [] = length-replicate w no_way
length_row w (t ∷ ts) = length_touched t (row w ts) ∙ length_row w ts

-- the law over runs
pub ranked_row : (w : ℕ) (ts : List ℕ) → 0 < w → Ranked (row w ts) (take w (recent ts))
ranked_row w [] p = rw (take_nil w) (ranked_none w)
ranked_row zero (t ∷ ts) p = absurd (not-suc-le-zero p)
ranked_row (suc n) (t ∷ ts) p =
    let w = suc n in
    let rec = ranked_row w ts p in
    let len : length (row w ts) ≡ w = length_row w ts in
    let got = ranked_touched t (row w ts) (take w (recent ts)) (omega (arith, len)) rec in
    let cut : take w (t ∷ others t (take w (recent ts))) ≡ take w (recent (t ∷ ts)) = ap (λ k. t ∷ k) (take_others n t (recent ts) (distinct_recent ts)) in
    subst (Ranked (touched t (row w ts))) (ap (λ k. take k (t ∷ others t (take w (recent ts)))) len ∙ cut) got
