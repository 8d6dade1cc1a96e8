-- A rule of one row makes a policy; and in each set that policy is its rule run over the set's own touches.
use Rattle.std.proofs.Common.{◌≡◌, ℕ, zero, suc, ◌+◌, ◌%◌, ◌^◌, ◌<◌, ◌≤◌, true, false, eqb, ◌≢◌, ◌⊎◌, List, [], ◌∷◌, ◌++◌, map, length, get_or, take, set, replicate, sym, refl, ap, ◌∙◌, subst, inr, ⊎_elim, suc-le-suc, mod-lt, arith, pow_pos}
use Rattle.std.proofs.lemmas.List.{set_past, length-append, get_or_append_left, map-set, get_or-map, get_or-set_same, get_or-set_other, get_or_past, length-set, length-map, length-replicate, length-take-le, get_or-take}
use Rattle.std.proofs.Math.Seq.{take-append_seam}
use Rattle.std.proofs.lemmas.Bool.{cases_eq, cases_lt, cases_Bool, eqb-true, eqb-false, cond-true, cond-false}
use Rattle.histories.specs.Rule.{held, tally}
use Rattle.replacement.specs.Lines.{set_of}
use Rattle.replacement.specs.Ways.{lines, empty_row}
use Rattle.replacement.specs.Lru as lru
use Rattle.replacement.specs.Srrip as srrip
use Rattle.replacement.specs.Policy.{Event, told, untold, emptied, state_after, told_of, found, hits, Laws}
use Rattle.replacement.specs.Sets.{Sets, at, held_in, next_of, cleared_of, RowLaws, Kept, sets_of, opened, Ready, Idle, row_after, ByRows, lru_next, LruRecent, row_hits, OneSetIsOneRow}
use Rattle.replacement.specs.declared.Way.{Way}
use Rattle.replacement.proofs.Ways.{take_set}
use Rattle.replacement.proofs.Lru.{keeps_recent}

pub get_or_none : {M : Type 0} (n k : ℕ) (m : M) → get_or (replicate n m) k m ≡ m
get_or_none zero k m = refl
get_or_none (suc n) zero m = refl
get_or_none (suc n) (suc k) m = get_or_none n k m

abbrev of_sets : {M : Type 0} → ℕ → ℕ → List M → Sets M
of_sets s w l = record { slog = s; wide = w; sets = l }

-- ---- the laws of the policy

module _ {M : Type 0} {lines : M → List ℕ} {step : ℕ → ℕ → M → M} {none : ℕ → M} {Fine : ℕ → M → Type 0} (laws : RowLaws lines step none Fine) where
  fine_rows : {R : Type 0} (model : ℕ → R → M) (w n : ℕ) (rows : List R) (k : ℕ) → ((i : ℕ) (d : R) → i < n → Fine w (model w (get_or rows i d))) → Fine w (get_or (map (model w) (take n rows)) k (none w))
  fine_rows model w zero rows k h = laws.starts w
  fine_rows model w (suc n) [] k h = laws.starts w
  fine_rows model w (suc n) (r ∷ rs) zero h = h 0 r (omega arith)
  fine_rows model w (suc n) (r ∷ rs) (suc k) h = fine_rows model w n rs k (λ i d l. h (suc i) d (suc-le-suc l))

  kept_rows : {R : Type 0} (model : ℕ → R → M) (s w n : ℕ) (rows : List R) → Ready model Fine s w n rows → Kept none Fine (sets_of model s w n rows)
  kept_rows model s w n rows h =
      let len : length (map (model w) (take n rows)) ≡ n = length-map (take n rows) (model w) ∙ length-take-le n rows h.long in
      record { some = λ p. h.some (omega (arith, len, p)); fine = λ k. fine_rows model w n rows k h.fine }

  at_next : (q : Sets M) (x : ℕ) → set_of q.slog x < length q.sets → at none (next_of step none q x) (set_of q.slog x) ≡ step q.wide x (at none q (set_of q.slog x))
  at_next q x l = get_or-set_same q.sets (set_of q.slog x) _ _ l

  at_past : (q : Sets M) (x k : ℕ) → length q.sets ≤ set_of q.slog x → at none (next_of step none q x) k ≡ at none q k
  at_past q x k l = ap (λ r. get_or r k (none q.wide)) (set_past q.sets (set_of q.slog x) _ l)

  kept_next : (q : Sets M) (x : ℕ) → Kept none Fine q → Kept none Fine (next_of step none q x)
  kept_next q x kept =
      let k₀ = set_of q.slog x in
      record {
        some = λ p. kept.some (let e = length-set q.sets k₀ (step q.wide x (at none q k₀)) in omega arith);
        fine = λ k. ⊎_elim
            (λ (e : k ≡ k₀). ⊎_elim
            (λ (l : k₀ < length q.sets). rw (e, at_next q x l) (laws.stays q.wide x (at none q k₀) (kept.some (omega arith)) (kept.fine k₀)))
            (λ (l : length q.sets ≤ k₀). rw (at_past q x k l) (kept.fine k))
            (cases_lt k₀ (length q.sets)))
            (λ (ne : k ≢ k₀). rw (get_or-set_other q.sets k₀ k _ (none q.wide) ne) (kept.fine k))
            (cases_eq k k₀);
      }

  kept_cleared : (q : Sets M) → Kept none Fine q → Kept none Fine (cleared_of none q)
  kept_cleared q kept = record {
    some = λ p. kept.some (let e = length-replicate (length q.sets) (none q.wide) in omega arith);
    fine = λ k. rw (get_or_none (length q.sets) k (none q.wide)) (laws.starts q.wide);
  }

  only_next : (q : Sets M) (x y : ℕ) → Kept none Fine q → held y (held_in lines none (next_of step none q x) (set_of q.slog x)) ≡ true → (y ≡ x) ⊎ (held y (held_in lines none q (set_of q.slog x)) ≡ true)
  only_next q x y kept h =
      let k₀ = set_of q.slog x in
      ⊎_elim
      (λ (l : k₀ < length q.sets). laws.only q.wide x y (at none q k₀) (kept.some (omega arith)) (kept.fine k₀) (rw (at_next q x l) at h))
      (λ (l : length q.sets ≤ k₀). inr (rw (at_past q x k₀ l) at h))
      (cases_lt k₀ (length q.sets))

  pub sets_laws : {P R : Type 0} (model : ℕ → R → M) (slog wide count : P → ℕ) (rows : P → List R)
      → Laws (λ p. Ready model Fine (slog p) (wide p) (count p) (rows p)) (λ p. sets_of model (slog p) (wide p) (count p) (rows p)) (λ q. q.slog) (λ q. q.wide) (held_in lines none) (next_of step none) (cleared_of none) (Kept none Fine)
  sets_laws model slog wide count rows = record {
    sound = λ p. kept_rows model (slog p) (wide p) (count p) (rows p);
    stays = kept_next;
    clears = kept_cleared;
    apart = λ q k h. laws.apart q.wide (at none q k) (h.fine k);
    fits = λ q k h. laws.fits q.wide (at none q k) (h.fine k);
    only = only_next;
    others = λ q x k ne. ap lines (get_or-set_other q.sets (set_of q.slog x) k _ (none q.wide) ne);
    nothing = λ q k. ap lines (get_or_none (length q.sets) k (none q.wide)) ∙ laws.nothing q.wide;
    shape = λ q x. (refl, refl);
    reshape = λ q. (refl, refl);
  }

  idle_sets : (s w : ℕ) (es : List Event) → length (state_after (next_of step none) (cleared_of none) (opened none s w 0) es).sets ≡ 0
  idle_sets s w [] = refl
  idle_sets s w (told x ∷ es) = length-set _ _ _ ∙ idle_sets s w es
  idle_sets s w (untold x ∷ es) = idle_sets s w es
  idle_sets s w (emptied ∷ es) = length-replicate _ _ ∙ idle_sets s w es

  pub idle : Idle lines step none
  idle s w k es =
      let q = state_after (next_of step none) (cleared_of none) (opened none s w 0) es in
      let e = idle_sets s w es in
      ap lines (get_or_past q.sets k (none q.wide) (omega (arith, e))) ∙ laws.nothing q.wide

-- ---- each set by itself

module _ {M : Type 0} (step : ℕ → ℕ → M → M) (none : ℕ → M) (s w : ℕ) where
  abbrev run : List Event → Sets M
  run es = state_after (next_of step none) (cleared_of none) (opened none s w (2 ^ s)) es

  shaped : (es : List Event) → ((run es).slog ≡ s) × ((run es).wide ≡ w) × (length (run es).sets ≡ 2 ^ s)
  shaped [] = (refl, refl, length-replicate _ _)
  shaped (told x ∷ es) = let a = shaped es in (a.0, a.1, length-set _ _ _ ∙ a.2)
  shaped (untold x ∷ es) = shaped es
  shaped (emptied ∷ es) = let a = shaped es in (a.0, a.1, length-replicate _ _ ∙ a.2)

  pub set_is : (k : ℕ) (es : List Event) → k < 2 ^ s → at none (run es) k ≡ row_after step none w (told_of s k es)
  set_is k [] l = get_or_none (2 ^ s) k (none w)
  set_is k (untold x ∷ es) l = set_is k es l
  set_is k (emptied ∷ es) l = get_or_none (length (run es).sets) k (none (run es).wide) ∙ ap none (shaped es).1
  set_is k (told x ∷ es) l =
      let rec = set_is k es l in
      let a = shaped es in
      let q = run es in
      ⊎_elim
      (λ (t : eqb k (set_of s x) ≡ true).
      let e : set_of q.slog x ≡ k = ap (λ z. set_of z x) a.0 ∙ sym (eqb-true _ _ t) in
      let inside : k < length q.sets = let n = a.2 in omega (arith, n, l) in
      let put = get_or-set_same q.sets k (step q.wide x (at none q k)) (none q.wide) inside in
      ap (λ j. get_or (set q.sets j (step q.wide x (at none q j))) k (none q.wide)) e ∙ put
      ∙ ap (λ z. step z x (at none q k)) a.1 ∙ ap (step w x) rec ∙ sym (ap (row_after step none w) (cond-true _ _ _ t)))
      (λ (f : eqb k (set_of s x) ≡ false).
      let ne : k ≡ set_of q.slog x → ⊥ = λ e. eqb-false _ _ f (e ∙ ap (λ z. set_of z x) a.0) in
      get_or-set_other q.sets (set_of q.slog x) k _ (none q.wide) ne ∙ rec ∙ sym (ap (row_after step none w) (cond-false _ _ _ f)))
      (cases_Bool (eqb k (set_of s x)))

pub by_rows : {M : Type 0} (step : ℕ → ℕ → M → M) (none : ℕ → M) → ByRows step none
by_rows step none s w k es l = set_is step none s w k es l

lru_row : (w : ℕ) (ts : List ℕ) → row_after (λ _ x m. lru.touched x m) empty_row w ts ≡ lru.row w ts
lru_row w [] = refl
lru_row w (t ∷ ts) = ap (lru.touched t) (lru_row w ts)

pub lru_recent : LruRecent
lru_recent s w k es p l = subst (λ m. lru.MostRecent w (told_of s k es) (lines m)) (sym (set_is (λ _ x m. lru.touched x m) empty_row s w k es l ∙ lru_row w (told_of s k es))) (keeps_recent w (told_of s k es) p)

-- ---- a policy of one set

module _ (step : ℕ → List Way → List Way) (w : ℕ) where
  abbrev single : List Way → Sets (List Way)
  single m = record { slog = 0; wide = w; sets = m ∷ [] }

  abbrev by : ℕ → ℕ → List Way → List Way
  by _ x m = step x m

  only_set : (x : ℕ) → set_of 0 x ≡ 0
  only_set x = let h = mod-lt x {m = 2 ^ 0} (pow_pos 0) in omega (arith, h)

  one_row : (m : List Way) (xs : List ℕ) → hits (found (λ (q : Sets (List Way)). q.slog) (held_in lines empty_row)) (next_of by empty_row) (single m) xs ≡ row_hits step m xs
  one_row m [] = refl
  one_row m (x ∷ xs) =
      let run : Sets (List Way) → ℕ = λ q. hits (found (λ (r : Sets (List Way)). r.slog) (held_in lines empty_row)) (next_of by empty_row) q xs in
      let hit : held x (held_in lines empty_row (single m) (set_of 0 x)) ≡ held x (lines m) = ap (λ k. held x (held_in lines empty_row (single m) k)) (only_set x) in
      let to : next_of by empty_row (single m) x ≡ single (step x m) = ap (λ k. of_sets 0 w (set (m ∷ []) k (step x (at empty_row (single m) k)))) (only_set x) in
      ap (λ b. tally b + run (next_of by empty_row (single m) x)) hit ∙ ap (λ q. tally (held x (lines m)) + run q) to ∙ ap (λ n. tally (held x (lines m)) + n) (one_row (step x m) xs)

pub one_set : OneSetIsOneRow
one_set w xs = record { by_lru = one_row lru.touched w (empty_row w) xs; by_srrip = one_row srrip.touched w (empty_row w) xs }

-- ---- the program's steps

module _ {R M : Type 0} (model : ℕ → R → M) (step : ℕ → ℕ → M → M) (none : ℕ → M) (s w n x : ℕ) (rows : List R) (long : n ≤ length rows) (all : n ≡ 2 ^ s) where
  abbrev q₀ : Sets M
  q₀ = sets_of model s w n rows

  place : x % 2 ^ s < n
  place = subst (λ k. x % 2 ^ s < k) (sym all) (mod-lt x {m = 2 ^ s} (pow_pos s))

  -- the row of the line's set stands for that set
  pub set_at : (k : ℕ) (r : R) → k ≡ x % 2 ^ s → r ≡ get_or rows k r → at none q₀ (set_of s x) ≡ model w r
  set_at k r e h =
      let inside : x % 2 ^ s < length (take n rows) = let a = length-take-le n rows long in let b = place in omega (arith, a, b) in
      get_or-map (model w) (take n rows) (x % 2 ^ s) r (none w) inside ∙ ap (model w) (get_or-take n rows (x % 2 ^ s) r place ∙ ap (λ j. get_or rows j r) (sym e) ∙ sym h)

module _ {R M : Type 0} (model : ℕ → R → M) (step : ℕ → ℕ → M → M) (none : ℕ → M) (s w n x : ℕ) (rows : List R) (long : n ≤ length rows) (all : n ≡ 2 ^ s) where
  pub moves : (k : ℕ) (r t : R) → k ≡ x % 2 ^ s → r ≡ get_or rows k r → model w t ≡ step w x (model w r) → sets_of model s w n (set rows k t) ≡ next_of step none (sets_of model s w n rows) x
  moves k r t e h m =
      ap (of_sets s w) (ap (map (model w)) (take_set n k rows t) ∙ map-set (model w) (take n rows) k t
      ∙ ap (set (map (model w) (take n rows)) k) (m ∙ ap (step w x) (sym (set_at model step none s w n x rows long all k r e h)))
      ∙ ap (λ j. set (map (model w) (take n rows)) j (step w x (at none (sets_of model s w n rows) (set_of s x)))) e)

-- ---- clearing

-- the first i rows are empty
abbrev pub Blank : {R M : Type 0} → (ℕ → R → M) → (ℕ → M) → ℕ → List R → Type 0
Blank {R} model none i rows = (k : ℕ) (d : R) (w : ℕ) → k < i → w ≤ 16 → model w (get_or rows k d) ≡ none w

map_blank : {R M : Type 0} (f : R → M) (m : M) (rows : List R) → ((k : ℕ) (d : R) → k < length rows → f (get_or rows k d) ≡ m) → map f rows ≡ replicate (length rows) m
map_blank f m [] h = refl
map_blank f m (r ∷ rs) h = ap (λ k. k ∷ map f rs) (h 0 r (omega arith)) ∙ ap (λ k. m ∷ k) (map_blank f m rs (λ i d j. h (suc i) d (suc-le-suc j)))

-- the first n rows are empty, and the rest as before
module _ {R M : Type 0} (model : ℕ → R → M) (none : ℕ → M) (s w n : ℕ) (rows rest : List R) (all : length rows ≡ n) (few : 0 < n → w ≤ 16) (blank : Blank model none (length rows) rows) where
  pub clear_opened : sets_of model s w n (rows ++ rest) ≡ opened none s w n
  clear_opened =
      let front : take n (rows ++ rest) ≡ rows = ap (λ k. take k (rows ++ rest)) (sym all) ∙ take-append_seam rows rest in
      let each : map (model w) rows ≡ replicate (length rows) (none w) = map_blank (model w) (none w) rows (λ k d l. blank k d w l (few (omega arith))) in
      ap (of_sets s w) (ap (map (model w)) front ∙ each ∙ ap (λ k. replicate k (none w)) all)

  pub clear_moves : (was : List R) → n ≤ length was → sets_of model s w n (rows ++ rest) ≡ cleared_of none (sets_of model s w n was)
  clear_moves was long = clear_opened ∙ ap (λ k. of_sets s w (replicate k (none w))) (sym (length-map (take n was) (model w) ∙ length-take-le n was long))

  pub clear_ready : {lines : M → List ℕ} {step : ℕ → ℕ → M → M} {Fine : ℕ → M → Type 0} (laws : RowLaws lines step none Fine) → (0 < n → n ≡ 2 ^ s) → (0 < n → 0 < w) → Ready model Fine s w n (rows ++ rest)
  clear_ready {Fine = Fine} laws pow some =
      let long = length-append rows rest in
      record {
        long = omega (arith, long, all);
        all = pow;
        some = some;
        few = few;
        fine = λ k d l.
            let inside : k < length rows = omega (arith, l, all) in
            subst (Fine w) (sym (ap (model w) (get_or_append_left rows rest d k inside) ∙ blank k d w inside (few (omega arith)))) (laws.starts w);
      }

-- LRU from a state of the program, emptied
pub recent_from : {R : Type 0} (model : ℕ → R → List Way) (Fine : ℕ → List Way → Type 0) (s w n : ℕ) (rows : List R) → Ready model Fine s w n rows → (k : ℕ) (es : List Event) → k < length (sets_of model s w n rows).sets
    → lru.MostRecent w (told_of s k es) (held_in lines empty_row (state_after lru_next (cleared_of empty_row) (cleared_of empty_row (sets_of model s w n rows)) es) k)
recent_from model Fine s w n rows h k es l =
    let len : length (sets_of model s w n rows).sets ≡ n = length-map (take n rows) (model w) ∙ length-take-le n rows h.long in
    let all : length (sets_of model s w n rows).sets ≡ 2 ^ s = len ∙ h.all (omega (arith, len, l)) in
    subst (λ j. lru.MostRecent w (told_of s k es) (held_in lines empty_row (state_after lru_next (cleared_of empty_row) (opened empty_row s w j) es) k)) (sym all)
    (lru_recent s w k es (h.some (omega (arith, len, l))) (subst (λ j. k < j) all l))
