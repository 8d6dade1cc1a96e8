-- Misfits of any notation, from how a line can go on; and that a line has one meaning at most where it has one record at most.
use Rattle.std.specs.Prelude.{◌≡◌, ℕ, ◌+◌, ◌<◌, ◌≤◌, List, [], ◌∷◌, ◌++◌, length, take, drop, refl}
use Rattle.std.proofs.Common.{sym, ap, subst, ◌∙◌, inl, inr, ⊎_elim, append_assoc, append-nil, arith, length-append, take-append-drop}
use Rattle.std.proofs.lemmas.List.{take_at, take-take, length_push}
use Rattle.std.proofs.lemmas.Bool.{cases_lt}
use Rattle.geometry.specs.Lines.{Sized, Within}
use Rattle.geometry.specs.declared.refusal.Refusal.{Refusal}
use Rattle.geometry.specs.declared.refusal.Refusal.TheVariants.{UnknownKind, Misfit, Size, PastMemory}
use Rattle.notations.specs.Grammar.{Reading, Grammar, Begins, Misfits, Refuses, skipped, told, refused, One}

-- nothing goes on like this: not where the line ends, nor with its next byte
abbrev pub Dies : (List ℕ → Type 0) → List ℕ → Type 0
Dies S [] = S [] → ⊥
Dies S (b ∷ bs) = (rest : List ℕ) → S (b ∷ rest) → ⊥

dies_whole : (S : List ℕ → Type 0) (r : List ℕ) → Dies S r → S r → ⊥
dies_whole S [] dies s = dies s
dies_whole S (b ∷ bs) dies s = dies bs s

-- After p a record goes on by S, which r does not: the misfit stands where r begins.
pub misfits : (G : Grammar) (S : List ℕ → Type 0) (p r : List ℕ) → Begins G p → ((rest : List ℕ) (t : Reading) → G.records (p ++ rest) t → S rest) → Dies S r → Misfits G (p ++ r) (length p)
misfits G S p r begins reach dies = record {
  within = simp length-append (omega arith);
  left = subst (Begins G) (sym (take_at p r (length p) refl)) begins;
  here = next r dies;
  none = λ t h. dies_whole S r dies (reach r t h);
}
  where
    next : (r : List ℕ) → Dies S r → length p < length (p ++ r) → Begins G (take (length p + 1) (p ++ r)) → ⊥
    next [] d low b = let e = ap length (append-nil p) in absurd (omega arith)
    next (y ∷ ys) d low b =
        let front : take (length p + 1) (p ++ y ∷ ys) ≡ p ++ y ∷ [] = ap (take (length p + 1)) (sym (append_assoc p (y ∷ []) ys)) ∙ take_at (p ++ y ∷ []) ys (length p + 1) (length_push p y) in
        let b' : Begins G (p ++ y ∷ []) = subst (Begins G) front b in
        d b'.0 (reach (y ∷ b'.0) b'.1 (subst (λ l. G.records l b'.1) (append_assoc p (y ∷ []) b'.0) b'.2))

pub misfits_at : (G : Grammar) (line p r : List ℕ) (i : ℕ) → line ≡ p ++ r → length p ≡ i → Misfits G (p ++ r) (length p) → Misfits G line i
misfits_at G line p r i e long m = subst (λ l. Misfits G l i) (sym e) (subst (Misfits G (p ++ r)) long m)

-- The two refusals of a misfit.
pub unknown_kind : (G : Grammar) (line p r : List ℕ) (i : ℕ) → line ≡ p ++ r → length p ≡ i → Misfits G (p ++ r) (length p) → G.lead p → Refuses G line UnknownKind (i + 1)
unknown_kind G line p r i e long m lead = inl (refl, (i, refl, misfits_at G line p r i e long m, subst G.lead (sym (ap (take i) e ∙ take_at p r i long)) lead))

pub misfit : (G : Grammar) (line p r : List ℕ) (i : ℕ) → line ≡ p ++ r → length p ≡ i → Misfits G (p ++ r) (length p) → (G.lead p → ⊥) → Refuses G line Misfit (i + 1)
misfit G line p r i e long m no_lead = inr (inl (refl, (i, refl, misfits_at G line p r i e long m, λ l. no_lead (subst G.lead (ap (take i) e ∙ take_at p r i long) l))))

shorter : (G : Grammar) (bs : List ℕ) (n m : ℕ) → n ≤ m → Begins G (take m bs) → Begins G (take n bs)
shorter G bs n m low b =
    let front : take n bs ++ drop n (take m bs) ≡ take m bs = ap (λ l. l ++ drop n (take m bs)) (sym (take-take n m bs low)) ∙ take-append-drop n (take m bs) in
    (drop n (take m bs) ++ b.0, b.1, subst (λ l. G.records l b.1) (sym (ap (λ l. l ++ b.0) front) ∙ append_assoc (take n bs) (drop n (take m bs)) b.0) b.2)

-- the leftmost misfit is one
one_misfit : (G : Grammar) (line : List ℕ) (i j : ℕ) → Misfits G line i → Misfits G line j → i ≡ j
one_misfit G line i j m n =
    let before : (a b : ℕ) → Misfits G line a → Misfits G line b → a < b → ⊥ = λ a b p q low. p.here (omega (arith, q.within)) (shorter G line (a + 1) b (omega arith) q.left) in
    ⊎_elim (λ low. absurd (before i j m n low)) (λ high. ⊎_elim (λ low. absurd (before j i n m low)) (λ low. omega arith) (cases_lt j i)) (cases_lt i j)

-- A refusal is one, if a record is.
one_refusal : (G : Grammar) (line : List ℕ) → ((t u : Reading) → G.records line t → G.records line u → t ≡ u) → (c d : Refusal) (i j : ℕ) → Refuses G line c i → Refuses G line d j → refused c i ≡ refused d j
one_refusal G line one c d i j p q =
    ⊎_elim
    (λ u. ⊎_elim (λ v. placed UnknownKind u.0 v.0 u.1.1 v.1.1 (one_misfit G line _ _ u.1.2 v.1.2))
    (⊎_elim (λ v. absurd (v.1.3 (moved (one_misfit G line _ _ u.1.2 v.1.2) u.1.3)))
    (⊎_elim (λ v. absurd (u.1.2.none v.1.0 v.1.1)) (λ v. absurd (u.1.2.none v.1.0 v.1.1)))) q)
    (⊎_elim
    (λ u. ⊎_elim (λ v. absurd (u.1.3 (moved (one_misfit G line _ _ v.1.2 u.1.2) v.1.3)))
    (⊎_elim (λ v. placed Misfit u.0 v.0 u.1.1 v.1.1 (one_misfit G line _ _ u.1.2 v.1.2))
    (⊎_elim (λ v. absurd (u.1.2.none v.1.0 v.1.1)) (λ v. absurd (u.1.2.none v.1.0 v.1.1)))) q)
    (⊎_elim
    (λ u. ⊎_elim (λ v. absurd (v.1.2.none u.1.0 u.1.1))
    (⊎_elim (λ v. absurd (v.1.2.none u.1.0 u.1.1))
    (⊎_elim (λ v. let same = one _ _ u.1.1 v.1.1 in named Size u.0 v.0 (u.1.3 ∙ ap (λ (t : Reading). t.column + length t.digits + 1) same ∙ sym v.1.3))
    (λ v. let same = one _ _ v.1.1 u.1.1 in absurd (u.1.2 (subst (λ (t : Reading). Sized t.size) same v.1.2))))) q)
    (λ u. ⊎_elim (λ v. absurd (v.1.2.none u.1.0 u.1.1))
    (⊎_elim (λ v. absurd (v.1.2.none u.1.0 u.1.1))
    (⊎_elim (λ v. let same = one _ _ u.1.1 v.1.1 in absurd (v.1.2 (subst (λ (t : Reading). Sized t.size) same u.1.2)))
    (λ v. let same = one _ _ u.1.1 v.1.1 in named PastMemory u.0 v.0 (u.1.4 ∙ ap (λ (t : Reading). t.column) same ∙ sym v.1.4)))) q)))
    p
  where
    named : (e : Refusal) → c ≡ e → d ≡ e → i ≡ j → refused c i ≡ refused d j
    named e x y same = cc

    placed : (e : Refusal) → c ≡ e → d ≡ e → {m n : ℕ} → i ≡ m + 1 → j ≡ n + 1 → m ≡ n → refused c i ≡ refused d j
    placed e x y {m} {n} a b same = named e x y (omega arith)

    moved : {m n : ℕ} → m ≡ n → G.lead (take m line) → G.lead (take n line)
    moved same h = subst (λ k. G.lead (take k line)) same h

-- a record that can be accessed is not refused
no_refusal : (G : Grammar) (line : List ℕ) → ((t u : Reading) → G.records line t → G.records line u → t ≡ u) → (t : Reading) (c : Refusal) (i : ℕ) → G.records line t → Sized t.size → Within t.address t.size → Refuses G line c i → ⊥
no_refusal G line one t c i h sized within p =
    ⊎_elim (λ u. u.1.2.none t h)
    (⊎_elim (λ u. u.1.2.none t h)
    (⊎_elim (λ u. u.1.2 (subst (λ (v : Reading). Sized v.size) (one t _ h u.1.1) sized))
    (λ u. u.1.3 (subst (λ (v : Reading). Within v.address v.size) (one t _ h u.1.1) within)))) p

pub one_meaning : (G : Grammar) → ((line : List ℕ) (t u : Reading) → G.records line t → G.records line u → t ≡ u) → One G
one_meaning G one line skipped skipped p q = refl
one_meaning G one line skipped (told u) p q = absurd (q.0 p)
one_meaning G one line skipped (refused d j) p q = absurd (q.0 p)
one_meaning G one line (told t) skipped p q = absurd (p.0 q)
one_meaning G one line (told t) (told u) p q = ap told (one line t u p.1 q.1)
one_meaning G one line (told t) (refused d j) p q = absurd (no_refusal G line (one line) t d j p.1 p.2 p.3 q.1)
one_meaning G one line (refused c i) skipped p q = absurd (p.0 q)
one_meaning G one line (refused c i) (told u) p q = absurd (no_refusal G line (one line) u c i q.1 q.2 q.3 p.1)
one_meaning G one line (refused c i) (refused d j) p q = one_refusal G line (one line) c d i j p.1 q.1
