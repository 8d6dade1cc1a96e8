-- What a walk along a chain knows, what the entries say of a line, and what a turn that is noted leaves.
use Rattle.std.proofs.Common.{◌≡◌, ℕ, zero, suc, ◌+◌, ◌<◌, ◌≤◌, eqb, ◌≢◌, List, length, get_or, take, set, length-take, Some, None, Option, sym, refl, ap, ◌∙◌, ⊎_elim, add-one, arith}
use mathlib.Core.Path.{fun_ext}
use Rattle.std.proofs.lemmas.Grind.{common_steps}
use Rattle.std.proofs.lemmas.Bool.{cases_eq}
use Rattle.std.proofs.lemmas.Bool.Decides.{nat_tests}
use Rattle.std.proofs.lemmas.List.{get_or-set_same, get_or-set_other, get_or-take, length-set}
use Rattle.std.specs.Map.{update}
use Rattle.lastuse.specs.declared.Entry.{Entry}
use Rattle.lastuse.specs.Chains.{chain_of, at, look, Absent, Latest, Leads, Chained}

-- a walk for line x stands before entry p: it is in the chain of x, and no later one of the first n has x
pub record Stands (es : List Entry) (m n x p : ℕ) : Type 0 where
  pub within : p < n
  pub here : chain_of (at es p).line.0 m ≡ chain_of x m
  pub newer : (k : ℕ) → p < k → k < n → (at es k).line.0 ≢ x

-- the walk goes on at that entry; at the end of the chain no entry has x
abbrev pub Walk : List Entry → ℕ → ℕ → ℕ → Option ℕ → Type 0
Walk es m n x None = Absent es n x
Walk es m n x (Some p) = Stands es m n x p

-- how many entries the walk may still meet
abbrev pub ahead : Option ℕ → ℕ
ahead None = 0
ahead (Some p) = suc p

-- what a walk finds is what the entries say
pub look_latest : (es : List Entry) (n x i : ℕ) → Latest es n x i → look es n x ≡ Some (at es i).last
look_latest es zero x i l = absurd (let a = l.within in omega arith)
look_latest es (suc n) x i l =
    let shorter : i < n → Latest es n x i = λ b. record { within = b; here = l.here; newer = λ k a b. l.newer k a (omega arith) } in
    grind (arith, nat_tests, look_latest es n x i)

pub look_absent : (es : List Entry) (n x : ℕ) → Absent es n x → look es n x ≡ None
look_absent es zero x h = refl
look_absent es (suc n) x h = grind (arith, nat_tests, look_absent es n x (λ k l. h k (omega arith)))

-- entries that agree below n say the same
look_same : (es fs : List Entry) (n : ℕ) → ((k : ℕ) → k < n → at fs k ≡ at es k) → (y : ℕ) → look fs n y ≡ look es n y
look_same es fs zero h y = refl
look_same es fs (suc n) h y = grind (arith, nat_tests, look_same es fs n (λ k l. h k (omega arith)) y)

-- the first n of them, cut off
pub look_front : (es : List Entry) (n x : ℕ) → n ≤ length es → look (take n es) (length (take n es)) x ≡ look es n x
look_front es n x r =
    let long = length-take n es in
    let all : length (take n es) ≡ n = omega arith in
    ap (λ m. look (take n es) m x) all ∙ look_same es (take n es) n (λ k b. get_or-take n es k _ b) x

-- another turn in the latest entry of x
look_set : (es fs : List Entry) (n x t i : ℕ) → Latest es n x i → ((k : ℕ) → k ≢ i → at fs k ≡ at es k) → (at fs i).line.0 ≡ x → (at fs i).last ≡ t
    → (y : ℕ) → look fs n y ≡ update eqb (look es n) x (Some t) y
look_set es fs zero x t i l o el et y = absurd (let a = l.within in omega arith)
look_set es fs (suc n) x t i l o el et y =
    let shorter : i < n → Latest es n x i = λ b. record { within = b; here = l.here; newer = λ k a b. l.newer k a (omega arith) } in
    grind (arith, nat_tests, look_same es fs n, look_set es fs n x t i)

-- one more entry
look_push : (es fs : List Entry) (n x t : ℕ) → ((k : ℕ) → k ≢ n → at fs k ≡ at es k) → (at fs n).line.0 ≡ x → (at fs n).last ≡ t
    → (y : ℕ) → look fs (n + 1) y ≡ update eqb (look es n) x (Some t) y
look_push es fs n x t o el et y = rw add-one (grind (arith, nat_tests, look_same es fs n (λ k b. o k (omega arith)) y))

-- a link stays right where the lines stay
leads_same : (es fs : List Entry) (m h n : ℕ) (o : Option ℕ) → ((k : ℕ) → k < n → (at fs k).line.0 ≡ (at es k).line.0) → Leads es m h n o → Leads fs m h n o
leads_same es fs m h n None s l = grind (arith, common_steps)
leads_same es fs m h n (Some p) s l = grind (arith, common_steps)

-- and past an entry of another chain
leads_wider : (es : List Entry) (m h n : ℕ) (o : Option ℕ) → chain_of (at es n).line.0 m ≢ h → Leads es m h n o → Leads es m h (n + 1) o
leads_wider es m h n None ne l = grind (arith, common_steps)
leads_wider es m h n (Some p) ne l = grind (arith, common_steps)

-- while an entry of the chain is what the chain's head now leads to
leads_here : (es : List Entry) (m h n : ℕ) → chain_of (at es n).line.0 m ≡ h → Leads es m h (n + 1) (Some n)
leads_here es m h n e = grind (arith, common_steps)

-- a turn of line x is noted in its entry, where it has one, which changes neither a line nor a link, and else in a new one
pub set_at : (es : List Entry) (n x i t : ℕ) → n ≤ length es → Latest es n x i → (hs : List (Option ℕ)) → Chained hs es n
    → let fs = set es i (record { line = record { 0 = x }; last = t; next = (at es i).next }) in Chained hs fs n × (look fs n ≡ update eqb (look es n) x (Some t))
set_at es n x i t r l hs c =
    let e : Entry = record { line = record { 0 = x }; last = t; next = (at es i).next } in
    let w = l.within in
    let here : at (set es i e) i ≡ e = get_or-set_same es i e _ (omega arith) in
    let other : (k : ℕ) → k ≢ i → at (set es i e) k ≡ at es k = λ k ne. get_or-set_other es i k e _ ne in
    let kept : (k : ℕ) → ((at (set es i e) k).line.0 ≡ (at es k).line.0) × ((at (set es i e) k).next ≡ (at es k).next) = λ k. let f = l.here in grind (arith, here, other) in (
      record {
        room = omega (arith, length-set es i e);
        some = c.some;
        heads = λ h b. leads_same es (set es i e) (length hs) h n _ (λ k _. (kept k).0) (c.heads h b);
        nexts = λ k b. rw ((kept k).0, (kept k).1) (leads_same es (set es i e) (length hs) _ k _ (λ j _. (kept j).0) (c.nexts k b));
      },
      fun_ext (look_set es (set es i e) n x t i l other (ap (λ f. f.line.0) here) (ap (λ f. f.last) here)),
    )

pub push_at : (es : List Entry) (n x t s : ℕ) → n < length es → (hs : List (Option ℕ)) → s ≡ chain_of x (length hs) → s < length hs → Chained hs es n
    → let fs = set es n (record { line = record { 0 = x }; last = t; next = get_or hs s None }) in Chained (set hs s (Some n)) fs (n + 1) × (look fs (n + 1) ≡ update eqb (look es n) x (Some t))
push_at es n x t s r hs s_is s_in c =
    let e : Entry = record { line = record { 0 = x }; last = t; next = get_or hs s None } in
    let here : at (set es n e) n ≡ e = get_or-set_same es n e _ r in
    let other : (k : ℕ) → k ≢ n → at (set es n e) k ≡ at es k = λ k ne. get_or-set_other es n k e _ ne in
    let many = length-set hs s (Some n) in
    let kept : (j k : ℕ) → j ≤ n → k < j → (at (set es n e) k).line.0 ≡ (at es k).line.0 = λ j k a b. ap (λ f. f.line.0) (other k (omega arith)) in (
      record {
        room = omega (arith, length-set es n e);
        some = omega arith;
        heads = rw many (λ h b. ⊎_elim
            (λ (same : h ≡ s). rw (same, get_or-set_same hs s (Some n) None s_in) (leads_here (set es n e) (length hs) s n (rw here (sym s_is))))
            (λ apart. rw (get_or-set_other hs s h (Some n) None apart)
            (leads_wider (set es n e) (length hs) h n _ (rw here (λ f. apart (sym f ∙ sym s_is))) (leads_same es (set es n e) (length hs) h n _ (λ k. kept n k (omega arith)) (c.heads h b))))
            (cases_eq h s));
        nexts = rw many (λ k b. ⊎_elim
            (λ (same : k ≡ n). rw (same, here, ← s_is) (leads_same es (set es n e) (length hs) s n _ (λ j. kept n j (omega arith)) (c.heads s s_in)))
            (λ apart. rw (other k apart) (leads_same es (set es n e) (length hs) _ k _ (λ j. kept k j (omega arith)) (c.nexts k (omega arith))))
            (cases_eq k n));
      },
      fun_ext (look_push es (set es n e) n x t other (ap (λ f. f.line.0) here) (ap (λ f. f.last) here)),
    )
