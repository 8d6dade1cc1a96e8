-- The lines of the sets, one after another.
use Rattle.std.proofs.Common.{◌≡◌, ℕ, zero, suc, ◌+◌, ◌^◌, ◌<◌, ◌≤◌, List, [], ◌∷◌, ◌++◌, length, get_or, take, Result, codes, decimal, sum, sym, refl, ap, ◌∙◌, subst, append_assoc, arith}
use Rattle.std.specs.List.{flat_map}
use Rattle.std.proofs.lemmas.List.{take_all, flat_map_more}
use Rattle.geometry.specs.Lines.{upward}
use Rattle.notations.specs.Formats.{grammar_of}
use Rattle.notations.specs.declared.fault.TextFault.{TextFault}
use Rattle.listing.specs.Counting.{TraceCounted}
use Rattle.listing.specs.Listing.{row_of, set_line, table, closing, Listed}
use Rattle.listing.specs.Touches.{Counted}
use Rattle.listing.specs.Trace.{ending, Traced}
use Rattle.listing.specs.declared.first.Settings.{Settings}
use Rattle.listing.proofs.Pieces.{three_pieces}
use Rattle.listing.proofs.Tallies.{upward_split}

-- the first n lines of the counts
abbrev pub rows_of : ℕ → List ℕ → List ℕ
rows_of n counts = flat_map (λ j. row_of j (get_or counts j 0)) (upward 0 n)

-- one more
pub more_rows : (s p q counts : List ℕ) (n : ℕ) → p ≡ s ++ rows_of n counts → q ≡ p ++ row_of n (get_or counts n 0) → q ≡ s ++ rows_of (n + 1) counts
more_rows s p q counts n hp hq =
    let place : 0 + n ≡ n = omega arith in
    let up : upward 0 n ++ n ∷ [] ≡ upward 0 (n + 1) = sym (upward_split 0 n 1 ∙ ap (λ m. upward 0 n ++ m ∷ []) place) in
    hq ∙ ap (λ x. x ++ row_of n (get_or counts n 0)) hp ∙ flat_map_more (λ j. row_of j (get_or counts j 0)) s (upward 0 n) n ∙ ap (λ l. s ++ flat_map (λ j. row_of j (get_or counts j 0)) l) up

joined_same : (f g : ℕ → List ℕ) (a n : ℕ) → ((j : ℕ) → a ≤ j → j < a + n → f j ≡ g j) → flat_map f (upward a n) ≡ flat_map g (upward a n)
joined_same f g a zero h = refl
joined_same f g a (suc n) h = λ i. h a (omega arith) (omega arith) i ++ joined_same f g (suc a) n (λ j low high. h j (omega arith) (omega arith)) i

-- all lines, and the one for all touches
pub whole_table : (s : ℕ) (counts taken start p q r t : List ℕ) (n all : ℕ) → Counted s counts taken → n ≡ length counts → all ≡ sum (take n counts) → p ≡ (start ++ codes "set touches\n") ++ rows_of n counts → q ≡ p ++ codes "all " → r ≡ q ++ decimal all → t ≡ r ++ 10 ∷ [] → t ≡ start ++ table s taken
unfolding table
whole_table s counts taken start p q r t n all h end total hp hq hr ht =
    let long = h.long in
    let sets : n ≡ 2 ^ s = end ∙ long in
    let touches : all ≡ length taken = total ∙ ap sum (take_all n counts (omega arith)) ∙ h.total in
    let rows : rows_of n counts ≡ flat_map (set_line s taken) (upward 0 (2 ^ s)) = ap (λ m. rows_of m counts) sets ∙ joined_same (λ j. row_of j (get_or counts j 0)) (set_line s taken) 0 (2 ^ s) (λ j low high. ap (row_of j) (h.each j (omega arith))) in
    let last = codes "all " ++ (decimal (length taken) ++ 10 ∷ []) in
    three_pieces p (codes "all ") (decimal all) (10 ∷ []) q r t hq hr ht
    ∙ (λ i. hp i ++ (codes "all " ++ (decimal (touches i) ++ 10 ∷ [])))
    ∙ ap (λ x. ((start ++ codes "set touches\n") ++ x) ++ last) rows
    ∙ ap (λ x. x ++ last) (append_assoc start (codes "set touches\n") (flat_map (set_line s taken) (upward 0 (2 ^ s))))
    ∙ append_assoc start (codes "set touches\n" ++ flat_map (set_line s taken) (upward 0 (2 ^ s))) last

-- the listing of a trace, whether it ended or was stopped
pub listed : (y x : Settings) (ls : List (List ℕ)) (n : ℕ) (before after page text : List ℕ) (r : Result (Unit {0}) TextFault) → y ≡ x → n ≡ 1 → page ≡ [] → Counted x.geometry.s before [] → ((taken : List ℕ) → Counted y.geometry.s before taken → TraceCounted y y.k taken ls (n + 1) r after) → ((taken : List ℕ) → Counted x.geometry.s after taken → text ≡ page ++ table x.geometry.s taken) → Listed x ls (text ++ closing (ending r))
listed y x ls n before after page text r same one none start h shows =
    let t : TraceCounted x x.k [] ls (n + 1) r after = subst (λ (z : Settings). (taken : List ℕ) → Counted z.geometry.s before taken → TraceCounted z z.k taken ls (n + 1) r after) same h [] start in
    let second : n + 1 ≡ 2 = omega arith in
    (t.0, ending r, subst (λ m. Traced (grammar_of x.format) x.geometry.b x.geometry.s x.k ls m [] t.0 (ending r)) second t.1, ap (λ p. p ++ closing (ending r)) (shows t.0 t.2 ∙ ap (λ p. p ++ table x.geometry.s t.0) none))
