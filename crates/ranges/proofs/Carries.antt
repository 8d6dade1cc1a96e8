-- Operations on the memory of a set, and on the list that it stands for.
use Rattle.std.proofs.Common.{◌≡◌, ℕ, zero, suc, ◌+◌, ◌-◌, ◌^◌, ◌<◌, ◌≤◌, Bool, true, ◌&&◌, nat_lt, List, [], ◌∷◌, ◌++◌, length, get_or, take, drop, set, Some, None, Option, sym, refl, ap, ◌∙◌, subst, ap₂, subst₂, append_assoc, append-nil, arith, pow_mono, length-set, drop-cons, MatchOption}
use Rattle.std.specs.List.{between}
use Rattle.std.proofs.lemmas.Bool.{and_parts, ltb-true}
use Rattle.std.proofs.lemmas.Bool.Decides.{nat_tests}
use Rattle.std.proofs.lemmas.List.{take_all, take_at, drop_all, drop_at, take_more_set}
use Rattle.summaries.specs.Algebra.{Algebra, Small, Within, ups, summary}
use Rattle.summaries.specs.Kinds.{higher, peak, both}
use Rattle.summaries.specs.Stretches.{bump}
use Rattle.trees.specs.Trees.{leaves, size}
use Rattle.ranges.specs.Occupancies.{Amounts, Sound, occupancies, recents}
use Rattle.ranges.specs.Operations.{all_below, after, reply, ending, replies, Carried}
use Rattle.summaries.specs.declared.kind.Peak.{Peak}
use Rattle.summaries.specs.declared.kind.Both.{Both}
use Rattle.trees.specs.declared.tree.Node.{Node}
use Rattle.ranges.specs.declared.operations.Operation.{Operation}
use Rattle.ranges.specs.declared.operations.Operation.TheVariants.{Push}
use Rattle.ranges.specs.declared.operations.Answer.{Answer}
use Rattle.summaries.specs.KindLaws.{peak_ups, both_summary}
use Rattle.summaries.proofs.Bumps.{length_bump}
use Rattle.ranges.proofs.OneList.{count_is}
use Rattle.ranges.proofs.Opens.{leaves_pow}

-- ---- the peak of a stretch tells whether all of it is low
abbrev below_option : ℕ → Option ℕ → Bool
below_option m None = true
below_option m (Some h) = nat_lt h m

below_higher : (m : ℕ) (x y : Option ℕ) → below_option m (higher x y) ≡ (below_option m x && below_option m y)
below_higher m None y = refl
below_higher m (Some a) None = grind (arith, nat_tests)
below_higher m (Some a) (Some b) = grind (arith, nat_tests)

below_peak : (m : ℕ) (gs : List ℕ) → below_option m (summary peak gs).highest ≡ all_below m gs
below_peak m [] = refl
below_peak m (g ∷ gs) =
    let here : (ups peak g peak.one).highest ≡ Some g = ap (λ (p : Peak). p.highest) (peak_ups g 0) ∙ ap Some (omega arith) in
    below_higher m (ups peak g peak.one).highest (summary peak gs).highest ∙ ap₂ ◌&&◌ (ap (below_option m) here) (below_peak m gs)

module _ {M : Type 0} (a : Algebra M) where
  -- a test of the peak, where there is one, is a test of each gap
  pub low_stretch : (v : Both Peak M) (p : Peak) (o : Option ℕ) (r : Bool) (gs : List ℕ) → v ≡ summary (both peak a) gs → p ≡ v.first → o ≡ p.highest → MatchOption o (r ≡ true) (λ h. r ≡ nat_lt h 16) → r ≡ all_below 16 gs
  low_stretch v p o r gs vs ps os tested =
      let is : o ≡ (summary peak gs).highest = os ∙ ap (λ (q : Peak). q.highest) (ps ∙ ap (λ (w : Both Peak M). w.first) (vs ∙ both_summary peak a gs)) in
      test o tested ∙ ap (below_option 16) is ∙ below_peak 16 gs where
        test : (o : Option ℕ) → MatchOption o (r ≡ true) (λ h. r ≡ nat_lt h 16) → r ≡ below_option 16 o
        test None h = h
        test (Some h) t = t

  pub second_summary : (v : Both Peak M) (gs : List ℕ) → v ≡ summary (both peak a) gs → v.second ≡ summary a gs
  second_summary v gs vs = ap (λ (w : Both Peak M). w.second) (vs ∙ both_summary peak a gs)

-- ---- a stretch that is low may be raised
within_raise : (from to : ℕ) (gs : List ℕ) → Within 16 gs → all_below 16 (between from to gs) ≡ true → Within 16 (bump from to gs)
within_raise from to [] w e = tt
within_raise from zero (g ∷ gs) w e = w
within_raise zero (suc to) (g ∷ gs) w e =
    let whole : suc to - 0 ≡ suc to = omega arith in
    let rest : to - 0 ≡ to = omega arith in
    let low : (nat_lt g 16 && all_below 16 (take to gs)) ≡ true = subst (λ n. all_below 16 (take n (g ∷ gs)) ≡ true) whole e in
    let both = and_parts (nat_lt g 16) (all_below 16 (take to gs)) low in
    (omega (arith, ltb-true g 16 both.0), within_raise zero to gs w.1 (subst (λ n. all_below 16 (take n gs) ≡ true) (sym rest) both.1))
within_raise (suc from) (suc to) (g ∷ gs) w e =
    let same : suc to - suc from ≡ to - from = omega arith in
    (w.0, within_raise from to gs w.1 (subst (λ n. all_below 16 (take n (drop from gs)) ≡ true) same e))

pub small_raise : (from to : ℕ) (gs : List ℕ) → Small gs → all_below 16 (between from to gs) ≡ true → Small (bump from to gs)
small_raise from to gs s e = record { few = omega (arith, s.few, length_bump from to gs); low = within_raise from to gs s.low e }

length_replies : {M : Type 0} (a : Algebra M) (k : ℕ) (os : List Operation) (gs : List ℕ) → length (replies a k os gs) ≡ length os
length_replies a k [] gs = refl
length_replies a k (o ∷ os) gs = ap suc (length_replies a k os (after k o gs))

-- a set that is not full has few gaps
pub few_gaps : (k n : ℕ) → k ≤ 16 → n < leaves k → n < 2 ^ 20
few_gaps k n low free = omega (arith, free, leaves_pow k, pow_mono low)

-- ---- a list of operations on the list `start`: what was done, which left gs, and what is still to come, is what the list gives
pub record Going {M : Type 0} (a : Algebra M) (k i : ℕ) (os : List Operation) (start gs : List ℕ) (replied : List (Answer M)) : Type 0 where
  pub within : i ≤ length os
  pub long : length replied ≡ length os
  pub ends : ending k (drop i os) gs ≡ ending k os start
  pub answers : take i replied ++ replies a k (drop i os) gs ≡ replies a k os start

module _ {M : Type 0} {a : Algebra M} {k : ℕ} {os : List Operation} {start : List ℕ} where
  pub going_none : {replied : List (Answer M)} → length replied ≡ length os → Going a k 0 os start start replied
  going_none long = record { within = omega arith; long = long; ends = refl; answers = refl }

  pub going_more : {i : ℕ} {o : Operation} {r : Answer M} {gs gs_after : List ℕ} {replied : List (Answer M)}
      → Going a k i os start gs replied → i < length os → get_or os i Push ≡ o → gs_after ≡ after k o gs → r ≡ reply a k o gs → Going a k (i + 1) os start gs_after (set replied i r)
  going_more {i} {o} {r} {gs} {gs_after} {replied} g lt at gaps_are answer_is =
      let next : suc i ≡ i + 1 = omega arith in
      let cut : drop i os ≡ o ∷ drop (i + 1) os = drop-cons os i Push lt ∙ ap₂ ◌∷◌ at (ap (λ j. drop j os) next) in
      record {
        within = omega arith;
        long = length-set replied i r ∙ g.long;
        ends = ap (ending k (drop (i + 1) os)) gaps_are ∙ ap (λ xs. ending k xs gs) (sym cut) ∙ g.ends;
        answers = ap₂ (λ xs ys. xs ++ replies a k (drop (i + 1) os) ys) (take_more_set replied i r (omega (arith, g.long))) gaps_are
            ∙ append_assoc (take i replied) (r ∷ []) (replies a k (drop (i + 1) os) (after k o gs))
            ∙ ap (λ x. take i replied ++ (x ∷ replies a k (drop (i + 1) os) (after k o gs))) answer_is
            ∙ ap (λ xs. take i replied ++ replies a k xs gs) (sym cut) ∙ g.answers;
      }

  pub going_all : {i : ℕ} {gs : List ℕ} {replied : List (Answer M)} → Going a k i os start gs replied → length os ≤ i → (gs ≡ ending k os start) × (replied ≡ replies a k os start)
  going_all {i} {gs} {replied} g past =
      let done = drop_all i os past in (
        ap (λ xs. ending k xs gs) (sym done) ∙ g.ends,
        sym (take_all i replied (omega (arith, g.long))) ∙ sym (append-nil (take i replied)) ∙ ap (λ xs. take i replied ++ replies a k xs gs) (sym done) ∙ g.answers,
      )

module _ {M : Type 0} {a : Algebra M} {k : ℕ} {os : List Operation} where
  -- what the set holds at the end, said of the whole columns: nodes_held and recent_held stand in their fronts when the loans are over
  pub carried : {n s m r h i : ℕ} {start : List ℕ} {nodes nodes_held nodes_front nodes_rest : List (Node (Both Peak M))} {recent recent_held recent_front recent_rest : List ℕ} {replied replied_front : List (Answer M)}
      → Amounts k s m r → m ≤ length nodes → r ≤ length recent → length os ≤ length replied → nodes_rest ≡ drop m nodes → recent_rest ≡ drop r recent
      → h ≡ i → i ≡ k → start ≡ [] → nodes_held ≡ nodes_front → recent_held ≡ recent_front
      → Sound (both peak a) h n nodes_held recent_held → occupancies h n nodes_held recent_held ≡ ending i os start → replied_front ≡ replies a i os start
      → Carried a k n os nodes (nodes_front ++ nodes_rest) recent (recent_front ++ recent_rest) replied (replied_front ++ drop (length os) replied)
  carried {n} {s} {m} {r} {h} {i} {start} {nodes} {nodes_held} {nodes_front} {nodes_rest} {recent} {recent_held} {recent_front} {recent_rest} {replied} {replied_front}
      am enough_nodes enough_recent enough_replied nodes_end recent_end same high empty nodes_is recent_is held held_gaps held_answers =
      let sound : Sound (both peak a) k n nodes_front recent_front = rw (← high, ← same, ← nodes_is, ← recent_is) held in
      let gaps_are : occupancies k n nodes_front recent_front ≡ ending k os [] =
      ap₂ (occupancies k n) (sym nodes_is) (sym recent_is) ∙ ap (λ j. occupancies j n nodes_held recent_held) (sym (same ∙ high)) ∙ held_gaps ∙ ap₂ (λ j gs. ending j os gs) high empty in
      let answers_are : replied_front ≡ replies a k os [] = held_answers ∙ ap₂ (λ j gs. replies a j os gs) high empty in
      let n_front : take (size k) (nodes_front ++ nodes_rest) ≡ nodes_front = take_at nodes_front nodes_rest (size k) sound.long in
      let r_front : take (recents k) (recent_front ++ recent_rest) ≡ recent_front = take_at recent_front recent_rest (recents k) sound.wide in
      let long : length replied_front ≡ length os = ap length answers_are ∙ length_replies a k os [] in
      record {
        enough = record { low = am.low; tree = omega (arith, am.nodes_are); array = subst (λ i. i ≤ length recent) am.recent_are enough_recent; room = enough_replied };
        count = count_is sound ∙ ap length gaps_are;
        sound = subst₂ (Sound (both peak a) k n) (sym n_front) (sym r_front) sound;
        gaps = ap₂ (occupancies k n) n_front r_front ∙ gaps_are;
        answered = take_at replied_front (drop (length os) replied) (length os) long ∙ answers_are;
        nodes_kept = drop_at nodes_front nodes_rest (size k) sound.long ∙ nodes_end ∙ ap (λ i. drop i nodes) am.nodes_are;
        recent_kept = drop_at recent_front recent_rest (recents k) sound.wide ∙ recent_end ∙ ap (λ i. drop i recent) am.recent_are;
        replied_kept = drop_at replied_front (drop (length os) replied) (length os) long;
      }
