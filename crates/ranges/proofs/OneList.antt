-- The steps on the memory of a set, and what they are on the one list of its occupancies. The places in the tree and in the array stand here by the
-- names that the code gives them: o gaps stand in the tree, and a stretch of the array goes from start up to stop.
use Rattle.std.proofs.Common.{◌≡◌, ℕ, ◌+◌, ◌-◌, ◌^◌, ◌<◌, ◌≤◌, min, ◌≢◌, List, [], ◌∷◌, ◌++◌, length, take, drop, set, refl, sym, ap, ◌∙◌, subst, ap₂, subst₂, inl, inr, append_assoc, arith, length-append, length-set, length-take}
use Rattle.std.proofs.Math.Seq.{take-add}
use Rattle.std.specs.List.{between}
use Rattle.std.proofs.lemmas.List.{take-take, take_more_set}
use Rattle.summaries.specs.Algebra.{Algebra, Laws, Small, Within, Fit, summary}
use Rattle.summaries.specs.Stretches.{bump}
use Rattle.trees.specs.Trees.{leaves, gaps, Tree}
use Rattle.ranges.specs.Occupancies.{Sound, occupancies, older}
use Rattle.trees.specs.declared.tree.Node.{Node}
use Rattle.summaries.proofs.Sums.{summary_append}
use Rattle.summaries.proofs.Rows.{between_append, between_none, small_left, small_right, small_between, within_take}
use Rattle.summaries.proofs.Bumps.{bump_none, bump_append, bump_clip, length_bump}
use Rattle.trees.proofs.Trees.{gaps_long}
use Rattle.ranges.proofs.Recents.{bump_take, between_take, between_clip}

-- ---- how many stand where
pub record Shape {K : Type 0} (a : Algebra K) (k n : ℕ) (nodes : List (Node K)) (recent : List ℕ) : Type 0 where
  pub below : older n ≤ n
  pub tree : Tree a k (older n) nodes
  pub few : n - older n ≤ 127
  pub older_long : length (gaps k (older n) nodes) ≡ older n
  pub newer_long : length (take (n - older n) recent) ≡ n - older n
  pub reach : n - older n ≤ length recent
  pub all_long : length (occupancies k n nodes recent) ≡ n

module _ {K : Type 0} {a : Algebra K} {k n : ℕ} {nodes : List (Node K)} {recent : List ℕ} where
  pub shape : Sound a k n nodes recent → Shape a k n nodes recent
  shape s =
      let room : older n ≤ leaves k = omega (arith, s.room) in
      let tree : Tree a k (older n) nodes = record { long = s.long; room = room; good = s.good } in
      let reach : n - older n ≤ length recent = omega (arith, s.room, s.wide) in
      let newer_long : length (take (n - older n) recent) ≡ n - older n = length-take (n - older n) recent ∙ omega arith in
      record {
        below = omega arith;
        tree = tree;
        few = omega arith;
        older_long = gaps_long tree;
        newer_long = newer_long;
        reach = reach;
        all_long = length-append (gaps k (older n) nodes) (take (n - older n) recent) ∙ omega (arith, gaps_long tree, newer_long);
      }

  pub count_is : Sound a k n nodes recent → n ≡ length (occupancies k n nodes recent)
  count_is s = sym (shape s).all_long

-- the memory after a step, and the list that it stands for
pub record After {K : Type 0} (a : Algebra K) (k n : ℕ) (nodes : List (Node K)) (recent gs : List ℕ) : Type 0 where
  pub sound : Sound a k n nodes recent
  pub lists : occupancies k n nodes recent ≡ gs

-- ---- a question
pub record Asking {K : Type 0} (a : Algebra K) (fits : K → Type 0) (k n from to : ℕ) (nodes : List (Node K)) (recent : List ℕ) (o end start stop : ℕ) : Type 0 where
  pub shaped : Shape a k n nodes recent
  pub tree : Tree a k o nodes
  pub older_small : Small (gaps k o nodes)
  pub newer_small : Small (between start stop recent)
  pub none : min to n ≤ from → a.none ≡ summary a (between from to (occupancies k n nodes recent))
  pub newest : (v : K) → v ≡ summary a (between start stop recent) → o ≤ from → v ≡ summary a (between from to (occupancies k n nodes recent))
  pub joins : (u v : K) → u ≡ summary a (between from end (gaps k o nodes)) → v ≡ summary a (between start stop recent) → fits (a.join u v)
  pub sums : (u v : K) → u ≡ summary a (between from end (gaps k o nodes)) → v ≡ summary a (between start stop recent) → a.join u v ≡ summary a (between from to (occupancies k n nodes recent))

module _ {K : Type 0} {a : Algebra K} {k n : ℕ} {nodes : List (Node K)} {recent : List ℕ} where
  -- the gaps past the last are none
  clipped : Sound a k n nodes recent → (from to : ℕ) → between from to (occupancies k n nodes recent) ≡ between from (min to n) (occupancies k n nodes recent)
  clipped s from to = between_clip from to n (occupancies k n nodes recent) (omega (arith, (shape s).all_long))

  pub nothing : Sound a k n nodes recent → (from to : ℕ) {end : ℕ} → end ≡ min to n → end ≤ from → (v : K) → v ≡ a.none → v ≡ summary a (between from to (occupancies k n nodes recent))
  nothing s from to end_is le v is = is ∙ ap (summary a) (sym (clipped s from to ∙ between_none from (min to n) (occupancies k n nodes recent) (inl (omega arith))))

module _ {K : Type 0} {a : Algebra K} {k n from to : ℕ} {nodes : List (Node K)} {recent : List ℕ} where
  asking_at : (laws : Laws a) (fits : K → Type 0) (fit : Fit a fits) → Sound a k n nodes recent → Asking a fits k n from to nodes recent (older n) (min to n) (from - older n) (min to n - older n)
  asking_at laws fits fit s =
      let h = shape s in
      let o = older n in
      let e = min to n in
      let g = gaps k o nodes in
      let t = take (n - o) recent in
      let p = between from e g in
      let q = between (from - o) (e - o) recent in
      let cut : between from to (g ++ t) ≡ p ++ q =
      clipped s from to ∙ between_append from e g t ∙ ap (λ i. p ++ between (from - i) (e - i) t) h.older_long ∙ ap (◌++◌ p) (between_take (from - o) (e - o) (n - o) recent (omega arith)) in
      let small : Small (p ++ q) = subst Small cut (small_between from to (g ++ t) s.small) in
      let joined : (u v : K) → u ≡ summary a p → v ≡ summary a q → a.join u v ≡ summary a (p ++ q) = λ u v us vs. ap₂ a.join us vs ∙ sym (summary_append laws p q) in
      record {
        shaped = h;
        tree = h.tree;
        older_small = small_left g t s.small;
        newer_small = small_right p q small;
        none = λ le. nothing s from to refl le a.none refl;
        newest = λ v vs le. vs ∙ ap (summary a) (sym (cut ∙ ap (λ w. w ++ q) (between_none from e g (inr (omega (arith, h.older_long))))));
        joins = λ u v us vs. subst fits (sym (joined u v us vs)) (fit (p ++ q) small);
        sums = λ u v us vs. joined u v us vs ∙ ap (summary a) (sym cut);
      }

  pub asking : (laws : Laws a) (fits : K → Type 0) (fit : Fit a fits) → Sound a k n nodes recent → {o end start stop : ℕ} → o ≡ older n → end ≡ min to n → start ≡ from - o → stop ≡ end - o
      → Asking a fits k n from to nodes recent o end start stop
  asking laws fits fit s {o} {end} {start} {stop} o_is end_is start_is stop_is =
      let start_at : start ≡ from - older n = start_is ∙ ap (◌-◌ from) o_is in
      let stop_at : stop ≡ min to n - older n = stop_is ∙ ap₂ ◌-◌ end_is o_is in
      subst₂ (λ i j. Asking a fits k n from to nodes recent i j start stop) (sym o_is) (sym end_is)
      (subst₂ (λ i j. Asking a fits k n from to nodes recent (older n) (min to n) i j) (sym start_at) (sym stop_at) (asking_at laws fits fit s))

-- ---- a raise, of the first `cut` gaps in the tree
pub record Lifting {K : Type 0} (a : Algebra K) (k n from to : ℕ) (nodes : List (Node K)) (recent : List ℕ) (o start stop : ℕ) : Type 0 where
  pub shaped : Shape a k n nodes recent
  pub within : stop ≤ length recent
  pub low : Within 16 (bump start stop (take stop recent))
  pub tree : Tree a k o nodes
  pub older_small : {cut : ℕ} → cut ≡ min to o → Small (bump from cut (gaps k o nodes))
  pub over : {cut : ℕ} {nodes_after : List (Node K)} {recent_after : List ℕ} → cut ≡ min to o → Tree a k o nodes_after → gaps k o nodes_after ≡ bump from cut (gaps k o nodes) → recent_after ≡ bump start stop recent
      → After a k n nodes_after recent_after (bump from to (occupancies k n nodes recent))
  pub unraised : o ≤ from → gaps k o nodes ≡ bump from (min to o) (gaps k o nodes)
  pub idle : {recent_after : List ℕ} → o ≤ from → recent_after ≡ bump start stop recent → After a k n nodes recent_after (bump from to (occupancies k n nodes recent))

module _ {K : Type 0} {a : Algebra K} {k n from to : ℕ} {nodes : List (Node K)} {recent : List ℕ} where
  lifting_at : Sound a k n nodes recent → to ≤ n → Small (bump from to (occupancies k n nodes recent)) → Lifting a k n from to nodes recent (older n) (from - older n) (to - older n)
  lifting_at s within small =
      let h = shape s in
      let o = older n in
      let g = gaps k o nodes in
      let t = take (n - o) recent in
      let u = bump from (min to o) g in
      let v = bump (from - o) (to - o) t in
      let cut : bump from to (g ++ t) ≡ u ++ v =
      bump_append from to g t ∙ ap₂ ◌++◌ (bump_clip from to o g (omega (arith, h.older_long))) (ap (λ i. bump (from - i) (to - i) t) h.older_long) in
      let parts : Small (u ++ v) = subst Small cut small in
      let front : take (to - o) v ≡ bump (from - o) (to - o) (take (to - o) recent) =
      bump_take (to - o) (from - o) (to - o) t ∙ ap (bump (from - o) (to - o)) (take-take (to - o) (n - o) recent (omega arith)) in
      let over : (nodes_after : List (Node K)) (recent_after : List ℕ) → Tree a k o nodes_after → gaps k o nodes_after ≡ u → recent_after ≡ bump (from - o) (to - o) recent → After a k n nodes_after recent_after (bump from to (g ++ t)) =
      λ nodes_after recent_after tree is was.
      let newer : take (n - o) recent_after ≡ v = ap (take (n - o)) was ∙ bump_take (n - o) (from - o) (to - o) recent in
      let all : occupancies k n nodes_after recent_after ≡ bump from to (g ++ t) = ap₂ ◌++◌ is newer ∙ sym cut in
      record {
        sound = record { long = tree.long; wide = ap length was ∙ length_bump (from - o) (to - o) recent ∙ s.wide; room = s.room; good = tree.good; small = subst Small (sym all) small };
        lists = all;
      } in
      let unraised : o ≤ from → g ≡ u = λ le. sym (bump_none from (min to o) g (omega arith)) in
      record {
        shaped = h;
        within = omega (arith, h.reach);
        low = subst (Within 16) front (within_take 16 (to - o) v (small_right u v parts).low);
        tree = h.tree;
        older_small = λ e. rw e (small_left u v parts);
        over = λ e tree is was. over _ _ tree (rw e at is) was;
        unraised = unraised;
        idle = λ le was. over _ _ h.tree (unraised le) was;
      }

  pub lifting : Sound a k n nodes recent → to ≤ length (occupancies k n nodes recent) → Small (bump from to (occupancies k n nodes recent)) → {o start stop : ℕ} → o ≡ older n → start ≡ from - o → stop ≡ to - o
      → Lifting a k n from to nodes recent o start stop
  lifting s within small {o} {start} {stop} o_is start_is stop_is =
      subst (λ i. Lifting a k n from to nodes recent i start stop) (sym o_is)
      (subst₂ (λ i j. Lifting a k n from to nodes recent (older n) i j) (sym (start_is ∙ ap (◌-◌ from) o_is)) (sym (stop_is ∙ ap (◌-◌ to) o_is)) (lifting_at s (omega (arith, (shape s).all_long)) small))

-- ---- a new gap
within_push : (m : ℕ) (gs : List ℕ) → Within m gs → Within m (gs ++ (0 ∷ []))
within_push m [] w = (omega arith, tt)
within_push m (g ∷ gs) w = (w.0, within_push m gs w.1)

small_push : (gs : List ℕ) → Small gs → length gs < 2 ^ 20 → Small (gs ++ (0 ∷ []))
small_push gs s h = record { few = omega (arith, length-append gs (0 ∷ [])); low = within_push 16 gs s.low }

-- a full array, with the new gap written, hands its first block over
pub record Moving {K : Type 0} (a : Algebra K) (k n : ℕ) (nodes : List (Node K)) (recent written : List ℕ) (o : ℕ) : Type 0 where
  pub wide : 128 ≤ length written
  pub room : {block : List ℕ} → block ≡ take 64 written → o + length block ≤ leaves k
  pub small : {block : List ℕ} → block ≡ take 64 written → Small (gaps k o nodes ++ block)
  pub over : {block : List ℕ} {nodes_after : List (Node K)} {recent_after : List ℕ} → block ≡ take 64 written → Tree a k (o + length block) nodes_after → gaps k (o + length block) nodes_after ≡ gaps k o nodes ++ block
      → length recent_after ≡ length written → take 64 recent_after ≡ take 64 (drop 64 written) → After a k (n + 1) nodes_after recent_after (occupancies k n nodes recent ++ (0 ∷ []))

pub record Pushing {K : Type 0} (a : Algebra K) (k n : ℕ) (nodes : List (Node K)) (recent : List ℕ) (o : ℕ) : Type 0 where
  pub shaped : Shape a k n nodes recent
  pub tree : Tree a k o nodes
  pub index : n - o < length recent
  pub few : n < 2 ^ 20
  pub plain : n - o + 1 ≢ 128 → After a k (n + 1) nodes (set recent (n - o) 0) (occupancies k n nodes recent ++ (0 ∷ []))
  pub full : n - o + 1 ≡ 128 → Moving a k n nodes recent (set recent (n - o) 0) o

module _ {K : Type 0} {a : Algebra K} {k n : ℕ} {nodes : List (Node K)} {recent : List ℕ} where
  pushing_at : Sound a k n nodes recent → n < leaves k → n < 2 ^ 20 → Pushing a k n nodes recent (older n)
  pushing_at s free few =
      let h = shape s in
      let o = older n in
      let g = gaps k o nodes in
      let t = take (n - o) recent in
      let written = set recent (n - o) 0 in
      let index : n - o < length recent = omega (arith, h.few, s.wide, free) in
      let long : length written ≡ length recent = length-set recent (n - o) 0 in
      let newer : take (n - o + 1) written ≡ t ++ (0 ∷ []) = take_more_set recent (n - o) 0 index in
      let all : g ++ take (n - o + 1) written ≡ (g ++ t) ++ (0 ∷ []) = ap (◌++◌ g) newer ∙ sym (append_assoc g t (0 ∷ [])) in
      let small : Small ((g ++ t) ++ (0 ∷ [])) = small_push (g ++ t) s.small (omega (arith, h.all_long)) in
      record {
        shaped = h;
        tree = h.tree;
        index = index;
        few = few;
        plain = λ not_full.
            let same : older (n + 1) ≡ o = omega arith in
            let count : n + 1 - o ≡ n - o + 1 = omega arith in
            let is : occupancies k (n + 1) nodes written ≡ (g ++ t) ++ (0 ∷ []) = ap (λ i. gaps k i nodes ++ take (n + 1 - i) written) same ∙ ap (λ i. g ++ take i written) count ∙ all in
            let tree : Tree a k (older (n + 1)) nodes = subst (λ i. Tree a k i nodes) (sym same) h.tree in
            record { sound = record { long = s.long; wide = long ∙ s.wide; room = omega arith; good = tree.good; small = subst Small (sym is) small }; lists = is };
        full = λ full.
            let wide : 128 ≤ length written = omega (arith, long, index) in
            let first = take 64 written in
            let block_long : length first ≡ 64 = length-take 64 written ∙ omega (arith, wide) in
            let more : older (n + 1) ≡ o + length first = omega arith in
            let count : n + 1 - (o + length first) ≡ 64 = omega arith in
            let two : first ++ take 64 (drop 64 written) ≡ take (n - o + 1) written = sym (take-add 64 64 written) ∙ ap (λ i. take i written) (sym full) in
            let moved : (g ++ first) ++ take 64 (drop 64 written) ≡ (g ++ t) ++ (0 ∷ []) = append_assoc g first (take 64 (drop 64 written)) ∙ ap (◌++◌ g) two ∙ all in
            let over : (nodes_after : List (Node K)) (recent_after : List ℕ) → Tree a k (o + length first) nodes_after → gaps k (o + length first) nodes_after ≡ g ++ first → length recent_after ≡ length written
            → take 64 recent_after ≡ take 64 (drop 64 written) → After a k (n + 1) nodes_after recent_after ((g ++ t) ++ (0 ∷ [])) =
            λ nodes_after recent_after tree is recent_long front.
            let is_all : occupancies k (n + 1) nodes_after recent_after ≡ (g ++ t) ++ (0 ∷ []) =
            ap (λ i. gaps k i nodes_after ++ take (n + 1 - i) recent_after) more ∙ ap (λ i. gaps k (o + length first) nodes_after ++ take i recent_after) count ∙ ap₂ ◌++◌ is front ∙ moved in
            let tree_more : Tree a k (older (n + 1)) nodes_after = subst (λ i. Tree a k i nodes_after) (sym more) tree in
            record { sound = record { long = tree.long; wide = recent_long ∙ long ∙ s.wide; room = omega arith; good = tree_more.good; small = subst Small (sym is_all) small }; lists = is_all } in
            record {
              wide = wide;
              room = λ e. rw e (omega (arith, free));
              small = λ e. rw e (small_left (g ++ first) (take 64 (drop 64 written)) (subst Small (sym moved) small));
              over = λ {block} {nodes_after} e tree is recent_long front. over _ _ (subst (λ b. Tree a k (o + length b) nodes_after) e tree) (subst (λ b. gaps k (o + length b) nodes_after ≡ g ++ b) e is) recent_long front;
            };
      }

  pub pushing : Sound a k n nodes recent → length (occupancies k n nodes recent) < leaves k → length (occupancies k n nodes recent) < 2 ^ 20 → {o : ℕ} → o ≡ older n → Pushing a k n nodes recent o
  pushing s free few o_is =
      let n_is = (shape s).all_long in
      subst (Pushing a k n nodes recent) (sym o_is) (pushing_at s (omega (arith, n_is)) (omega (arith, n_is)))
