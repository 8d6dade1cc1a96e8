-- That the memory of a set is sound can be shown in one way only, as a ghost field asks.
use Rattle.std.specs.Prelude.{◌≡◌, ℕ, zero, suc, ◌<◌, List, [], ◌∷◌, length}
use Rattle.std.specs.Coded.{Coded, Coded-set, Unit-prop, ×_prop, le_prop}
use denote.Struct.Props.{props}
use Rattle.summaries.specs.Algebra.{Algebra, Small, Within}
use Rattle.trees.specs.Trees.{leaves, size, Good}
use Rattle.ranges.specs.Occupancies.{Sound, occupancies, recents, older}
use Rattle.trees.specs.declared.tree.Node.{Node}

Within-prop : (m : ℕ) (gs : List ℕ) → IsProp (Within m gs)
Within-prop m [] = Unit-prop
Within-prop m (g ∷ gs) = ×_prop le_prop (Within-prop m gs)

Small-prop : (gs : List ℕ) → IsProp (Small gs)
Small-prop gs x y =
    λ i. record {
      few = le_prop x.few y.few i;
      low = Within-prop 16 gs x.low y.low i;
    }

Good-prop : {K : Type 0} (c : Coded K) (a : Algebra K) (k n : ℕ) (xs : List (Node K)) → IsProp (Good a k n xs)
Good-prop c a zero n [] = Unit-prop
Good-prop c a zero n (x ∷ xs) = Coded-set c _ _
Good-prop c a (suc k) n [] = Unit-prop
Good-prop c a (suc k) n (x ∷ xs) =
    let idle : IsProp (n < leaves (suc k) → x.pending ≡ 0) = hlevel props in
    λ p q i. (Coded-set c _ _ p.0 q.0 i, idle p.1 q.1 i, Good-prop c a k _ _ p.2 q.2 i, Good-prop c a k _ _ p.3 q.3 i)

pub Sound-prop : {K : Type 0} (c : Coded K) (a : Algebra K) (k n : ℕ) (nodes : List (Node K)) (recent : List ℕ) → IsProp (Sound a k n nodes recent)
Sound-prop c a k n nodes recent x y =
    let long : IsProp (length nodes ≡ size k) = hlevel props in
    let wide : IsProp (length recent ≡ recents k) = hlevel props in
    λ i. record {
      long = long x.long y.long i;
      wide = wide x.wide y.wide i;
      room = le_prop x.room y.room i;
      good = Good-prop c a k (older n) nodes x.good y.good i;
      small = Small-prop (occupancies k n nodes recent) x.small y.small i;
    }
