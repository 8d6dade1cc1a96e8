use Rattle.std.proofs.Common.{arith, rules}
use Rattle.trees.proofs.Raises.{same_tree, whole, splitting}
use Rattle.trees.proofs.tree.+raise.Goals as goal

pub returns-then-to-from : goal.returns-then-to-from
returns-then-to-from g t c =
    let b = same_tree c.requires.tree (rw c.unwrap.ensures at c.split_first_mut.ensures.cases).0 c.args.from c.args.to c.if-to-from.true in
    record { tree = b.tree; gaps = b.gaps_are; value = b.value }

pub raise_by-root-requires : goal.raise_by-root-requires
raise_by-root-requires g t c = (whole g.met.K.Kind.lawful g.K.Kind.fits g.met.K.Kind.fit c.requires.tree (rw c.unwrap.ensures at c.split_first_mut.ensures.cases).0 c.args.from c.args.to c.requires.small c.requires.within c.if-from-eq0.true c.if-half-to.true).raises

pub overflow_add-root : goal.overflow_add-root
overflow_add-root g t c = omega (arith, (whole g.met.K.Kind.lawful g.K.Kind.fits g.met.K.Kind.fit c.requires.tree (rw c.unwrap.ensures at c.split_first_mut.ensures.cases).0 c.args.from c.args.to c.requires.small c.requires.within c.if-from-eq0.true c.if-half-to.true).low)

pub returns-then-half-to : goal.returns-then-half-to
returns-then-half-to g t c =
    let b = (whole g.met.K.Kind.lawful g.K.Kind.fits g.met.K.Kind.fit c.requires.tree (rw c.unwrap.ensures at c.split_first_mut.ensures.cases).0 c.args.from c.args.to c.requires.small c.requires.within c.if-from-eq0.true c.if-half-to.true).over _ c.raise_by-root.ensures in
    record { tree = b.tree; gaps = b.gaps_are; value = b.value }

pub raise-left-requires : goal.raise-left-requires
raise-left-requires g t c κs within =
    let s = splitting g.met.K.Kind.lawful g.K.Kind.fits g.met.K.Kind.fit c.requires.tree (rw c.unwrap.ensures at c.split_first_mut.ensures.cases).0 c.args.from c.args.to c.requires.small (omega arith) c.split_at_mut-left.ensures.front c.split_at_mut-left.ensures.back in
    (omega (arith, s.forks.up), (search rules, rw (c.min.ensures, c.min-2.ensures, s.forks.room) (s.forks.left, (omega (arith, c.requires.within), s.left_small))))

pub raise-right-requires : goal.raise-right-requires
raise-right-requires g t c κs within =
    let s = splitting g.met.K.Kind.lawful g.K.Kind.fits g.met.K.Kind.fit c.requires.tree (rw c.unwrap.ensures at c.split_first_mut.ensures.cases).0 c.args.from c.args.to c.requires.small (omega arith) c.split_at_mut-left.ensures.front c.split_at_mut-left.ensures.back in
    (omega (arith, s.forks.up), (search rules, rw (c.saturating_sub.ensures, c.saturating_sub-2.ensures, c.saturating_sub-3.ensures, s.forks.room) (s.forks.right, (omega (arith, c.requires.within), s.right_small))))

pub join-requires : goal.join-requires
join-requires g t c =
    let s = splitting g.met.K.Kind.lawful g.K.Kind.fits g.met.K.Kind.fit c.requires.tree (rw c.unwrap.ensures at c.split_first_mut.ensures.cases).0 c.args.from c.args.to c.requires.small (omega arith) c.split_at_mut-left.ensures.front c.split_at_mut-left.ensures.back in
    s.joins _ _ (rw (c.min.ensures, c.min-2.ensures, s.forks.room) at c.raise-left.ensures.value) (rw (c.saturating_sub.ensures, c.saturating_sub-2.ensures, c.saturating_sub-3.ensures, s.forks.room) at c.raise-right.ensures.value)

pub raise_by-root-requires-2 : goal.raise_by-root-requires-2
raise_by-root-requires-2 g t c =
    let s = splitting g.met.K.Kind.lawful g.K.Kind.fits g.met.K.Kind.fit c.requires.tree (rw c.unwrap.ensures at c.split_first_mut.ensures.cases).0 c.args.from c.args.to c.requires.small (omega arith) c.split_at_mut-left.ensures.front c.split_at_mut-left.ensures.back in
    s.raises _ _ _ (rw (c.min.ensures, c.min-2.ensures, s.forks.room) at c.raise-left.ensures.value) (rw (c.saturating_sub.ensures, c.saturating_sub-2.ensures, c.saturating_sub-3.ensures, s.forks.room) at c.raise-right.ensures.value) c.join.ensures

pub returns : goal.returns
returns g t c =
    let s = splitting g.met.K.Kind.lawful g.K.Kind.fits g.met.K.Kind.fit c.requires.tree (rw c.unwrap.ensures at c.split_first_mut.ensures.cases).0 c.args.from c.args.to c.requires.small (omega arith) c.split_at_mut-left.ensures.front c.split_at_mut-left.ensures.back in
    let b = s.over _ _ _ _ (rw (c.min.ensures, c.min-2.ensures, s.forks.room) at c.raise-left.ensures.value) (rw (c.saturating_sub.ensures, c.saturating_sub-2.ensures, c.saturating_sub-3.ensures, s.forks.room) at c.raise-right.ensures.value) c.join.ensures c.raise_by-root-2.ensures _ _ (rw (c.min.ensures, s.forks.room) at c.raise-left.ensures.tree) (rw (c.min.ensures, c.min-2.ensures, s.forks.room) at c.raise-left.ensures.gaps) (rw (c.saturating_sub.ensures, s.forks.room) at c.raise-right.ensures.tree) (rw (c.saturating_sub.ensures, c.saturating_sub-2.ensures, c.saturating_sub-3.ensures, s.forks.room) at c.raise-right.ensures.gaps) in
    record { tree = b.tree; gaps = b.gaps_are; value = b.value }
