use Rattle.std.proofs.Common.{arith, rules}
use Rattle.trees.proofs.Extends.{is_none, is_some, none_more, leaf_more, cutting}
use Rattle.trees.proofs.tree.+extend.Goals as goal

pub returns-then-is_empty : goal.returns-then-is_empty
returns-then-is_empty g t c =
    let b = none_more c.requires.tree (rw c.unwrap.ensures at c.split_first_mut.ensures.cases).0 c.args.block.now (is_none _ c.if-is_empty.ensures) in
    record { tree = b.tree; gaps = b.gaps_are; value = b.value }

pub raise_by-root-requires : goal.raise_by-root-requires
raise_by-root-requires g t c = (leaf_more g.met.K.Kind.lawful g.K.Kind.fits g.met.K.Kind.fit c.requires.tree (rw c.unwrap.ensures at c.split_first_mut.ensures.cases).0 c.if-height-eq0.true c.args.block.now c.requires.room (is_some _ c.if-is_empty.ensures) c.requires.small).raises _ c.single.ensures

pub returns-then-height-eq0 : goal.returns-then-height-eq0
returns-then-height-eq0 g t c =
    let b = (leaf_more g.met.K.Kind.lawful g.K.Kind.fits g.met.K.Kind.fit c.requires.tree (rw c.unwrap.ensures at c.split_first_mut.ensures.cases).0 c.if-height-eq0.true c.args.block.now c.requires.room (is_some _ c.if-is_empty.ensures) c.requires.small).over _ _ c.single.ensures c.raise_by-root.ensures in
    record { tree = b.tree; gaps = b.gaps_are; value = b.value }

pub extend-left-requires : goal.extend-left-requires
extend-left-requires g t c κs within =
    let s = cutting g.met.K.Kind.lawful g.K.Kind.fits g.met.K.Kind.fit c.requires.tree (rw c.unwrap.ensures at c.split_first_mut.ensures.cases).0 (omega arith) c.split_at_mut-left.ensures.front c.split_at_mut-left.ensures.back c.min.result _ _ c.args.block.now c.split_at.ensures.front c.split_at.ensures.back (rw c.saturating_sub.ensures at c.min.ensures) c.requires.room (is_some _ c.if-is_empty.ensures) c.requires.small in
    (omega (arith, s.forks.up), (search rules, rw (c.min-2.ensures, s.forks.room) (s.forks.left, (s.left_room, s.left_small))))

pub extend-right-requires : goal.extend-right-requires
extend-right-requires g t c κs within =
    let s = cutting g.met.K.Kind.lawful g.K.Kind.fits g.met.K.Kind.fit c.requires.tree (rw c.unwrap.ensures at c.split_first_mut.ensures.cases).0 (omega arith) c.split_at_mut-left.ensures.front c.split_at_mut-left.ensures.back c.min.result _ _ c.args.block.now c.split_at.ensures.front c.split_at.ensures.back (rw c.saturating_sub.ensures at c.min.ensures) c.requires.room (is_some _ c.if-is_empty.ensures) c.requires.small in
    (omega (arith, s.forks.up), (search rules, rw (c.saturating_sub-2.ensures, s.forks.room) (s.forks.right, (s.right_room, s.right_small))))

pub join-root-requires : goal.join-root-requires
join-root-requires g t c =
    let s = cutting g.met.K.Kind.lawful g.K.Kind.fits g.met.K.Kind.fit c.requires.tree (rw c.unwrap.ensures at c.split_first_mut.ensures.cases).0 (omega arith) c.split_at_mut-left.ensures.front c.split_at_mut-left.ensures.back c.min.result _ _ c.args.block.now c.split_at.ensures.front c.split_at.ensures.back (rw c.saturating_sub.ensures at c.min.ensures) c.requires.room (is_some _ c.if-is_empty.ensures) c.requires.small in
    s.joins _ _ (rw (c.min-2.ensures, s.forks.room) at c.extend-left.ensures.value) (rw (c.saturating_sub-2.ensures, s.forks.room) at c.extend-right.ensures.value)

pub returns : goal.returns
returns g t c =
    let s = cutting g.met.K.Kind.lawful g.K.Kind.fits g.met.K.Kind.fit c.requires.tree (rw c.unwrap.ensures at c.split_first_mut.ensures.cases).0 (omega arith) c.split_at_mut-left.ensures.front c.split_at_mut-left.ensures.back c.min.result _ _ c.args.block.now c.split_at.ensures.front c.split_at.ensures.back (rw c.saturating_sub.ensures at c.min.ensures) c.requires.room (is_some _ c.if-is_empty.ensures) c.requires.small in
    let b = s.over _ _ _ (rw (c.min-2.ensures, s.forks.room) at c.extend-left.ensures.value) (rw (c.saturating_sub-2.ensures, s.forks.room) at c.extend-right.ensures.value) c.join-root.ensures _ _ (rw (c.min-2.ensures, s.forks.room) at c.extend-left.ensures.tree) (rw (c.min-2.ensures, s.forks.room) at c.extend-left.ensures.gaps) (rw (c.saturating_sub-2.ensures, s.forks.room) at c.extend-right.ensures.tree) (rw (c.saturating_sub-2.ensures, s.forks.room) at c.extend-right.ensures.gaps) in
    record { tree = b.tree; gaps = b.gaps_are; value = b.value }
