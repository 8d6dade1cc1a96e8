use Rattle.std.proofs.Common.{arith}
use Rattle.ranges.proofs.OneList.{lifting}
use Rattle.ranges.proofs.gaps.Gaps.raise.Goals as goal

pub raise_recent-requires : goal.raise_recent-requires
raise_recent-requires g c =
    let s = lifting c.args.self.now.sound c.requires.within c.requires.small c.in_tree-older.ensures c.saturating_sub.ensures c.saturating_sub-2.ensures in
    record { within = s.within; low = s.low }

pub raise-requires : goal.raise-requires
raise-requires g c =
    let s = lifting c.args.self.now.sound c.requires.within c.requires.small c.in_tree-older.ensures c.saturating_sub.ensures c.saturating_sub-2.ensures in
    record { tree = s.tree; within = omega arith; small = s.older_small c.min.ensures }

pub invariant_of-self : goal.invariant_of-self
invariant_of-self g c =
    let s = lifting c.args.self.now.sound c.requires.within c.requires.small c.in_tree-older.ensures c.saturating_sub.ensures c.saturating_sub-2.ensures in
    record { sound = (s.over c.min.ensures c.raise.ensures.tree c.raise.ensures.gaps c.raise_recent.ensures).sound }

pub invariant_of-self-else-from-older : goal.invariant_of-self-else-from-older
invariant_of-self-else-from-older g c =
    let s = lifting c.args.self.now.sound c.requires.within c.requires.small c.in_tree-older.ensures c.saturating_sub.ensures c.saturating_sub-2.ensures in
    record { sound = (s.idle c.if-from-older.false c.raise_recent.ensures).sound }

pub returns-then-from-older-clause-gaps : goal.returns-then-from-older-clause-gaps
returns-then-from-older-clause-gaps g c =
    let s = lifting c.args.self.now.sound c.requires.within c.requires.small c.in_tree-older.ensures c.saturating_sub.ensures c.saturating_sub-2.ensures in
    (s.over c.min.ensures c.raise.ensures.tree c.raise.ensures.gaps c.raise_recent.ensures).lists

pub returns-else-from-older-clause-gaps : goal.returns-else-from-older-clause-gaps
returns-else-from-older-clause-gaps g c =
    let s = lifting c.args.self.now.sound c.requires.within c.requires.small c.in_tree-older.ensures c.saturating_sub.ensures c.saturating_sub-2.ensures in
    (s.idle c.if-from-older.false c.raise_recent.ensures).lists
