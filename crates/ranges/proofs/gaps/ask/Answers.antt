use Rattle.std.proofs.Common.{◌∙◌}
use Rattle.ranges.proofs.OneList.{nothing, asking}
use Rattle.ranges.proofs.gaps.ask.Goals as goal

pub returns-then-end-from : goal.returns-then-end-from
returns-then-end-from g c = nothing c.requires c.args.from c.args.to c.min-end.ensures c.if-end-from.true _ c.empty.ensures

pub summary_of-newest-requires : goal.summary_of-newest-requires
summary_of-newest-requires g c =
    (asking g.met.K.Kind.lawful g.K.Kind.fits g.met.K.Kind.fit c.requires c.in_tree-older.ensures c.min-end.ensures c.saturating_sub.ensures c.saturating_sub-2.ensures).newer_small

pub returns-then-older-from : goal.returns-then-older-from
returns-then-older-from g c =
    (asking g.met.K.Kind.lawful g.K.Kind.fits g.met.K.Kind.fit c.requires c.in_tree-older.ensures c.min-end.ensures c.saturating_sub.ensures c.saturating_sub-2.ensures).newest _ c.summary_of-newest.ensures c.if-older-from.true

pub ask-requires : goal.ask-requires
ask-requires g c =
    let s = asking g.met.K.Kind.lawful g.K.Kind.fits g.met.K.Kind.fit c.requires c.in_tree-older.ensures c.min-end.ensures c.saturating_sub.ensures c.saturating_sub-2.ensures in
    record { tree = s.tree; small = s.older_small }

pub join-requires : goal.join-requires
join-requires g c =
    (asking g.met.K.Kind.lawful g.K.Kind.fits g.met.K.Kind.fit c.requires c.in_tree-older.ensures c.min-end.ensures c.saturating_sub.ensures c.saturating_sub-2.ensures).joins _ _ c.ask.ensures c.summary_of-newest.ensures

pub returns : goal.returns
returns g c =
    c.join.ensures
    ∙ (asking g.met.K.Kind.lawful g.K.Kind.fits g.met.K.Kind.fit c.requires c.in_tree-older.ensures c.min-end.ensures c.saturating_sub.ensures c.saturating_sub-2.ensures).sums _ _ c.ask.ensures c.summary_of-newest.ensures
