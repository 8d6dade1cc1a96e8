use Rattle.std.proofs.Common.{ap, ◌∙◌}
use Rattle.std.proofs.lemmas.List.{take_all}
use Rattle.summaries.specs.Algebra.{summary}
use Rattle.summaries.proofs.Scans.{turn}
use Rattle.summaries.proofs.kind.summary_of.Goals as goal

pub raise_by-requires : goal.raise_by-requires
raise_by-requires g c = (turn g.met.K.Kind.lawful g.K.Kind.fits g.met.K.Kind.fit _ _ c.requires c.loop-occupancy-test.true).raises _ c.single.ensures

pub join-whole-requires : goal.join-whole-requires
join-whole-requires g c =
    (turn g.met.K.Kind.lawful g.K.Kind.fits g.met.K.Kind.fit _ _ c.requires c.loop-occupancy-test.true).joins _ _ c.loop-occupancy.invariant (rw c.single.ensures at c.raise_by.ensures)

pub loop-occupancy-preserved : goal.loop-occupancy-preserved
loop-occupancy-preserved g c =
    c.join-whole.ensures
    ∙ (turn g.met.K.Kind.lawful g.K.Kind.fits g.met.K.Kind.fit _ _ c.requires c.loop-occupancy-test.true).next _ _ c.loop-occupancy.invariant (rw c.single.ensures at c.raise_by.ensures)

pub returns : goal.returns
returns g c = c.loop-occupancy.invariant ∙ ap (summary g.K.Kind.alg) (take_all c.loop-occupancy.occupancy-index c.args.occupancies.now c.loop-occupancy-test.false)
