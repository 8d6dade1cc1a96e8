use Rattle.std.proofs.Common.{[], sym, subst}
use Rattle.listing.specs.Touches.{Counted}
use Rattle.listing.proofs.Tables.{listed}
use Rattle.listing.proofs.Tallies.{start_counted}
use Rattle.listing.proofs.listing.list_trace.Goals as goal

pub returns-clause-bytes : goal.returns-clause-bytes
returns-clause-bytes c =
    let x = c.args.settings.now in
    let start = subst (λ counts. Counted x.geometry.s counts []) (sym c.new-tally.ensures.counts) (start_counted x _ c.sets-sets.ensures) in
    listed _ x _ _ _ _ _ _ c.count_trace-end.result c.new-tally.ensures.settings c.requires.1 c.requires.0 start c.count_trace-end.ensures.1 (λ taken counted. c.write_table.ensures.bytes x.geometry.s taken (subst (λ counts. Counted x.geometry.s counts taken) (sym c.counts.ensures) counted))
