use Rattle.listing.proofs.Tallies.{span_fits}
use Rattle.listing.proofs.tally.Tally.count_record.Goals as goal

pub count_lines-requires : goal.count_lines-requires
count_lines-requires c = span_fits _ _ _ c.span.result c.map_err.result _ c.in_ok-span.span c.args.self.now.settings.geometry.limits.0 c.requires c.span.ensures c.map_err.ensures.cases c.in_ok-span.was
