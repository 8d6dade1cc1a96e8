use Rattle.std.proofs.Common.{◌≡◌, ℕ, List}
use Rattle.listing.specs.Touches.{Counted}
use Rattle.listing.proofs.Tallies.{Going}
use Rattle.listing.proofs.tally.Tally.count_lines.Given as goal

abbrev pub invariant-loop-line : goal.invariant-loop-line
invariant-loop-line l =
    let x = l.initial.self.settings in
    (l.self.settings ≡ x)
    × ((taken : List ℕ) → Counted x.geometry.s l.initial.self.counts.now taken → Going x.geometry.s x.k taken l.fn.span.first.0 l.line l.self.counts.now)
