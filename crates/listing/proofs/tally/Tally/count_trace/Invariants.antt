use Rattle.std.proofs.Common.{◌≡◌, ℕ, ◌+◌, List}
use Rattle.notations.specs.Left.{left}
use Rattle.listing.specs.Touches.{Counted}
use Rattle.listing.proofs.Traces.{Open}
use Rattle.listing.proofs.tally.Tally.count_trace.Given as goal

abbrev pub invariant-loop-line : goal.invariant-loop-line
invariant-loop-line l =
    let x = l.initial.self.settings in
    (l.self.settings ≡ x)
    × ((taken : List ℕ) → Counted x.geometry.s l.initial.self.counts.now taken → Open x x.k (left l.initial.lines) (l.initial.lines.number + 1) taken (left l.lines) (l.lines.number + 1) l.self.counts.now)
