use Rattle.std.proofs.Common.{◌≡◌, true, nat_lt, rules, MatchOption}
use Rattle.std.specs.List.{between}
use Rattle.ranges.specs.Sets.{listed}
use Rattle.ranges.proofs.Carries.{low_stretch}
use Rattle.ranges.proofs.operations.Gaps+Both+Peak+K.is_low.Goals as goal

pub returns : goal.returns
returns g c =
    let tested : MatchOption c.highest.result (c.is_none_or.result ≡ true) (λ h. c.is_none_or.result ≡ nat_lt h 16) = search rules in
    low_stretch g.K.Kind.alg _ _ _ _ (between c.args.from c.args.to (listed c.args.self.now)) c.ask.ensures c.first.ensures c.highest.ensures tested
