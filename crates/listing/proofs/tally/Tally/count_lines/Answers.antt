use Rattle.std.proofs.Common.{◌+◌, ◌%◌, ◌^◌, ◌<◌, ◌≤◌, get_or, set, sym, ap, ◌∙◌, subst, arith}
use Rattle.std.proofs.lemmas.Nat.{one_shl}
use Rattle.listing.proofs.Tallies.{Going, going_more, going_full}
use Rattle.listing.proofs.tally.Tally.count_lines.Goals as goal

pub returns-then-self-set : goal.returns-then-self-set
returns-then-self-set c =
    let x = c.args.self.now.settings in
    let slots = one_shl x.k 32 (omega (arith, x.few)) in
    let set_is = c.set_of-set.ensures ∙ ap (λ y. c.loop-line.line % 2 ^ y.geometry.s) c.loop-line.invariant.0 in
    (c.loop-line.invariant.0, λ taken counted. going_full x.geometry.s x.k taken _ _ c.loop-line.line _ (omega arith) (omega arith) (subst (λ j. 2 ^ x.k ≤ get_or c.loop-line.self.counts.now j 0) set_is (omega arith)) (c.loop-line.invariant.1 taken counted))

pub loop-line-preserved : goal.loop-line-preserved
loop-line-preserved c =
    let x = c.args.self.now.settings in
    let slots = one_shl x.k 32 (omega (arith, x.few)) in
    let set_is = c.set_of-set.ensures ∙ ap (λ y. c.loop-line.line % 2 ^ y.geometry.s) c.loop-line.invariant.0 in
    let counts = c.loop-line.self.counts.now in (
      c.loop-line.invariant.0,
      λ taken counted.
          subst (λ j. Going x.geometry.s x.k taken c.args.span.first.0 (c.loop-line.line + 1) (set counts j (get_or counts j 0 + 1))) (sym set_is)
          (going_more x.geometry.s x.k taken c.args.span.first.0 c.loop-line.line counts (omega arith) (c.loop-line.invariant.1 taken counted) (subst (λ j. get_or counts j 0 < 2 ^ x.k) set_is (omega arith))),
    )
