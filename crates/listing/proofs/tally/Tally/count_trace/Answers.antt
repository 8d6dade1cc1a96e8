use Rattle.std.proofs.Common.{◌≡◌, ◌+◌, Ok, Err, sym, ap, ◌∙◌, subst}
use Rattle.std.proofs.lemmas.Result.{err_from_is_err_and}
use Rattle.notations.specs.Left.{left}
use Rattle.listing.specs.Counting.{LineCounted, TraceCounted}
use Rattle.listing.proofs.Traces.{line_under, open_more, open_stop, unpaired_ok, unpaired_err}
use Rattle.listing.proofs.tally.Tally.count_trace.Goals as goal

pub loop-line-preserved : goal.loop-line-preserved
loop-line-preserved c =
    let x = c.args.self.now.settings in
    let ok : c.count_line.result ≡ Ok tt = unpaired_ok _ _ _ (sym c.beside.ensures ∙ c.in_ok-beside.was) in (
      c.count_line.ensures.0 ∙ c.loop-line.invariant.0,
      λ taken counted.
          let o = c.loop-line.invariant.1 taken counted in
          let l = line_under _ x _ _ _ _ c.loop-line.invariant.0 c.count_line.ensures.1 o.taken o.counted in
          open_more x x.k _ _ taken _ _ c.in-Some.line.now _ _ _ _ o c.in-Some.ensures.steps.line (ap (λ n. n + 1) c.in-Some.ensures.steps.number) (subst (λ r. LineCounted x x.k o.taken c.in-Some.line.now r c.count_line.new.self.counts.now) ok l),
    )

pub returns-in_err-beside : goal.returns-in_err-beside
returns-in_err-beside c =
    let x = c.args.self.now.settings in
    let p = err_from_is_err_and c.from_residual.result c.from_residual.ensures.1 in
    let q = unpaired_err c.count_line.result c.number.result c.in_err-beside.field-0.0 (sym c.beside.ensures ∙ c.in_err-beside.was) in
    let place : c.in_err-beside.field-0.0.1 ≡ c.loop-line.lines.number + 1 = sym q.1 ∙ c.number.ensures ∙ c.in-Some.ensures.steps.number in (
      c.count_line.ensures.0 ∙ c.loop-line.invariant.0,
      λ taken counted.
          let o = c.loop-line.invariant.1 taken counted in
          let l = line_under _ x _ _ _ _ c.loop-line.invariant.0 c.count_line.ensures.1 o.taken o.counted in
          subst (λ r. TraceCounted x x.k taken (left c.args.lines.now) (c.args.lines.now.number + 1) r c.count_line.new.self.counts.now) (sym (p.1 ∙ ap Err (p.2 ∙ (λ i. record { fault = c.in_err-beside.field-0.0.0; line = place i }))))
          (open_stop x x.k _ _ taken _ _ c.in-Some.line.now _ _ _ _ o c.in-Some.ensures.steps.line (subst (λ r. LineCounted x x.k o.taken c.in-Some.line.now r c.count_line.new.self.counts.now) q.0 l)),
    )
