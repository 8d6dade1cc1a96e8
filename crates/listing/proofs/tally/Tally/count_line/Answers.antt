use Rattle.std.proofs.Common.{Ok, ap, ◌∙◌, subst}
use Rattle.notations.specs.Formats.{grammar_of}
use Rattle.notations.specs.Grammar.{Means, said}
use Rattle.listing.proofs.Traces.{line_read}
use Rattle.listing.proofs.tally.Tally.count_line.Goals as goal

pub returns-in-Some : goal.returns-in-Some
returns-in-Some c =
    let x = c.args.self.now.settings in
    (c.count_record.ensures.0, λ taken counted. line_read x x.k taken c.args.line.now _ c.in-Some.access c.count_record.result (subst (λ r. Means (grammar_of x.format) c.args.line.now (said r)) (c.in_ok-read.was ∙ ap Ok c.in-Some.is) c.read.ensures) (c.count_record.ensures.1 taken counted))
