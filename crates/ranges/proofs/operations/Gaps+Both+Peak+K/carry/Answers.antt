use Rattle.std.proofs.Common.{sym, ap, ◌∙◌, rules}
use Rattle.ranges.specs.declared.operations.Answer.TheVariants.{Summary}
use Rattle.ranges.proofs.Carries.{few_gaps, small_raise, second_summary}
use Rattle.ranges.proofs.operations.Gaps+Both+Peak+K.carry.Goals as goal

pub push-requires-clause-few : goal.push-requires-clause-few
push-requires-clause-few g c = few_gaps c.args.self.now.height _ c.requires (search rules)

pub raise-requires-clause-small : goal.raise-requires-clause-small
raise-requires-clause-small g c = small_raise c.in-Raise.from c.in-Raise.to _ c.args.self.now.sound.small (sym c.if-is_low.ensures)

pub returns-in-Ask-clause-answer : goal.returns-in-Ask-clause-answer
returns-in-Ask-clause-answer g c = rw c.in-Ask.is (ap Summary (c.second.ensures ∙ second_summary g.K.Kind.alg _ _ c.ask.ensures))
