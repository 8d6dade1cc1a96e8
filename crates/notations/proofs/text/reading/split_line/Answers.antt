use Rattle.std.proofs.Common.{arith, rules}
use Rattle.notations.proofs.Texts.{first_line, last_line}
use Rattle.notations.proofs.text.reading.split_line.Goals as goal

pub returns-in-empty-clause-line : goal.returns-in-empty-clause-line
returns-in-empty-clause-line c = last_line c.unbroken.ensures c.split_at.ensures.front c.split_at.ensures.back (omega arith) (search rules)

pub returns-in-len1-up-clause-line : goal.returns-in-len1-up-clause-line
returns-in-len1-up-clause-line c = first_line c.unbroken.ensures c.split_at.ensures.front c.split_at.ensures.back (omega arith)
