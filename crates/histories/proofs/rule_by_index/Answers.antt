use Rattle.histories.proofs.Index.{rule_by_index}
use Rattle.histories.proofs.rule_by_index.Goals as goal

pub returns : goal.returns
returns c = rule_by_index
