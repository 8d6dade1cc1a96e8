use Rattle.replacement.proofs.Sets.{one_set}
use Rattle.replacement.proofs.one_set_is_one_row.Goals as goal

pub returns : goal.returns
returns c = one_set
