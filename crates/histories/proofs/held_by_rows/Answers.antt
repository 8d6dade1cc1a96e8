use Rattle.histories.proofs.Reading.{held_by_rows}
use Rattle.histories.proofs.held_by_rows.Goals as goal

pub returns : goal.returns
returns c = held_by_rows
