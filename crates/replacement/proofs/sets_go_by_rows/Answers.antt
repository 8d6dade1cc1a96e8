use Rattle.replacement.specs.Ways.{empty_row}
use Rattle.replacement.specs.Lru as lru
use Rattle.replacement.specs.Srrip as srrip
use Rattle.replacement.proofs.Sets.{by_rows, lru_recent}
use Rattle.replacement.proofs.sets_go_by_rows.Goals as goal

pub returns : goal.returns
returns c = record { lru = by_rows (λ _ x m. lru.touched x m) empty_row; srrip = by_rows (λ _ x m. srrip.touched x m) empty_row; recent = lru_recent }
