use Rattle.std.proofs.lemmas.List.{take-replicate}
use Rattle.replacement.specs.Ways.{no_way}
use Rattle.rows.proofs.srrip.SrripAgingAging.blank.Goals as goal

pub returns : goal.returns
returns c w h = take-replicate w 16 no_way h
