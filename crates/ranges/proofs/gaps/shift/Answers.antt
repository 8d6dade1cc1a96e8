use Rattle.std.proofs.Common.{take, drop, ap, ◌∙◌, arith, length-drop}
use lib.Seq.{take-paste}
use Rattle.ranges.proofs.gaps.shift.Goals as goal

pub returns : goal.returns
returns c =
    let recent = c.args.recent.now in
    ap (take 64) c.copy_within.ensures.after ∙ take-paste recent 0 (drop 64 recent) 64 (omega arith) (simp length-drop (omega (arith, c.requires)))
