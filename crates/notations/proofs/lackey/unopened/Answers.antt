use Rattle.notations.specs.LackeyMeans.{solid_line, told_line}
use Rattle.notations.proofs.lackey.unopened.Goals as goal

pub returns : goal.returns
returns c =
    (told_line _ (solid_line _ _ c.indent.ensures c.if-indent-line.false) (λ h. let e = c.is_comment.ensures.1 h in cc), c.opening_fault.ensures)
