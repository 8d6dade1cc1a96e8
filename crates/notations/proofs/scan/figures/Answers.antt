use Rattle.std.proofs.Common.{ℕ, ◌+◌, ◌*◌, ◌<◌, ◌∙◌, arith}
use Rattle.std.proofs.lemmas.List.{length-take-le, get_or-take}
use Rattle.notations.proofs.Numerals.{Longer, longer}
use Rattle.notations.proofs.scan.figures.Goals as goal
use Rattle.notations.proofs.scan.figures.Goals.{In-Some}

turn : (c : In-Some) → Longer c.args.radix c.args.bytes.now c.loop-count.count (c.loop-count.value * c.args.radix + c.in-Some.digit)
turn c =
    let d = c.in-Some.ensures.value in
    let low : c.loop-count.count < c.min-limit.result = omega (arith, length-take-le {A = ℕ}) in
    longer _ c.args.most _ _ _ _ _ c.requires.least c.requires.fits (omega arith) (omega arith) c.loop-count.invariant.0 c.loop-count.invariant.1 (c.from.ensures ∙ get_or-take c.min-limit.result c.args.bytes.now c.loop-count.count 0 low) d.0 d.1

pub overflow_mul-value : goal.overflow_mul-value
overflow_mul-value c = let t = (turn (goal.at.overflow_mul-value c).In-Some).fits in omega arith

pub overflow_add-value : goal.overflow_add-value
overflow_add-value c = let t = (turn (goal.at.overflow_add-value c).In-Some).fits in omega arith

pub loop-count-preserved : goal.loop-count-preserved
loop-count-preserved c = let t = turn (goal.at.loop-count-preserved c).In-Some in (t.digits, t.is)
