use Rattle.std.proofs.Common.{arith, rules}
use Rattle.std.proofs.lemmas.Grind.{common_steps}
use Rattle.notations.specs.LackeyMeans.{no_digits, no_comma, sized_part, size_misfit, wrong_size, past_memory, a_record}
use Rattle.notations.proofs.lackey.access.Goals as goal

pub returns-then-count-eq0 : goal.returns-then-count-eq0
returns-then-count-eq0 c = rw c.new.ensures (no_digits _ _ _ _ c.figures-count.ensures c.if-count-eq0.true)

pub returns-in_default : goal.returns-in_default
returns-in_default c = rw c.new-in_default.ensures (no_comma _ _ _ _ _ c.figures-count.ensures (omega arith) c.split_at.ensures.back (λ some e. grind arith))

pub returns-then-size-eq0 : goal.returns-then-size-eq0
returns-then-size-eq0 c =
    let seen = sized_part c.figures-count.ensures (omega arith) c.split_at.ensures.back (omega arith) (omega arith) c.figures-size.ensures in
    rw c.new-then-size-eq0.ensures (size_misfit _ seen c.then-size-eq0.either)

pub returns-then-not-contains : goal.returns-then-not-contains
returns-then-not-contains c =
    let seen = sized_part c.figures-count.ensures (omega arith) c.split_at.ensures.back (omega arith) (omega arith) c.figures-size.ensures in
    rw c.new-then-not-contains.ensures (wrong_size _ seen (omega arith) (omega arith) (λ h. grind (arith, common_steps)))

pub returns-then-is_none : goal.returns-then-is_none
returns-then-is_none c =
    let seen = sized_part c.figures-count.ensures (omega arith) c.split_at.ensures.back (omega arith) (omega arith) c.figures-size.ensures in
    rw c.new-then-is_none.ensures (past_memory _ seen (omega arith) (omega arith) (search rules, search rules) (λ h. grind (arith, common_steps)))

pub returns : goal.returns
returns c =
    let seen = sized_part c.figures-count.ensures (omega arith) c.split_at.ensures.back (omega arith) (omega arith) c.figures-size.ensures in
    a_record _ seen (omega arith) (omega arith) c.split_at.ensures.front (search rules, search rules) (grind (arith, common_steps))
