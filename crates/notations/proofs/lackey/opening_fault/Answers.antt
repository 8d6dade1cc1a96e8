use Rattle.std.proofs.Common.{arith}
use Rattle.notations.specs.LackeyMeans.{third_misfits, second_misfits, letter_misfits, letter_unknown, fault_first}
use Rattle.notations.proofs.lackey.opening_fault.Goals as goal

pub returns-in-73 : goal.returns-in-73
returns-in-73 c = rw c.new.ensures (third_misfits _ (omega arith) (omega arith) (omega arith) c.requires.unopened)

pub returns-in-73-2 : goal.returns-in-73-2
returns-in-73-2 c = rw c.new-in-73-2.ensures (second_misfits _ (grind arith) (grind arith) (λ long e. grind arith))

pub returns-in-32 : goal.returns-in-32
returns-in-32 c = rw c.new-in-32.ensures (letter_misfits _ (grind arith) (grind arith) (grind arith) c.requires.unopened)

pub returns-in-32-2 : goal.returns-in-32-2
returns-in-32-2 c = rw c.new-in-32-2.ensures (letter_unknown _ (grind arith) (grind arith) (grind arith))

pub returns-in_default : goal.returns-in_default
returns-in_default c = rw c.new-in_default.ensures (fault_first _ c.requires.solid (λ some e. grind arith) (λ long e. grind arith))
