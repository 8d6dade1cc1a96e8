use Rattle.ranges.specs.Sets.{listed, SameSet}
use Rattle.ranges.proofs.Carries.{Going}
use Rattle.ranges.proofs.operations.Gaps+Both+Peak+K.carry_all.Given as goal

abbrev pub invariant-loop-i : goal.invariant-loop-i
invariant-loop-i g l = record {
  same : SameSet l.initial.self l.self;
  going : Going g.K.Kind.alg l.initial.self.height l.i l.operations (listed l.initial.self) (listed l.self) l.answers;
}
