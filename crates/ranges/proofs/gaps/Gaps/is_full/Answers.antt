use Rattle.std.proofs.Common.{arith}
use Rattle.std.proofs.lemmas.Bool.Decides.{nat_tests}
use Rattle.trees.proofs.Trees.{size_leaves}
use Rattle.ranges.proofs.OneList.{count_is}
use Rattle.ranges.proofs.gaps.Gaps.is_full.Goals as goal

pub returns : goal.returns
returns g c =
    let n = count_is c.args.self.now.sound in
    let long = c.args.self.now.sound.long in
    let leaves = size_leaves c.args.self.now.height in
    grind (arith, nat_tests)
