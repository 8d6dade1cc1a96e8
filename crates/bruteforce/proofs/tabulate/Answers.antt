use Rattle.std.proofs.Common.{arith}
use Rattle.std.proofs.Math.Nat.{pow-le-pow_right}
use Rattle.bruteforce.proofs.tabulate.Goals as goal

-- 3 ^ 6 is 729
pub pow-number-end-requires : goal.pow-number-end-requires
pow-number-end-requires c = omega (arith, pow-le-pow_right {n = 3} (omega arith) c.requires)
