use Rattle.std.proofs.Common.{◌≡◌, rules}
use Rattle.ranges.proofs.Carries.{carried}
use Rattle.ranges.proofs.operations.carry_out.Goals as goal

pub returns : goal.returns
returns g c =
    let nodes_lent : c.carry_all.new.self.nodes.ghost_name ≡ c.open-gaps.result.nodes.ghost_name = c.carry_all.ensures.set.1.0 in
    let recent_lent : c.carry_all.new.self.recent.ghost_name ≡ c.open-gaps.result.recent.ghost_name = c.carry_all.ensures.set.1.1 in
    rw c.count.ensures.count (carried c.in_ok-memory.ensures c.if-nodes-memory.false c.if-recent-memory.false c.if-answers-operations.false c.split_at_mut-tree.ensures.back c.split_at_mut-array.ensures.back
    c.carry_all.ensures.set.0 c.open-gaps.ensures.height c.open-gaps.ensures.empty (search rules) (search rules) c.carry_all.new.self.sound c.carry_all.ensures.gaps c.carry_all.ensures.replied)
