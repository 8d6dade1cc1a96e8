use Rattle.std.proofs.Common.{◌≡◌, ◌+◌, ◌≤◌, map, drop}
use Rattle.replacement.specs.Policy.{found, hits, after}
use Rattle.policy.specs.Numbers.{line_number}
use Rattle.policy.proofs.touch_all.Given as goal

-- the lines that are left give the rest of the answer
abbrev pub invariant-loop-line : goal.invariant-loop-line
invariant-loop-line g l =
    let m = g.P.Policy in
    let hit = found m.slog m.holds in
    let left = map line_number (drop l.line-index l.lines) in
    let all = map line_number l.lines in
    record {
      ready : m.ready l.policy;
      few : l.hits ≤ l.line-index;
      count : l.hits + hits hit m.next (m.state l.policy) left ≡ hits hit m.next (m.state l.initial.policy) all;
      moves : after m.next (m.state l.policy) left ≡ after m.next (m.state l.initial.policy) all;
      spares : m.spare l.policy ≡ m.spare l.initial.policy;
    }
