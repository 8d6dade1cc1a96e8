use Rattle.std.proofs.Common.{◌+◌, [], ◌∷◌, ◌++◌, sym, subst, arith}
use Rattle.ranges.specs.Sets.{listed}
use Rattle.ranges.proofs.OneList.{After, pushing}
use Rattle.ranges.proofs.gaps.Gaps.push.Goals.{then-newer, else-newer}
use Rattle.ranges.proofs.gaps.Gaps.push.Goals as goal

pub bounds-recent-newer : goal.bounds-recent-newer
bounds-recent-newer g c = (pushing c.args.self.now.sound c.requires.free c.requires.few c.in_tree-older.ensures).index

pub extend-requires : goal.extend-requires
extend-requires g c =
    let s = pushing c.args.self.now.sound c.requires.free c.requires.few c.in_tree-older.ensures in
    let m = s.full c.if-newer.true in
    record { tree = s.tree; room = m.room c.oldest_block-block.ensures; small = m.small c.oldest_block-block.ensures }

pub overflow_add-self : goal.overflow_add-self
overflow_add-self g c = omega (arith, (pushing c.args.self.now.sound c.requires.free c.requires.few c.in_tree-older.ensures).few)

pub invariant_of-self : goal.invariant_of-self
invariant_of-self g c =
    let s = pushing c.args.self.now.sound c.requires.free c.requires.few c.in_tree-older.ensures in
    let over = λ (held : _). After g.K.Kind.alg c.args.self.now.height (c.args.self.now.count + 1) held.1.0.now held.1.1.0.now (listed c.args.self.now ++ (0 ∷ [])) in
    let b : over c.if-newer.self =
    elim c.if-newer.branch [
      | then-newer w ↦ subst over (sym w.self-is) ((s.full w.if-newer.true).over w.oldest_block-block.ensures w.extend.ensures.tree w.extend.ensures.gaps w.shift.auto.recent w.shift.ensures)
      | else-newer w ↦ subst over (sym w.self-is) (s.plain w.if-newer.false)
    ] in
    record { sound = b.sound }

pub returns-clause-gaps : goal.returns-clause-gaps
returns-clause-gaps g c =
    let s = pushing c.args.self.now.sound c.requires.free c.requires.few c.in_tree-older.ensures in
    let over = λ (held : _). After g.K.Kind.alg c.args.self.now.height (c.args.self.now.count + 1) held.1.0.now held.1.1.0.now (listed c.args.self.now ++ (0 ∷ [])) in
    let b : over c.if-newer.self =
    elim c.if-newer.branch [
      | then-newer w ↦ subst over (sym w.self-is) ((s.full w.if-newer.true).over w.oldest_block-block.ensures w.extend.ensures.tree w.extend.ensures.gaps w.shift.auto.recent w.shift.ensures)
      | else-newer w ↦ subst over (sym w.self-is) (s.plain w.if-newer.false)
    ] in
    b.lists
