use Rattle.std.proofs.Common.{sym, ap, ◌∙◌, inl, inr, ⊎_elim, arith, rules}
use Rattle.summaries.specs.Algebra.{summary}
use Rattle.summaries.proofs.Rows.{between_none, between_all}
use Rattle.trees.proofs.Trees.{gaps_long, root_is}
use Rattle.trees.proofs.Asks.{halving}
use Rattle.trees.proofs.tree.+ask.Goals as goal

pub returns-then-to-from : goal.returns-then-to-from
returns-then-to-from g t c =
    let long = gaps_long c.requires.tree in
    c.empty.ensures ∙ ap (summary g.K.Kind.alg) (sym (between_none _ _ _ (⊎_elim inl (λ h. inr (omega arith)) c.then-to-from.either)))

pub returns-then-count-to : goal.returns-then-count-to
returns-then-count-to g t c =
    let long = gaps_long c.requires.tree in
    root_is c.requires.tree (rw c.unwrap.ensures at c.split_first.ensures.cases).0 ∙ ap (summary g.K.Kind.alg) (sym (between_all _ _ _ c.if-from-eq0.true (omega arith)))

pub ask-left-requires : goal.ask-left-requires
ask-left-requires g t c κs within =
    let s = halving g.met.K.Kind.lawful g.K.Kind.fits g.met.K.Kind.fit c.requires.tree c.requires.small (omega arith) (rw c.unwrap.ensures at c.split_first.ensures.cases).0 c.split_at.ensures.front c.split_at.ensures.back c.args.from c.args.to in
    (omega (arith, s.forks.up), (search rules, rw (c.min.ensures, s.forks.room) (s.forks.left, s.left_small)))

pub ask-right-requires : goal.ask-right-requires
ask-right-requires g t c κs within =
    let s = halving g.met.K.Kind.lawful g.K.Kind.fits g.met.K.Kind.fit c.requires.tree c.requires.small (omega arith) (rw c.unwrap.ensures at c.split_first.ensures.cases).0 c.split_at.ensures.front c.split_at.ensures.back c.args.from c.args.to in
    (omega (arith, s.forks.up), (search rules, rw (c.saturating_sub.ensures, s.forks.room) (s.forks.right, s.right_small)))

pub join-requires : goal.join-requires
join-requires g t c =
    let s = halving g.met.K.Kind.lawful g.K.Kind.fits g.met.K.Kind.fit c.requires.tree c.requires.small (omega arith) (rw c.unwrap.ensures at c.split_first.ensures.cases).0 c.split_at.ensures.front c.split_at.ensures.back c.args.from c.args.to in
    s.joins _ _ (rw (c.min.ensures, s.forks.room) at c.ask-left.ensures) (rw (c.saturating_sub.ensures, c.saturating_sub-2.ensures, c.saturating_sub-3.ensures, s.forks.room) at c.ask-right.ensures)

pub raise_by-requires : goal.raise_by-requires
raise_by-requires g t c =
    let s = halving g.met.K.Kind.lawful g.K.Kind.fits g.met.K.Kind.fit c.requires.tree c.requires.small (omega arith) (rw c.unwrap.ensures at c.split_first.ensures.cases).0 c.split_at.ensures.front c.split_at.ensures.back c.args.from c.args.to in
    s.raises _ _ _ (rw (c.min.ensures, s.forks.room) at c.ask-left.ensures) (rw (c.saturating_sub.ensures, c.saturating_sub-2.ensures, c.saturating_sub-3.ensures, s.forks.room) at c.ask-right.ensures) c.join.ensures

pub returns : goal.returns
returns g t c =
    let s = halving g.met.K.Kind.lawful g.K.Kind.fits g.met.K.Kind.fit c.requires.tree c.requires.small (omega arith) (rw c.unwrap.ensures at c.split_first.ensures.cases).0 c.split_at.ensures.front c.split_at.ensures.back c.args.from c.args.to in
    c.raise_by.ensures ∙ s.answer _ _ _ (rw (c.min.ensures, s.forks.room) at c.ask-left.ensures) (rw (c.saturating_sub.ensures, c.saturating_sub-2.ensures, c.saturating_sub-3.ensures, s.forks.room) at c.ask-right.ensures) c.join.ensures
