use Rattle.std.proofs.Common.{replicate, ap, ◌∙◌, rules, refl}
use Rattle.trees.specs.declared.tree.Node.{Node}
use Rattle.ranges.proofs.Opens.{opened, all_blank}
use Rattle.ranges.proofs.gaps.clear.Goals as goal

pub returns : goal.returns
returns g c recent wide =
    let ran = c.fill_with.ensures.ran in
    let all = all_blank c.blank-blank.result (λ f. f.0.now) (λ f y h called. search rules) _ refl c.fill_with.new.self ran.0 ran.1 in
    opened g.K.Kind.alg c.args.height c.fill_with.new.self c.blank-blank.result recent (ap (λ (x : Node _). x.value) c.blank-blank.ensures) (ap (λ (x : Node _). x.pending) c.blank-blank.ensures) (c.fill_with.ensures.len ∙ c.requires)
    (all ∙ ap (λ m. replicate m c.blank-blank.result) (c.fill_with.ensures.len ∙ c.requires)) wide
