use Rattle.std.proofs.lemmas.Grind.{common_steps}
use Rattle.std.proofs.Common.{◌≡◌, ◌-◌, ◌%◌, ◌^◌, get_or, sym, ap, ◌∙◌, arith, rules}
use lib.Bits.{bit_and, and_mask}
use Rattle.histories.specs.Rule.{held}
use Rattle.replacement.proofs.Sets.{set_at, moves}
use Rattle.policies.proofs.sets.SetsPolicy.touch.Goals as goal

pub returns : goal.returns
returns g c =
    let m = g.R.RowRule in
    let p = c.args.self.now in
    let s = p.shape.s in
    let w = p.shape.ways in
    let x = c.args.line.0 in
    let h = c.requires in
    let k = bit_and x (p.sets - 1) in
    let all : p.sets ≡ 2 ^ s = h.all (let ne = c.if-self-eq0.false in omega (arith, ne)) in
    let e : k ≡ x % 2 ^ s = ap (λ j. bit_and x (j - 1)) all ∙ and_mask x s in
    let r = get_or p.rows.now k c.index-self-k.result in
    let read = ap (get_or p.rows.now k) c.index-self-k.is in
    record {
      keeps = search rules;
      answer = c.touch.ensures.answer ∙ ap (λ j. held x (m.lines j)) (sym (set_at m.model m.step m.none s w p.sets x p.rows.now h.long all k r e read));
      moves = moves m.model m.step m.none s w p.sets x p.rows.now h.long all k r c.touch.new.self e read c.touch.ensures.moves;
      spares = grind (arith, common_steps);
    }
