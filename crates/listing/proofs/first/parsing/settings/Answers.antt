use Rattle.std.proofs.Common.{Err, refl, ap, ◌∙◌}
use Rattle.std.proofs.lemmas.Result.{err_from_is_err_and}
use Rattle.listing.specs.Fields.{Between, FormatWord, PolicyWord}
use Rattle.listing.proofs.Firsts.{FromSets, FromWays, FromSlots, FromFormat, FromPolicy, FromEnd, from_first, right, wrong, slots, three_right, four_right, at_end, too_many}
use Rattle.listing.proofs.first.parsing.settings.Goals as goal

pub returns-in_err-ways : goal.returns-in_err-ways
returns-in_err-ways c =
    let p = err_from_is_err_and c.from_residual-in_err-ways.result c.from_residual-in_err-ways.ensures.1 in
    from_first _ c.new-fields.result _ c.new-fields.ensures.fields c.new-fields.ensures.at c.new-fields.ensures.line
    (right (Between 2 12) FromSets c.new-fields.result c.number.new.self _ _ c.in_ok-b.ensures
    (right (Between 0 10) (FromWays c.in_ok-b.b) c.number.new.self c.number-2.new.self _ _ c.in_ok-s.ensures
    (wrong (Between 1 16) (FromSlots c.in_ok-b.b c.in_ok-s.s) c.number-2.new.self c.number-3.new.self _ _ (p.1 ∙ ap Err p.2) c.in_err-ways.ensures)))

pub returns-in_err-k : goal.returns-in_err-k
returns-in_err-k c =
    let p = err_from_is_err_and c.from_residual-in_err-k.result c.from_residual-in_err-k.ensures.1 in
    three_right _ c.new-fields.result c.number.new.self c.number-2.new.self c.number-3.new.self _ _ _ _ c.new-fields.ensures.fields c.new-fields.ensures.at c.new-fields.ensures.line c.in_ok-b.ensures c.in_ok-s.ensures c.in_ok-ways.ensures
    (wrong _ (FromFormat _ c.in_ok-s.s _) c.number-3.new.self c.number-4.new.self _ _ (p.1 ∙ ap Err p.2) (slots c.in_ok-s.s _ c.number-3.new.self c.number-4.new.self (Err c.in_err-k.field-0.0) c.saturating_sub.ensures c.in_err-k.ensures))

pub returns-in_err-format : goal.returns-in_err-format
returns-in_err-format c =
    let p = err_from_is_err_and c.from_residual-in_err-format.result c.from_residual-in_err-format.ensures.1 in
    four_right _ c.new-fields.result c.number.new.self c.number-2.new.self c.number-3.new.self c.number-4.new.self _ _ _ _ _ _ c.new-fields.ensures.fields c.new-fields.ensures.at c.new-fields.ensures.line c.saturating_sub.ensures c.in_ok-b.ensures c.in_ok-s.ensures c.in_ok-ways.ensures c.in_ok-k.ensures
    (wrong FormatWord (FromPolicy _ _ _ _) c.number-4.new.self c.field.new.self _ _ (p.1 ∙ ap Err p.2) c.in_err-format.ensures)

pub returns-in_err-policy : goal.returns-in_err-policy
returns-in_err-policy c =
    let p = err_from_is_err_and c.from_residual-in_err-policy.result c.from_residual-in_err-policy.ensures.1 in
    four_right _ c.new-fields.result c.number.new.self c.number-2.new.self c.number-3.new.self c.number-4.new.self _ _ _ _ _ _ c.new-fields.ensures.fields c.new-fields.ensures.at c.new-fields.ensures.line c.saturating_sub.ensures c.in_ok-b.ensures c.in_ok-s.ensures c.in_ok-ways.ensures c.in_ok-k.ensures
    (right FormatWord (FromPolicy _ _ _ _) c.number-4.new.self c.field.new.self _ _ c.in_ok-format.ensures
    (wrong PolicyWord (FromEnd c.in_ok-b.b c.in_ok-s.s c.in_ok-ways.ways c.in_ok-k.k c.in_ok-format.format) c.field.new.self c.field-2.new.self _ _ (p.1 ∙ ap Err p.2) c.in_err-policy.ensures))

pub returns-in_err-end : goal.returns-in_err-end
returns-in_err-end c =
    let p = err_from_is_err_and c.from_residual-in_err-end.result c.from_residual-in_err-end.ensures.1 in
    four_right _ c.new-fields.result c.number.new.self c.number-2.new.self c.number-3.new.self c.number-4.new.self _ _ _ _ _ _ c.new-fields.ensures.fields c.new-fields.ensures.at c.new-fields.ensures.line c.saturating_sub.ensures c.in_ok-b.ensures c.in_ok-s.ensures c.in_ok-ways.ensures c.in_ok-k.ensures
    (right FormatWord (FromPolicy _ _ _ _) c.number-4.new.self c.field.new.self _ _ c.in_ok-format.ensures
    (right PolicyWord (FromEnd c.in_ok-b.b c.in_ok-s.s c.in_ok-ways.ways c.in_ok-k.k c.in_ok-format.format) c.field.new.self c.field-2.new.self _ _ c.in_ok-policy.ensures
    (too_many c.field-2.new.self _ _ _ _ _ _ _ _ (p.1 ∙ ap Err p.2) c.in_err-end.ensures)))

pub returns : goal.returns
returns c =
    let g = c.in-Ok.ensures in
    four_right _ c.new-fields.result c.number.new.self c.number-2.new.self c.number-3.new.self c.number-4.new.self _ _ _ _ _ _ c.new-fields.ensures.fields c.new-fields.ensures.at c.new-fields.ensures.line c.saturating_sub.ensures c.in_ok-b.ensures c.in_ok-s.ensures c.in_ok-ways.ensures c.in_ok-k.ensures
    (right FormatWord (FromPolicy _ _ _ _) c.number-4.new.self c.field.new.self _ _ c.in_ok-format.ensures
    (right PolicyWord (FromEnd c.in_ok-b.b c.in_ok-s.s c.in_ok-ways.ways c.in_ok-k.k c.in_ok-format.format) c.field.new.self c.field-2.new.self _ _ c.in_ok-policy.ensures
    (at_end c.field-2.new.self _ _ _ _ _ _ _ c.in_ok-end.ensures (record { b_is = g.1; s_is = g.2; ways_are = g.3; k_is = refl; format_is = refl; policy_is = refl }))))
