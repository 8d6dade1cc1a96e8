use Rattle.std.proofs.Common.{refl, arith}
use Rattle.notations.specs.DinMeans.{blank_line, no_label, no_address, no_end, a_record, marked, scanned}
use Rattle.notations.proofs.din.DinNotation.read.Goals as goal

pub returns-in_default : goal.returns-in_default
returns-in_default c = blank_line _ _ c.indent-before.ensures c.in_default.len_below

pub returns-in_default-kind_of : goal.returns-in_default-kind_of
returns-in_default-kind_of c = rw c.new.ensures (no_label (marked _ _ c.indent-before.ensures c.in-len1-up.len_at_least) c.in_default-kind_of.ensures)

pub returns-then-gap-eq0 : goal.returns-then-gap-eq0
returns-then-gap-eq0 c =
    let seen = scanned (marked _ _ c.indent-before.ensures c.in-len1-up.len_at_least) c.indent-gap.ensures c.figures-count.ensures in
    rw c.new-then-gap-eq0.ensures (no_address seen _ c.in-Some.ensures c.then-gap-eq0.either)

pub returns-then-not-stops : goal.returns-then-not-stops
returns-then-not-stops c =
    let seen = scanned (marked _ _ c.indent-before.ensures c.in-len1-up.len_at_least) c.indent-gap.ensures c.figures-count.ensures in
    rw c.new-then-not-stops.ensures (no_end seen _ c.in-Some.ensures (omega arith) (omega arith) c.split_at.ensures.back (λ s. let e = c.if-not-stops.ensures.1 s in cc))

pub returns : goal.returns
returns c =
    let seen = scanned (marked _ _ c.indent-before.ensures c.in-len1-up.len_at_least) c.indent-gap.ensures c.figures-count.ensures in
    a_record seen _ c.in-Some.ensures (omega arith) (omega arith) (omega arith) c.split_at.ensures.front c.split_at.ensures.back (c.if-not-stops.ensures.0 refl)
