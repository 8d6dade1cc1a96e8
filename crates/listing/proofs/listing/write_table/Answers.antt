use Rattle.std.proofs.Common.{◌++◌, ap, ◌∙◌, arith}
use Rattle.std.proofs.lemmas.List.Sums.{sum_by_more}
use Rattle.listing.proofs.Tables.{rows_of, more_rows, whole_table}
use Rattle.listing.proofs.listing.write_table.Goals as goal

pub loop-set-preserved : goal.loop-set-preserved
loop-set-preserved c =
    let i = c.loop-set.invariant in
    let more = sum_by_more (λ n. n) c.args.counts.now c.loop-set.set 0 (omega arith) in
    let total = i.2 in
    (omega (arith, c.write_set.ensures.long), more_rows _ _ _ c.args.counts.now c.loop-set.set i.1 c.write_set.ensures.bytes, omega arith, omega arith)

pub returns : goal.returns
returns c = record {
  long = omega (arith, c.push_str-2.ensures.len, c.push_number.ensures.long, c.push_str-3.ensures.len);
  bytes = λ s taken counted. whole_table s c.args.counts.now taken _ _ _ _ _ c.loop-set.set c.loop-set.all counted (omega arith) c.loop-set.invariant.2 (c.loop-set.invariant.1 ∙ ap (λ x. x ++ rows_of c.loop-set.set c.args.counts.now) c.push_str.ensures.bytes) c.push_str-2.ensures.bytes c.push_number.ensures.bytes c.push_str-3.ensures.bytes;
}
