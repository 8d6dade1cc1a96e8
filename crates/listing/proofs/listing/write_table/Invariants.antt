use Rattle.std.proofs.Common.{◌≡◌, ◌+◌, ◌*◌, ◌^◌, ◌≤◌, ◌++◌, take, sum}
use Rattle.arrayvec.specs.ArrayString.{array_string_len}
use Rattle.listing.proofs.Tables.{rows_of}
use Rattle.listing.proofs.listing.write_table.Given as goal

abbrev pub invariant-loop-set : goal.invariant-loop-set
invariant-loop-set l =
    (array_string_len l.page ≤ 12 + 42 * l.set)
    × (l.page.bytes ≡ l.initial.page.bytes ++ rows_of l.set l.counts)
    × (l.all ≡ sum (take l.set l.counts))
    × (l.all ≤ l.set * 2 ^ 32)
