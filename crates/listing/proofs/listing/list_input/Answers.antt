use Rattle.std.proofs.Common.{◌++◌, Err, sym, ◌∙◌, inr, arith}
use Rattle.listing.specs.Listing.{stop}
use Rattle.listing.proofs.Firsts.{empty_first}
use Rattle.listing.proofs.listing.list_input.Goals as goal

pub returns-in_default-clause-bytes : goal.returns-in_default-clause-bytes
returns-in_default-clause-bytes c =
    let none = sym c.new-lines.ensures.lines ∙ c.in_default.ensures.steps.line in
    let refused = c.refused-in_default.ensures in
    inr (omega arith, (Err 1, empty_first _ none, (λ i. c.requires i ++ stop (refused i).fault.cause (refused i).line (refused i).fault.column)))
