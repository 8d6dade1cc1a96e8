-- The error of a result, with what was known elsewhere beside it.
use Rattle.std.specs.Prelude.{Ok, Err, Result}

abbrev pub paired : {T E K : Type 0} → Result T E → K → Result T (E × K)
paired (Ok x) known = Ok x
paired (Err e) known = Err (e, known)
