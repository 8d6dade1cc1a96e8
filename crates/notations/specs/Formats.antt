-- The grammar of a notation that is chosen at run time.
use Rattle.notations.specs.Din.{din}
use Rattle.notations.specs.Grammar.{Grammar}
use Rattle.notations.specs.Lackey.{lackey}
use Rattle.notations.specs.declared.format.Format.{Format}
use Rattle.notations.specs.declared.format.Format.TheVariants.{Din, Lackey}

abbrev pub grammar_of : Format → Grammar
grammar_of Din = din
grammar_of Lackey = lackey
