use Rattle.trees.proofs.tree.+extend.Given as goal

abbrev pub decreases-extend : goal.decreases-extend
decreases-extend g l = l.height
