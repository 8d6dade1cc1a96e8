use Rattle.trees.proofs.tree.+raise.Given as goal

abbrev pub decreases-raise : goal.decreases-raise
decreases-raise g l = l.height
