use Rattle.trees.proofs.links.Tree.first_child.Given as goal

abbrev pub decreases-loop-c : goal.decreases-loop-c
decreases-loop-c l = l.c
