use Rattle.trees.proofs.tree.View.push_children.Given as goal

abbrev pub decreases-loop-c : goal.decreases-loop-c
decreases-loop-c l = l.c
