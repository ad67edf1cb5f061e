use Rattle.massdepth.proofs.objects.computed_at.Given as goal

abbrev pub decreases-loop-end : goal.decreases-loop-end
decreases-loop-end l = l.end
