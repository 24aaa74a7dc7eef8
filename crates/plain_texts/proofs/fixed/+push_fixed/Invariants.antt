use Rattle.plain_texts.proofs.fixed.+push_fixed.Given as goal

abbrev pub decreases-push_fixed : goal.decreases-push_fixed
decreases-push_fixed l = l.width
