use Rattle.em_system.proofs.selection.+holds_up.Given as goal

abbrev pub decreases-holds_up : goal.decreases-holds_up
decreases-holds_up l = l.depth
