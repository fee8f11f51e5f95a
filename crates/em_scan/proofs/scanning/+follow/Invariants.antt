use Rattle.em_scan.proofs.scanning.+follow.Given as goal

abbrev pub decreases-follow : goal.decreases-follow
decreases-follow l = l.left
