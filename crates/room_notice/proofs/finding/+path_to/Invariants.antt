use Rattle.room_notice.proofs.finding.+path_to.Given as goal

abbrev pub decreases-path_to : goal.decreases-path_to
decreases-path_to g l = l.levels
