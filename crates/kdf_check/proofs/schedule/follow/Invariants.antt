use Rattle.kdf_check.proofs.schedule.follow.Given as goal

abbrev pub ghost-follow_each : goal.ghost-follow_each
ghost-follow_each g a = g.slots
