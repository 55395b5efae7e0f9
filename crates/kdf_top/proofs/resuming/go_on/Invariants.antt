use Rattle.kdf_top.proofs.resuming.go_on.Given as goal

abbrev pub ghost-follow_sealed : goal.ghost-follow_sealed
ghost-follow_sealed g a = g.bytes
