use Rattle.kdf_top.proofs.resuming.follow_sealed.Given as goal

abbrev pub ghost-compare_seal : goal.ghost-compare_seal
ghost-compare_seal g a = g.bytes
