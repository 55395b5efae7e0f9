use Rattle.kdf_top.proofs.resuming.run_on.Given as goal

abbrev pub ghost-go_on : goal.ghost-go_on
ghost-go_on g a = g.bytes
