use Rattle.kdf_top.proofs.resuming.resume.Given as goal

abbrev pub ghost-run_on : goal.ghost-run_on
ghost-run_on g a = g.bytes
