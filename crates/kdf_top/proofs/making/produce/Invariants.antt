use Rattle.kdf_top.proofs.making.produce.Given as goal

abbrev pub ghost-resume : goal.ghost-resume
ghost-resume g a = a.text.items
