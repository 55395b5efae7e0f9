use Rattle.kdf_check.proofs.turns.advance.Given as goal

abbrev pub ghost-take_turn : goal.ghost-take_turn
ghost-take_turn g a = g.slots
