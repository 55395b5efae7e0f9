use Rattle.kdf_check.proofs.turns.take_turn.Given as goal

abbrev pub ghost-turn : goal.ghost-turn
ghost-turn g a = g.slots
