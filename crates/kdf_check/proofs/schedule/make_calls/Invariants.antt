use Rattle.kdf_check.proofs.schedule.make_calls.Given as goal

abbrev pub ghost-obey_orders : goal.ghost-obey_orders
ghost-obey_orders g a = g.slots
