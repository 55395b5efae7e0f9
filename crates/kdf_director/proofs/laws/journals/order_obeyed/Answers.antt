use Rattle.kdf_theory.proofs.Course.OrdersObeyed.{obeys-flights, obeys-others, obeys-own, obeys-seen}
use Rattle.kdf_director.proofs.laws.journals.order_obeyed.Goals as goal

pub returns-clause-own : goal.returns-clause-own
returns-clause-own c slots J p heard note l m = obeys-own slots J p heard note l m

pub returns-clause-flights : goal.returns-clause-flights
returns-clause-flights c slots J p heard note are l m = obeys-flights slots J p heard note l m are

pub returns-clause-seen : goal.returns-clause-seen
returns-clause-seen c slots J p heard note are l m = obeys-seen slots J p heard note l m are

pub returns-clause-others : goal.returns-clause-others
returns-clause-others c slots J p q heard note are l m differ = obeys-others slots J p heard note l m are q differ
