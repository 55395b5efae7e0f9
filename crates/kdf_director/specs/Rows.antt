-- Events whose calls are made at once: one event, or events of orders in a row.
use Rattle.std.specs.Prelude.{◌≡◌, List, [], ◌∷◌, ◌⊎◌}
use Rattle.std.specs.List.{All}
use Rattle.kdf_schedule.specs.declared.event.Event.{Event}
use Rattle.kdf_schedule.specs.declared.event.Event.TheVariants.{Orders, Move, End, Clock, Swap}
use Rattle.kdf_schedule.specs.Calls.{order_count}

-- the event is one of orders
abbrev pub IsOfOrders : Event → Type 0
IsOfOrders (Orders n) = Unit {0}
IsOfOrders (Move d n) = ⊥
IsOfOrders (End d) = ⊥
IsOfOrders (Clock t) = ⊥
IsOfOrders (Swap p q) = ⊥

-- the calls of these events are those of one
abbrev pub IsRow : Event → List Event → Type 0
IsRow e es = (es ≡ e ∷ []) ⊎ ((e ≡ Orders (order_count es)) × All IsOfOrders es)
