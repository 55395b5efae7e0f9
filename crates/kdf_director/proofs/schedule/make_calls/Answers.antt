use Rattle.std.proofs.Common.{◌+◌, ◌≤◌, refl, ap, subst, arith}
use Rattle.kdf_journal.specs.Counts.{calls}
use Rattle.kdf_journal.specs.Steps.{Moves, Ends, Sets, Swaps}
use Rattle.kdf_schedule.specs.Calls.{AMove, AnEnd, AClock, ASwap, orders_in}
use Rattle.kdf_schedule.specs.Events.{IsInRange}
use Rattle.kdf_theory.specs.Follows.{entries_in}
use Rattle.kdf_theory.specs.MachineView.{MachineView}
use Rattle.kdf_director.proofs.Calls.OneCall.{entered_on, calls-entered, clock-entered, true_entered}
use Rattle.kdf_director.proofs.schedule.make_calls.Goals as goal

pub returns-in-Move-clause-steps : goal.returns-in-Move-clause-steps
returns-in-Move-clause-steps g c = rw c.in-Move.is
    (entered_on c.args.machine.now c.move_words.new.self (AMove c.in-Move.d c.in-Move.n) (Moves c.in-Move.d c.in-Move.n) c.requires.legal c.requires.live refl
    c.move_words.ensures.entered)

pub returns-in-Move-clause-truly : goal.returns-in-Move-clause-truly
returns-in-Move-clause-truly g c = true_entered (λ n a. goal.F-post g c.args.service.now n a) c.args.machine.now c.move_words.new.self
    (Moves c.in-Move.d c.in-Move.n) c.requires.legal c.requires.truly tt c.move_words.ensures.entered

pub returns-in-Move-clause-calls : goal.returns-in-Move-clause-calls
returns-in-Move-clause-calls g c = rw c.in-Move.is
    (omega (arith, calls-entered c.args.machine.now c.move_words.new.self (Moves c.in-Move.d c.in-Move.n) c.move_words.ensures.entered))

pub returns-in-Move-clause-time : goal.returns-in-Move-clause-time
returns-in-Move-clause-time g c = rw c.in-Move.is
    (clock-entered c.args.machine.now c.move_words.new.self (Moves c.in-Move.d c.in-Move.n) c.move_words.ensures.entered)

pub returns-in-End-clause-steps : goal.returns-in-End-clause-steps
returns-in-End-clause-steps g c = rw c.in-End.is
    (entered_on c.args.machine.now c.end.new.self (AnEnd c.in-End.d) (Ends c.in-End.d) c.requires.legal c.requires.live refl c.end.ensures.entered)

pub returns-in-End-clause-truly : goal.returns-in-End-clause-truly
returns-in-End-clause-truly g c = true_entered (λ n a. goal.F-post g c.args.service.now n a) c.args.machine.now c.end.new.self
    (Ends c.in-End.d) c.requires.legal c.requires.truly tt c.end.ensures.entered

pub returns-in-End-clause-calls : goal.returns-in-End-clause-calls
returns-in-End-clause-calls g c = rw c.in-End.is (omega (arith, calls-entered c.args.machine.now c.end.new.self (Ends c.in-End.d) c.end.ensures.entered))

pub returns-in-End-clause-time : goal.returns-in-End-clause-time
returns-in-End-clause-time g c = rw c.in-End.is (clock-entered c.args.machine.now c.end.new.self (Ends c.in-End.d) c.end.ensures.entered)

pub returns-in-Clock-clause-steps : goal.returns-in-Clock-clause-steps
returns-in-Clock-clause-steps g c = rw c.in-Clock.is
    (entered_on c.args.machine.now c.clock.new.self (AClock c.in-Clock.t) (Sets c.in-Clock.t) c.requires.legal c.requires.live refl c.clock.ensures.entered)

pub returns-in-Clock-clause-truly : goal.returns-in-Clock-clause-truly
returns-in-Clock-clause-truly g c = true_entered (λ n a. goal.F-post g c.args.service.now n a) c.args.machine.now c.clock.new.self
    (Sets c.in-Clock.t) c.requires.legal c.requires.truly tt c.clock.ensures.entered

pub returns-in-Clock-clause-calls : goal.returns-in-Clock-clause-calls
returns-in-Clock-clause-calls g c = rw c.in-Clock.is
    (omega (arith, calls-entered c.args.machine.now c.clock.new.self (Sets c.in-Clock.t) c.clock.ensures.entered))

pub returns-in-Clock-clause-time : goal.returns-in-Clock-clause-time
returns-in-Clock-clause-time g c = rw c.in-Clock.is (clock-entered c.args.machine.now c.clock.new.self (Sets c.in-Clock.t) c.clock.ensures.entered)

pub returns-in-Swap-clause-steps : goal.returns-in-Swap-clause-steps
returns-in-Swap-clause-steps g c = rw c.in-Swap.is
    (entered_on c.args.machine.now c.swap.new.self (ASwap c.in-Swap.p c.in-Swap.q) (Swaps c.in-Swap.p c.in-Swap.q) c.requires.legal c.requires.live refl
    c.swap.ensures.entered)

pub returns-in-Swap-clause-truly : goal.returns-in-Swap-clause-truly
returns-in-Swap-clause-truly g c = true_entered (λ n a. goal.F-post g c.args.service.now n a) c.args.machine.now c.swap.new.self
    (Swaps c.in-Swap.p c.in-Swap.q) c.requires.legal c.requires.truly tt c.swap.ensures.entered

pub returns-in-Swap-clause-calls : goal.returns-in-Swap-clause-calls
returns-in-Swap-clause-calls g c = rw c.in-Swap.is
    (omega (arith, calls-entered c.args.machine.now c.swap.new.self (Swaps c.in-Swap.p c.in-Swap.q) c.swap.ensures.entered))

pub returns-in-Swap-clause-time : goal.returns-in-Swap-clause-time
returns-in-Swap-clause-time g c = rw c.in-Swap.is (clock-entered c.args.machine.now c.swap.new.self (Swaps c.in-Swap.p c.in-Swap.q) c.swap.ensures.entered)

pub move_words-requires-clause-device : goal.move_words-requires-clause-device
move_words-requires-clause-device g c = let range = subst IsInRange c.in-Move.is c.requires.in_range in omega (arith, range.0)

pub move_words-requires-clause-some : goal.move_words-requires-clause-some
move_words-requires-clause-some g c = let range = subst IsInRange c.in-Move.is c.requires.in_range in omega (arith, range.1)

pub move_words-requires-clause-few : goal.move_words-requires-clause-few
move_words-requires-clause-few g c = let range = subst IsInRange c.in-Move.is c.requires.in_range in omega (arith, range.2)

pub end-requires-clause-device : goal.end-requires-clause-device
end-requires-clause-device g c = let range = subst IsInRange c.in-End.is c.requires.in_range in omega (arith, range)

pub swap-requires-clause-p : goal.swap-requires-clause-p
swap-requires-clause-p g c = let range = subst IsInRange c.in-Swap.is c.requires.in_range in omega (arith, range.0)

pub swap-requires-clause-q : goal.swap-requires-clause-q
swap-requires-clause-q g c = let range = subst IsInRange c.in-Swap.is c.requires.in_range in omega (arith, range.1)

pub move_words-requires-clause-room : goal.move_words-requires-clause-room
move_words-requires-clause-room g c = let few = subst (λ e. entries_in e ≤ c.args.machine.now.room) c.in-Move.is c.requires.room in omega (arith, few)

pub returns-in-Move-clause-room : goal.returns-in-Move-clause-room
returns-in-Move-clause-room g c = let few = subst (λ e. entries_in e ≤ c.args.machine.now.room) c.in-Move.is c.requires.room in rw c.in-Move.is
    (omega (arith, few, ap (λ (m : MachineView). m.room) c.move_words.ensures.entered))

pub returns-in-Move-clause-slots : goal.returns-in-Move-clause-slots
returns-in-Move-clause-slots g c = ap (λ (m : MachineView). m.slots) c.move_words.ensures.entered

pub end-requires-clause-room : goal.end-requires-clause-room
end-requires-clause-room g c = let few = subst (λ e. entries_in e ≤ c.args.machine.now.room) c.in-End.is c.requires.room in omega (arith, few)

pub returns-in-End-clause-room : goal.returns-in-End-clause-room
returns-in-End-clause-room g c = let few = subst (λ e. entries_in e ≤ c.args.machine.now.room) c.in-End.is c.requires.room in rw c.in-End.is
    (omega (arith, few, ap (λ (m : MachineView). m.room) c.end.ensures.entered))

pub returns-in-End-clause-slots : goal.returns-in-End-clause-slots
returns-in-End-clause-slots g c = ap (λ (m : MachineView). m.slots) c.end.ensures.entered

pub clock-requires-clause-room : goal.clock-requires-clause-room
clock-requires-clause-room g c = let few = subst (λ e. entries_in e ≤ c.args.machine.now.room) c.in-Clock.is c.requires.room in omega (arith, few)

pub returns-in-Clock-clause-room : goal.returns-in-Clock-clause-room
returns-in-Clock-clause-room g c = let few = subst (λ e. entries_in e ≤ c.args.machine.now.room) c.in-Clock.is c.requires.room in rw c.in-Clock.is
    (omega (arith, few, ap (λ (m : MachineView). m.room) c.clock.ensures.entered))

pub returns-in-Clock-clause-slots : goal.returns-in-Clock-clause-slots
returns-in-Clock-clause-slots g c = ap (λ (m : MachineView). m.slots) c.clock.ensures.entered

pub swap-requires-clause-room : goal.swap-requires-clause-room
swap-requires-clause-room g c = let few = subst (λ e. entries_in e ≤ c.args.machine.now.room) c.in-Swap.is c.requires.room in omega (arith, few)

pub returns-in-Swap-clause-room : goal.returns-in-Swap-clause-room
returns-in-Swap-clause-room g c = let few = subst (λ e. entries_in e ≤ c.args.machine.now.room) c.in-Swap.is c.requires.room in rw c.in-Swap.is
    (omega (arith, few, ap (λ (m : MachineView). m.room) c.swap.ensures.entered))

pub returns-in-Swap-clause-slots : goal.returns-in-Swap-clause-slots
returns-in-Swap-clause-slots g c = ap (λ (m : MachineView). m.slots) c.swap.ensures.entered

pub orders_with-requires-clause-service : goal.orders_with-requires-clause-service
orders_with-requires-clause-service g c = c.requires.service

pub orders_with-requires-clause-some : goal.orders_with-requires-clause-some
orders_with-requires-clause-some g c = let range = subst IsInRange c.in-Orders.is c.requires.in_range in omega (arith, range.0)

pub orders_with-requires-clause-few : goal.orders_with-requires-clause-few
orders_with-requires-clause-few g c = subst (λ e. calls c.args.machine.now.journal + orders_in e ≤ 20000000) c.in-Orders.is c.requires.few

pub returns-in_ok-orders_with-in-Orders-clause-steps : goal.returns-in_ok-orders_with-in-Orders-clause-steps
returns-in_ok-orders_with-in-Orders-clause-steps g c = rw c.in-Orders.is c.in_ok-orders_with-in-Orders.ensures.steps

pub returns-in_ok-orders_with-in-Orders-clause-truly : goal.returns-in_ok-orders_with-in-Orders-clause-truly
returns-in_ok-orders_with-in-Orders-clause-truly g c = c.in_ok-orders_with-in-Orders.ensures.truthful c.requires.truly

pub returns-in_ok-orders_with-in-Orders-clause-calls : goal.returns-in_ok-orders_with-in-Orders-clause-calls
returns-in_ok-orders_with-in-Orders-clause-calls g c = rw c.in-Orders.is c.in_ok-orders_with-in-Orders.ensures.calls

pub returns-in_ok-orders_with-in-Orders-clause-room : goal.returns-in_ok-orders_with-in-Orders-clause-room
returns-in_ok-orders_with-in-Orders-clause-room g c = rw c.in-Orders.is (omega (arith, c.in_ok-orders_with-in-Orders.ensures.room))

pub returns-in_ok-orders_with-in-Orders-clause-time : goal.returns-in_ok-orders_with-in-Orders-clause-time
returns-in_ok-orders_with-in-Orders-clause-time g c = rw c.in-Orders.is c.in_ok-orders_with-in-Orders.ensures.time

pub returns-in_ok-orders_with-in-Orders-clause-slots : goal.returns-in_ok-orders_with-in-Orders-clause-slots
returns-in_ok-orders_with-in-Orders-clause-slots g c = c.in_ok-orders_with-in-Orders.ensures.slots
