use Rattle.std.proofs.Common.{◌≡◌, ◌+◌, ◌≤◌, List, ◌∷◌, [], Option, refl, sym, ap, ◌∙◌, subst, arith}
use Rattle.std.proofs.lemmas.Result.{on_ok_weaker}
use Rattle.kdf_journal.specs.Counts.{calls, clock, moves}
use Rattle.kdf_journal.specs.Steps.{Moves, Ends, Sets, Swaps, added}
use Rattle.kdf_journal.proofs.Added.{calls-added, clock-added, moves-added}
use Rattle.kdf_schedule.specs.declared.event.Event.{Event}
use Rattle.kdf_schedule.specs.Calls.{AMove, AnEnd, AClock, ASwap, orders_in}
use Rattle.kdf_schedule.specs.Events.{IsInRange}
use Rattle.kdf_theory.specs.Follows.{IsRising}
use Rattle.kdf_check.specs.declared.table.Pending.{Pending}
use Rattle.kdf_check.specs.Keeps.{Keeps}
use Rattle.kdf_check.proofs.Events.{clock-keeps, end-keeps, event-on, move-keeps, swap-keeps}
use Rattle.kdf_check.proofs.Pairs.{pair}
use Rattle.kdf_check.proofs.schedule.make_calls.Goals as goal

pub obey_orders-requires : goal.obey_orders-requires
obey_orders-requires g c =
    let few = subst (λ (e : Event). calls c.args.journal.now.entries + orders_in e ≤ 20000000) c.in-Orders.is c.requires.1.1.1.1.0 in
    let few_moves : moves c.args.journal.now.entries ≤ 2048000000 = omega (arith, c.requires.1.1.1.1.1.0) in
    λ lives within. pair within
    (pair c.requires.1.0
    (pair c.requires.1.1.1.0
    (pair few few_moves)))

pub returns-in-Orders-clause-steps : goal.returns-in-Orders-clause-steps
returns-in-Orders-clause-steps g c = rw c.in-Orders.is c.obey_orders.ensures.steps

pub returns-in-Orders-clause-keeps : goal.returns-in-Orders-clause-keeps
returns-in-Orders-clause-keeps g c = c.obey_orders.ensures.keeps

pub returns-in-Orders-clause-calls : goal.returns-in-Orders-clause-calls
returns-in-Orders-clause-calls g c = rw c.in-Orders.is c.obey_orders.ensures.calls

pub returns-in-Orders-clause-moves : goal.returns-in-Orders-clause-moves
returns-in-Orders-clause-moves g c = on_ok_weaker c.obey_orders.result (λ same. omega (arith, same)) c.obey_orders.ensures.moves

pub returns-in-Orders-clause-time : goal.returns-in-Orders-clause-time
returns-in-Orders-clause-time g c = rw c.in-Orders.is c.obey_orders.ensures.time

pub returns-in-Move-clause-steps : goal.returns-in-Move-clause-steps
returns-in-Move-clause-steps g c = on_ok_weaker c.enter_event.result
    (λ is. rw c.in-Move.is (event-on g.slots c.args.journal.now.entries c.enter_event.new.journal.entries (AMove c.in-Move.d c.in-Move.n)
    (Moves c.in-Move.d c.in-Move.n) c.requires.1.1.1.0.legal c.requires.1.1.0 refl is)) c.enter_event.ensures

pub returns-in-Move-clause-keeps : goal.returns-in-Move-clause-keeps
returns-in-Move-clause-keeps g c = on_ok_weaker c.enter_event.result
    (λ is. move-keeps (λ n a. goal.F-post g c.args.service.now n a) g.slots c.args.journal.now.entries c.enter_event.new.journal.entries
    c.args.table.now.places c.args.programs.now.items c.requires.1.1.1.0 c.in-Move.d c.in-Move.n is) c.enter_event.ensures

pub returns-in-Move-clause-calls : goal.returns-in-Move-clause-calls
returns-in-Move-clause-calls g c = on_ok_weaker c.enter_event.result
    (λ (is : c.enter_event.new.journal.entries ≡ added c.args.journal.now.entries (Moves c.in-Move.d c.in-Move.n)). rw c.in-Move.is
    (omega (arith, ap calls is, calls-added c.args.journal.now.entries (Moves c.in-Move.d c.in-Move.n)))) c.enter_event.ensures

pub returns-in-Move-clause-moves : goal.returns-in-Move-clause-moves
returns-in-Move-clause-moves g c = let range = subst IsInRange c.in-Move.is c.requires.1.1.1.1.1.1.1 in on_ok_weaker c.enter_event.result
    (λ (is : c.enter_event.new.journal.entries ≡ added c.args.journal.now.entries (Moves c.in-Move.d c.in-Move.n)). omega
    (arith, range.2, ap moves is, moves-added c.args.journal.now.entries (Moves c.in-Move.d c.in-Move.n))) c.enter_event.ensures

pub returns-in-Move-clause-time : goal.returns-in-Move-clause-time
returns-in-Move-clause-time g c = on_ok_weaker c.enter_event.result
    (λ is. rw c.in-Move.is (ap clock is ∙ clock-added c.args.journal.now.entries (Moves c.in-Move.d c.in-Move.n))) c.enter_event.ensures

pub returns-in-End-clause-steps : goal.returns-in-End-clause-steps
returns-in-End-clause-steps g c = on_ok_weaker c.enter_event-in-End.result
    (λ is. rw c.in-End.is (event-on g.slots c.args.journal.now.entries c.enter_event-in-End.new.journal.entries (AnEnd c.in-End.d)
    (Ends c.in-End.d) c.requires.1.1.1.0.legal c.requires.1.1.0 refl is)) c.enter_event-in-End.ensures

pub returns-in-End-clause-keeps : goal.returns-in-End-clause-keeps
returns-in-End-clause-keeps g c = on_ok_weaker c.enter_event-in-End.result
    (λ is. subst (λ (table : List (Option Pending)). Keeps (λ n a. goal.F-post g c.args.service.now n a) g.slots c.enter_event-in-End.new.journal.entries table
    c.args.programs.now.items) (sym c.end.ensures)
    (end-keeps (λ n a. goal.F-post g c.args.service.now n a) g.slots c.args.journal.now.entries c.enter_event-in-End.new.journal.entries
    c.args.table.now.places c.args.programs.now.items c.requires.1.1.1.0 c.in-End.d is)) c.enter_event-in-End.ensures

pub returns-in-End-clause-calls : goal.returns-in-End-clause-calls
returns-in-End-clause-calls g c = on_ok_weaker c.enter_event-in-End.result
    (λ (is : c.enter_event-in-End.new.journal.entries ≡ added c.args.journal.now.entries (Ends c.in-End.d)). rw c.in-End.is
    (omega (arith, ap calls is, calls-added c.args.journal.now.entries (Ends c.in-End.d)))) c.enter_event-in-End.ensures

pub returns-in-End-clause-moves : goal.returns-in-End-clause-moves
returns-in-End-clause-moves g c = on_ok_weaker c.enter_event-in-End.result
    (λ (is : c.enter_event-in-End.new.journal.entries ≡ added c.args.journal.now.entries (Ends c.in-End.d)). omega
    (arith, ap moves is, moves-added c.args.journal.now.entries (Ends c.in-End.d))) c.enter_event-in-End.ensures

pub returns-in-End-clause-time : goal.returns-in-End-clause-time
returns-in-End-clause-time g c = on_ok_weaker c.enter_event-in-End.result
    (λ is. rw c.in-End.is (ap clock is ∙ clock-added c.args.journal.now.entries (Ends c.in-End.d))) c.enter_event-in-End.ensures

pub returns-in-Clock-clause-steps : goal.returns-in-Clock-clause-steps
returns-in-Clock-clause-steps g c = on_ok_weaker c.enter_event-in-Clock.result
    (λ is. rw c.in-Clock.is (event-on g.slots c.args.journal.now.entries c.enter_event-in-Clock.new.journal.entries (AClock c.in-Clock.t)
    (Sets c.in-Clock.t) c.requires.1.1.1.0.legal c.requires.1.1.0 refl is)) c.enter_event-in-Clock.ensures

pub returns-in-Clock-clause-keeps : goal.returns-in-Clock-clause-keeps
returns-in-Clock-clause-keeps g c = let rises = subst (λ (e : Event). IsRising (clock c.args.journal.now.entries) (e ∷ [])) c.in-Clock.is
    c.requires.1.1.1.1.1.1.0 in on_ok_weaker c.enter_event-in-Clock.result
    (λ is. clock-keeps (λ n a. goal.F-post g c.args.service.now n a) g.slots c.args.journal.now.entries c.enter_event-in-Clock.new.journal.entries
    c.args.table.now.places c.args.programs.now.items c.requires.1.1.1.0 c.in-Clock.t rises.0 is) c.enter_event-in-Clock.ensures

pub returns-in-Clock-clause-calls : goal.returns-in-Clock-clause-calls
returns-in-Clock-clause-calls g c = on_ok_weaker c.enter_event-in-Clock.result
    (λ (is : c.enter_event-in-Clock.new.journal.entries ≡ added c.args.journal.now.entries (Sets c.in-Clock.t)). rw c.in-Clock.is
    (omega (arith, ap calls is, calls-added c.args.journal.now.entries (Sets c.in-Clock.t)))) c.enter_event-in-Clock.ensures

pub returns-in-Clock-clause-moves : goal.returns-in-Clock-clause-moves
returns-in-Clock-clause-moves g c = on_ok_weaker c.enter_event-in-Clock.result
    (λ (is : c.enter_event-in-Clock.new.journal.entries ≡ added c.args.journal.now.entries (Sets c.in-Clock.t)). omega
    (arith, ap moves is, moves-added c.args.journal.now.entries (Sets c.in-Clock.t))) c.enter_event-in-Clock.ensures

pub returns-in-Clock-clause-time : goal.returns-in-Clock-clause-time
returns-in-Clock-clause-time g c = on_ok_weaker c.enter_event-in-Clock.result
    (λ is. rw c.in-Clock.is (ap clock is ∙ clock-added c.args.journal.now.entries (Sets c.in-Clock.t))) c.enter_event-in-Clock.ensures

pub returns-in-Swap-clause-steps : goal.returns-in-Swap-clause-steps
returns-in-Swap-clause-steps g c = on_ok_weaker c.enter_event-in-Swap.result
    (λ is. rw c.in-Swap.is (event-on g.slots c.args.journal.now.entries c.enter_event-in-Swap.new.journal.entries (ASwap c.in-Swap.p c.in-Swap.q)
    (Swaps c.in-Swap.p c.in-Swap.q) c.requires.1.1.1.0.legal c.requires.1.1.0 refl is)) c.enter_event-in-Swap.ensures

pub returns-in-Swap-clause-keeps : goal.returns-in-Swap-clause-keeps
returns-in-Swap-clause-keeps g c = let range = subst IsInRange c.in-Swap.is c.requires.1.1.1.1.1.1.1 in on_ok_weaker c.enter_event-in-Swap.result
    (λ is. swap-keeps (λ n a. goal.F-post g c.args.service.now n a) g.slots c.args.journal.now.entries c.enter_event-in-Swap.new.journal.entries
    c.args.table.now.places c.args.programs.now.items c.requires.1.1.1.0 c.in-Swap.p c.in-Swap.q (omega (arith, range.0)) (omega (arith, range.1)) is)
    c.enter_event-in-Swap.ensures

pub returns-in-Swap-clause-calls : goal.returns-in-Swap-clause-calls
returns-in-Swap-clause-calls g c = on_ok_weaker c.enter_event-in-Swap.result
    (λ (is : c.enter_event-in-Swap.new.journal.entries ≡ added c.args.journal.now.entries (Swaps c.in-Swap.p c.in-Swap.q)). rw c.in-Swap.is
    (omega (arith, ap calls is, calls-added c.args.journal.now.entries (Swaps c.in-Swap.p c.in-Swap.q)))) c.enter_event-in-Swap.ensures

pub returns-in-Swap-clause-moves : goal.returns-in-Swap-clause-moves
returns-in-Swap-clause-moves g c = on_ok_weaker c.enter_event-in-Swap.result
    (λ (is : c.enter_event-in-Swap.new.journal.entries ≡ added c.args.journal.now.entries (Swaps c.in-Swap.p c.in-Swap.q)). omega
    (arith, ap moves is, moves-added c.args.journal.now.entries (Swaps c.in-Swap.p c.in-Swap.q))) c.enter_event-in-Swap.ensures

pub returns-in-Swap-clause-time : goal.returns-in-Swap-clause-time
returns-in-Swap-clause-time g c = on_ok_weaker c.enter_event-in-Swap.result
    (λ is. rw c.in-Swap.is (ap clock is ∙ clock-added c.args.journal.now.entries (Swaps c.in-Swap.p c.in-Swap.q))) c.enter_event-in-Swap.ensures
