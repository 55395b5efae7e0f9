use Rattle.std.proofs.Common.{◌≡◌, ℕ, ◌≤◌, List, cond, ap, ◌∙◌, sym, subst, arith}
use Rattle.kdf_journal.specs.Counts.{calls, moves}
use Rattle.kdf_journal.specs.declared.entry.Entry.{Entry}
use Rattle.kdf_journal.specs.declared.entry.Entry.TheVariants.{Idle}
use Rattle.kdf_journal.specs.Joined.{pushed}
use Rattle.kdf_director.specs.declared.machine.Progress.{Progress}
use Rattle.kdf_yard.specs.Fields.Yards.{any_in}
use Rattle.kdf_director.proofs.Calls.CallsAtOnce.{all_err, fewer, fours, kept, near, waits, waits_within}
use Rattle.kdf_director.proofs.advance.advance.Goals as goal

pub next_of-requires-clause-near : goal.next_of-requires-clause-near
next_of-requires-clause-near g c = near (λ n a. goal.F-post g c.args.due.now.service.now n a) c.args.yard.now c.args.journal.now c.args.due.now.room
    c.requires.ready

pub next_of-requires-clause-lent : goal.next_of-requires-clause-lent
next_of-requires-clause-lent g c = c.requires.ready.agrees.lent

pub next_of-requires-clause-four : goal.next_of-requires-clause-four
next_of-requires-clause-four g c = fours (λ n a. goal.F-post g c.args.due.now.service.now n a) c.args.yard.now c.args.journal.now c.args.due.now.room
    c.requires.ready

pub next_of-requires-clause-numbered : goal.next_of-requires-clause-numbered
next_of-requires-clause-numbered g c = c.requires.ready.agrees.running.numbered

pub take_turns-requires-clause-next : goal.take_turns-requires-clause-next
take_turns-requires-clause-next g c = sym c.next_of.ensures ∙ c.in-Some.is

pub returns-in_err-reserve-in-None-clause-ready : goal.returns-in_err-reserve-in-None-clause-ready
returns-in_err-reserve-in-None-clause-ready g c =
    kept (λ n a. goal.F-post g c.args.due.now.service.now n a) c.args.yard.now c.args.journal.now c.args.due.now.room c.requires.ready c.reserve.new.self
    c.reserve.ensures.entries c.reserve.ensures.spare

pub returns-in_err-reserve-in-None-clause-err : goal.returns-in_err-reserve-in-None-clause-err
returns-in_err-reserve-in-None-clause-err g c =
    all_err c.from_residual.result _
    (fewer (λ n a. goal.F-post g c.args.due.now.service.now n a) c.args.yard.now c.args.journal.now c.args.due.now.room c.requires.ready c.args.halt
    c.reserve.new.self c.reserve.ensures.entries c.args.due.now.most c.requires.some)

pub returns-in_ok-reserve-in-None-clause-ready : goal.returns-in_ok-reserve-in-None-clause-ready
returns-in_ok-reserve-in-None-clause-ready g c =
    (waits (λ n a. goal.F-post g c.args.due.now.service.now n a) c.args.yard.now c.args.journal.now c.args.due.now.room c.requires.ready c.args.halt
    c.args.due.now.most c.requires.some c.requires.few
    (sym c.next_of.ensures ∙ c.in-None.is)
    c.wait.new.journal.spare (omega (arith, c.in_ok-reserve-in-None.ensures.room, c.wait.ensures.spare)) c.wait.new.journal.entries c.wait.result
    (subst (λ (J : List Entry). c.wait.new.journal.entries ≡ cond (any_in c.args.yard.now) (pushed J (Idle c.args.due.now.most)) J) c.reserve.ensures.entries
    c.wait.ensures.entries)
    c.wait.ensures.answer).0

pub returns-in_ok-reserve-in-None-clause-made : goal.returns-in_ok-reserve-in-None-clause-made
returns-in_ok-reserve-in-None-clause-made g c =
    (waits (λ n a. goal.F-post g c.args.due.now.service.now n a) c.args.yard.now c.args.journal.now c.args.due.now.room c.requires.ready c.args.halt
    c.args.due.now.most c.requires.some c.requires.few
    (sym c.next_of.ensures ∙ c.in-None.is)
    c.wait.new.journal.spare (omega (arith, c.in_ok-reserve-in-None.ensures.room, c.wait.ensures.spare)) c.wait.new.journal.entries c.wait.result
    (subst (λ (J : List Entry). c.wait.new.journal.entries ≡ cond (any_in c.args.yard.now) (pushed J (Idle c.args.due.now.most)) J) c.reserve.ensures.entries
    c.wait.ensures.entries)
    c.wait.ensures.answer).1

pub returns-in_ok-reserve-in-None-clause-within : goal.returns-in_ok-reserve-in-None-clause-within
returns-in_ok-reserve-in-None-clause-within g c =
    subst (λ (x : ℕ × Progress). x.0 ≤ c.args.due.now.most) (sym c.wait.ensures.answer)
    (waits_within (any_in c.args.yard.now) c.args.due.now.most c.requires.some)

pub wait-requires-clause-few_calls : goal.wait-requires-clause-few_calls
wait-requires-clause-few_calls g c = omega (arith, ap calls c.reserve.ensures.entries, c.requires.few)

pub wait-requires-clause-few_moves : goal.wait-requires-clause-few_moves
wait-requires-clause-few_moves g c = omega (arith, ap moves c.reserve.ensures.entries, c.requires.ready.few_words)
