use Rattle.std.specs.Prelude.{not}
use Rattle.std.proofs.Common.{sym, ap, ◌∙◌, arith}
use Rattle.kdf_yard.specs.Fields.Parts.{reach_of, seat_of}
use Rattle.kdf_places.specs.Shared.{shared_in}
use Rattle.kdf_yard.specs.Fields.Turned.{word_over}
use Rattle.kdf_theory.proofs.Course.HeardWords.{has_answer, has_none, none_if}
use Rattle.kdf_yard.proofs.Turns.HeardWords.{none_told}
use Rattle.kdf_yard.proofs.hearing.answer_if_asked.Goals as goal

pub returns-then-is_none-clause-asked : goal.returns-then-is_none-clause-asked
returns-then-is_none-clause-asked g c =
    let x = seat_of c.args.program.now in
    let r = reach_of c.args.stand.now.windows.now c.args.stand.now.slot.now in
    let s = shared_in c.args.store.now c.args.places.now.items in
    has_none (λ n a. goal.F-post g c.args.service.now n a) (word_over x r s)
    (none_told x r s (sym c.word_ahead.ensures ∙ none_if c.word_ahead.result (c.is_none.ensures ∙ ap not c.if-is_none.true)))

pub returns-clause-asked : goal.returns-clause-asked
returns-clause-asked g c =
    has_answer (λ n a. goal.F-post g c.args.service.now n a)
    (word_over (seat_of c.args.program.now) (reach_of c.args.stand.now.windows.now c.args.stand.now.slot.now)
    (shared_in c.args.store.now c.args.places.now.items))
    _ _ (sym c.in_ok-word.ensures.asked) (omega arith) c.ask.ensures

pub returns-clause-seat : goal.returns-clause-seat
returns-clause-seat g c = c.word_asked.ensures.seat

pub returns-clause-hold : goal.returns-clause-hold
returns-clause-hold g c = c.word_asked.ensures.hold

pub returns-clause-store : goal.returns-clause-store
returns-clause-store g c = c.word_asked.ensures.store

pub returns-clause-places : goal.returns-clause-places
returns-clause-places g c = c.word_asked.ensures.places

pub returns-in_err-word-clause-seat : goal.returns-in_err-word-clause-seat
returns-in_err-word-clause-seat g c = c.word_asked.ensures.seat

pub returns-in_err-word-clause-hold : goal.returns-in_err-word-clause-hold
returns-in_err-word-clause-hold g c = c.word_asked.ensures.hold

pub returns-in_err-word-clause-store : goal.returns-in_err-word-clause-store
returns-in_err-word-clause-store g c = c.word_asked.ensures.store

pub returns-in_err-word-clause-places : goal.returns-in_err-word-clause-places
returns-in_err-word-clause-places g c = c.word_asked.ensures.places
