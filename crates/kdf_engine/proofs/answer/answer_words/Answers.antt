use Rattle.std.proofs.Common.{◌≡◌, List, ℕ, [], map, string_bytes, Global, Option, Some, sym, subst}
use Rattle.kdf_theory.specs.MachineView.{MachineView}
use Rattle.kdf_top.specs.Answers.{IsDoneBy, IsDueFor}
use Rattle.kdf_command.specs.Commands.{command}
use Rattle.kdf_top.specs.declared.status.Status.TheVariants as status
use Rattle.kdf_engine.specs.Service.{exchanged}
use Rattle.kdf_engine.proofs.Handed.{handed}
use Rattle.kdf_engine.proofs.answer.answer_words.Goals as goal

pub returns-in-Ok : goal.returns-in-Ok
returns-in-Ok c =
    let words = map (string_bytes {Z = Global}) c.args.words.now in
    let job = c.args.job.now in
    let called = c.in-Ok.status in
    let due = c.in-Ok.ensures in
    let out = c.hand_out.ensures in
    let here = sym c.deref.ensures.value in
    handed words job c.args.room.now c.hand_out.new.room c.deref.result.now called _ _ due.called due.usage due.read due.write due.memory
    (subst (λ (xs : List ℕ). IsDueFor exchanged words job xs) here due.due)
    (subst (λ (xs : List ℕ). called ≡ status.Done → (kept : Option MachineView) × IsDoneBy exchanged (command words) job kept (Some []) (Some xs)) here
    due.done)
    out.size out.fits out.text out.short out.short_writes out.beyond
