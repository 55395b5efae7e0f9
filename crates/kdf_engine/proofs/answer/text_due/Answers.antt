use Rattle.std.proofs.Common.{◌≡◌, ◌≢◌, ℕ, List, [], map, Option, Some, ap, ◌∙◌, subst, string_bytes, Global, rules}
use Rattle.kdf_top.specs.Answers.{IsDoneBy, Wrote}
use Rattle.kdf_command.specs.Commands.{command}
use Rattle.kdf_top.specs.declared.status.Status.TheVariants as status
use Rattle.kdf_engine.specs.Service.{exchanged}
use Rattle.kdf_engine.proofs.Due.{due_by}
use Rattle.kdf_engine.proofs.More.{called_told, done_told}
use Rattle.kdf_engine.proofs.answer.text_due.Goals as goal

-- what the call says of its source, its sink and its service is said of the job, of the text and of the exchange
pub returns : goal.returns
returns c =
    let asked = command (map (string_bytes {Z = Global}) c.args.words.now) in
    let job = c.args.job.now in
    let given = c.run_with-outcome.result.status in
    let kept = c.run_with-outcome.result.machine in
    let text = c.run_with-outcome.new.sink.bytes.items in
    let ran = c.run_with-outcome.ensures in
    let told = c.new-source.ensures.left ∙ ap Some c.in_ok-bytes.ensures.items in
    let read : given ≢ status.ReadFault = ran.steady_reads (c.new-source.ensures.steady c.new.ensures.items) in
    let write : given ≢ status.WriteFault = search rules in
    let memory : given ≢ status.Memory = search rules in
    let called = called_told _ (λ n a h. search rules) (λ n a h. search rules) asked _ job given _ _ told ran.answer read write memory in
    let done : given ≡ status.Done → IsDoneBy exchanged asked job kept (Some []) (Some text) = λ e.
    subst (λ (o : Option (List ℕ)). IsDoneBy exchanged asked job kept o (Some text)) c.new-sink.ensures.written
    (done_told _ (λ n a h. search rules) (λ n a h. search rules) asked _ job kept _ _ told (ran.done e)) in
    let wrote = subst (λ (o : Option (List ℕ)). Wrote asked given o (Some text)) c.new-sink.ensures.written ran.wrote in
    record {
      called = called;
      usage = ran.command;
      read = read;
      write = write;
      memory = memory;
      due = due_by exchanged given asked job text kept called done wrote write;
      done = λ e. (kept, done e);
    }
