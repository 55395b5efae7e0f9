use Rattle.std.proofs.Common.{◌∙◌, ap}
use Rattle.kdf_text.specs.Text.{text}
use Rattle.kdf_top.specs.Answers.{refusal_lines}
use Rattle.kdf_top.proofs.Answering.{refused, refused_memory}
use Rattle.kdf_top.proofs.top_call.refuse.Goals as goal

pub returns-in_default : goal.returns-in_default
returns-in_default g c = record {
  machine = c.without_machine.ensures.machine;
  refused = rw c.without_machine.ensures.status (refused_memory c.args.command c.args.status _);
}

pub returns-in-Ok-write_all : goal.returns-in-Ok-write_all
returns-in-Ok-write_all g c = record {
  machine = c.without_machine-in-Ok-write_all.ensures.machine;
  refused = rw c.without_machine-in-Ok-write_all.ensures.status
      (refused c.args.command c.args.status _ _ _ c.requires (c.deref.ensures.value ∙ c.in-Ok.ensures
      ∙ ap (λ limit. text (refusal_lines limit c.args.status)) c.limit_by.ensures)
      c.in-Ok-write_all.ensures.all c.write_all.ensures.room_count c.write_all.ensures.never_falls);
}
