use Rattle.std.proofs.Common.{◌∙◌, sym}
use Rattle.kdf_transfer.specs.Devices.{fixture_of, progress_of}
use Rattle.kdf_transfer.proofs.OneStep.{stored_input}
use Rattle.kdf_transfer.proofs.one_step.move_all.Goals as goal

pub returns-then-is_input-clause-words : goal.returns-then-is_input-clause-words
returns-then-is_input-clause-words c =
    c.read_into.ensures
    ∙ stored_input c.args.order c.args.area.first c.args.area.last c.args.words.now (fixture_of c.args.device.now) (progress_of c.args.device.now)
    (sym c.is_input.ensures ∙ c.if-is_input.true)
