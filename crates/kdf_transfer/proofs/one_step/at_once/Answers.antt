use Rattle.std.proofs.Common.{◌%◌, ◌<◌, ◌∙◌, sym, ap, ap₂, subst, length, List, ℕ}
use Rattle.std.specs.List.{All}
use Rattle.kdf_transfer.specs.AtOnce.{finished, order_words, words_out}
use Rattle.kdf_transfer.specs.Devices.{fixture_of, progress_of}
use Rattle.kdf_transfer.proofs.Codes.{codes_small, codes_whole}
use Rattle.kdf_transfer.proofs.one_step.at_once.Goals as goal

pub finish-requires-clause-small : goal.finish-requires-clause-small
finish-requires-clause-small c =
    subst (All (λ code. code < 64)) (sym c.move_all.ensures.block)
    (codes_small (words_out c.args.order (order_words c.args.order c.args.area.first c.args.area.last c.args.words.now)))

pub finish-requires-clause-whole : goal.finish-requires-clause-whole
finish-requires-clause-whole c =
    ap (λ (codes : List ℕ). length codes % 8) c.move_all.ensures.block
    ∙ codes_whole (words_out c.args.order (order_words c.args.order c.args.area.first c.args.area.last c.args.words.now))

pub returns-clause-progress : goal.returns-clause-progress
returns-clause-progress c =
    c.finish.ensures.progress
    ∙ ap₂ (λ n codes. finished c.args.order n codes (fixture_of c.args.device.now) (progress_of c.args.device.now)) c.words_in.ensures.value
    c.move_all.ensures.block
