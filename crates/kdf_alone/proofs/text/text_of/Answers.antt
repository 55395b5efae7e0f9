use Rattle.std.proofs.Common.{◌<◌, sym, ap, subst, ◌∙◌}
use Rattle.std.specs.List.{All}
use Rattle.kdf_media.specs.Media.{through_end}
use Rattle.kdf_transfer.proofs.Codes.{codes_small}
use Rattle.kdf_alone.proofs.text.text_of.Goals as goal

pub up_to_end-requires : goal.up_to_end-requires
up_to_end-requires c = subst (All (λ code. code < 64)) (sym c.push_words.ensures) (codes_small c.args.words.now)

pub returns : goal.returns
returns c = c.up_to_end.ensures ∙ ap through_end c.push_words.ensures
