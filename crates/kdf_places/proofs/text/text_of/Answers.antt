use Rattle.std.proofs.Common.{◌+◌, ◌-◌, ◌<◌, map, sym, ap, subst, ◌∙◌}
use Rattle.std.specs.List.{All, range_with_len}
use Rattle.kdf_lockout.specs.Groups.{word_here}
use Rattle.kdf_media.specs.Media.{through_end}
use Rattle.kdf_transfer.proofs.Codes.{codes_small}
use Rattle.kdf_places.proofs.text.text_of.Goals as goal

pub up_to_end-requires : goal.up_to_end-requires
up_to_end-requires c =
    subst (All (λ code. code < 64)) (sym c.push_words.ensures)
    (codes_small (map (word_here c.args.store.now) (range_with_len c.args.first (c.args.last + 1 - c.args.first))))

pub returns : goal.returns
returns c = c.up_to_end.ensures ∙ ap through_end c.push_words.ensures
