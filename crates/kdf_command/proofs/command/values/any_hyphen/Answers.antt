use Rattle.std.proofs.Common.{◌∙◌, rules, tests, string_bytes}
use Rattle.std.proofs.lemmas.Iterator.{YieldsList-from_slice}
use Rattle.std.proofs.lemmas.Iterator.Search.{any_from_yields_List}
use Rattle.clap.proofs.WalkLemmas.{list_any-map}
use Rattle.kdf_command.specs.Values.{has_hyphen}
use Rattle.kdf_command.proofs.command.values.any_hyphen.Goals as goal

pub returns : goal.returns
returns c =
    any_from_yields_List (λ w. has_hyphen (string_bytes w)) _ _ _ c.any.ensures.ran
    (YieldsList-from_slice c.args.words.now cc) (λ x b q k. search (rules, tests))
    ∙ list_any-map has_hyphen string_bytes c.args.words.now
