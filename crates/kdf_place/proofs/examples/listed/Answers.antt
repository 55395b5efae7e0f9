use Rattle.std.proofs.Common.{refl}
use Rattle.std.specs.Fmt.{digits}
use Rattle.kdf_text.specs.Text.{octal, text}
use Rattle.kdf_place.specs.Listing.{listing_lines}
use Rattle.kdf_place.proofs.examples.listed.Goals as goal

pub returns-clause-lines : goal.returns-clause-lines
unfolding digits octal listing_lines
returns-clause-lines c = refl

pub returns-clause-absent : goal.returns-clause-absent
unfolding digits text
returns-clause-absent c = refl
