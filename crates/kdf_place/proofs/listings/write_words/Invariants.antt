use Rattle.std.proofs.Common.{take}
use Rattle.kdf_text.specs.Text.{Adds}
use Rattle.kdf_place.specs.Listing.{word_lines}
use Rattle.kdf_place.proofs.listings.write_words.Given as goal

abbrev pub invariant-loop-address : goal.invariant-loop-address
invariant-loop-address l = Adds l.initial.out l.out (word_lines (take l.address l.words))
