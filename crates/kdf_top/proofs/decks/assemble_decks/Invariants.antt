use Rattle.std.proofs.Common.{◌≡◌, All, map, take, drop}
use Rattle.kdf_top.specs.Deck.{deck_fault}
use Rattle.kdf_job.specs.Shows.{shown_slot}
use Rattle.kdf_top.proofs.LoadedDecks.{pictured, picture_due, Fitting}
use Rattle.kdf_top.proofs.decks.assemble_decks.Given as goal

abbrev pub invariant-loop-slot : goal.invariant-loop-slot
invariant-loop-slot l = record {
  pictures : map pictured l.images.items ≡ map picture_due (take l.slot-index l.slots);
  fits : All Fitting (take l.slot-index l.slots);
  first : deck_fault (map shown_slot l.slots) ≡ deck_fault (map shown_slot (drop l.slot-index l.slots));
}
