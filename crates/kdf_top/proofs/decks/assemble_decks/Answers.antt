use Rattle.std.proofs.Common.{◌≡◌, take, ◌<◌, ◌++◌, ◌∷◌, [], get_or, length, rules, subst, ◌∙◌, arith}
use Rattle.kdf_top.proofs.LoadedDecks.{first-here, first-on, none-left, pictures-on, fits-on, has_images, all_taken}
use Rattle.kdf_top.specs.Deck.{IsDeck}
use Rattle.kdf_top.proofs.decks.assemble_decks.Goals as goal

pub loop-slot-preserved : goal.loop-slot-preserved
loop-slot-preserved c =
    let slots = c.args.slots.now in
    let i = c.loop-slot.slot-index in
    let slot = c.slot-item.result in
    let image = c.in-Ok.image in
    let lt : i < length slots = omega arith in
    let is : get_or slots i slot ≡ slot = search rules in
    let pushed : c.push.new.self.items ≡ c.loop-slot.images.items ++ image ∷ [] = search rules in
    record {
      pictures = rw pushed (pictures-on slots i slot slot lt is image c.in-Ok.ensures.answer c.loop-slot.images.items c.loop-slot.invariant.pictures);
      fits = fits-on slots i slot slot lt is image c.in-Ok.ensures.answer c.in-Ok.ensures.fits c.loop-slot.invariant.fits;
      first = c.loop-slot.invariant.first ∙ first-on slots i slot slot lt is image c.in-Ok.ensures.answer;
    }

pub returns-clause-images : goal.returns-clause-images
returns-clause-images c =
    let slots = c.args.slots.now in
    let all : take c.loop-slot.slot-index slots ≡ slots = all_taken slots c.loop-slot.slot-index (omega arith) in
    has_images slots c.loop-slot.images.items (rw all at c.loop-slot.invariant.pictures) (rw all at c.loop-slot.invariant.fits)

pub assemble_deck-requires : goal.assemble_deck-requires
assemble_deck-requires c =
    let slots = c.args.slots.now in
    let i = c.loop-slot.slot-index in
    let slot = c.slot-item.result in
    let lt : i < length slots = omega arith in
    let is : get_or slots i slot ≡ slot = search rules in
    subst IsDeck is (c.requires i slot lt)

pub returns-in-Err-Fault-clause-fault : goal.returns-in-Err-Fault-clause-fault
returns-in-Err-Fault-clause-fault c =
    let slots = c.args.slots.now in
    let i = c.loop-slot.slot-index in
    let slot = c.slot-item.result in
    let lt : i < length slots = omega arith in
    let is : get_or slots i slot ≡ slot = search rules in
    rw c.in-Err-Fault.field-0-is (c.loop-slot.invariant.first
    ∙ first-here slots i slot slot _ lt is (rw c.in-Err-Fault.field-0-is at c.in-Err-Fault.ensures.answer))

pub returns-clause-ok : goal.returns-clause-ok
returns-clause-ok c = c.loop-slot.invariant.first ∙ none-left c.args.slots.now c.loop-slot.slot-index (omega arith)
