use Rattle.std.proofs.Common.{◌≡◌, ◌<◌, get_or, length, rules}
use Rattle.kdf_top.proofs.Found.{found_here}
use Rattle.kdf_facts.proofs.alone.find_slot.Goals as goal

pub returns-then-slot-p : goal.returns-then-slot-p
returns-then-slot-p c =
    let slots = c.args.slots.now in
    let images = c.args.images.now in
    let k = c.loop-i.i in
    let slot = c.index-slots-i.result in
    let image = c.index-images-i.result in
    let lt : k < length slots = search rules in
    let is : get_or slots k slot ≡ slot = search rules in
    let its : get_or images k image ≡ image = search rules in
    let same : slot.p ≡ c.args.p = search rules in
    record { some = found_here slots images c.requires.images c.args.p k slot slot image image lt is its c.loop-i.invariant c.requires.slots same }
