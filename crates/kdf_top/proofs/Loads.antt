-- The state of a program that was loaded from a slot, and ran by itself.
use Rattle.std.proofs.Common.{◌≡◌, ℕ, List, [], ap, ◌∙◌}
use Rattle.kdf_schedule.specs.Calls.{order_count}
use Rattle.kdf_schedule.specs.declared.event.Event.{Event}
use Rattle.kdf_place.specs.Assembled.{image_words}
use Rattle.kdf_processor.specs.Lone.{lone}
use Rattle.kdf_processor.specs.State.{State, begin}
use Rattle.kdf_job.specs.Job.{ShownSlot}
use Rattle.kdf_job.specs.Slots.{slot_of}
use Rattle.kdf_top.specs.Due.{alone_state}

-- so many orders, with every ask answered 0
pub same_state : (slot : ShownSlot) (words : List ℕ) (events : List Event) (n : ℕ) (t s : State) → t ≡ begin (slot_of slot words) → s ≡ lone t [] n
    → words ≡ image_words slot.size slot.deck → n ≡ order_count events → s ≡ alone_state events slot
same_state slot words events n t s at_start after are count =
    after ∙ ap (λ (x : State). lone x [] n) at_start
    ∙ ap (λ (ws : List ℕ). lone (begin (slot_of slot ws)) [] n) are
    ∙ ap (lone (begin (slot_of slot (image_words slot.size slot.deck))) []) count
