use Rattle.std.proofs.Common.{◌≡◌, List, map, sym, ap, ◌∙◌, subst, arith}
use Rattle.kdf_job.specs.declared.job.SlotJob.{SlotJob}
use Rattle.kdf_job.specs.WellFormed.{AreSlots}
use Rattle.kdf_job.specs.Shows.{shown_slot}
use Rattle.kdf_place.specs.declared.image.Image.{Image}
use Rattle.kdf_processor.specs.State.{begin}
use Rattle.kdf_director.specs.Fields.Viewed.{states_in}
use Rattle.kdf_theory.specs.Loading.{slots_of}
use Rattle.kdf_theory.specs.MachineView.{MachineView}
use Rattle.kdf_director.proofs.Loading.BeforeOrders.{is_ready, states_start}
use Rattle.kdf_director.proofs.machine.Machine.load.Goals as goal

pub load_yard-requires-clause-slots : goal.load_yard-requires-clause-slots
load_yard-requires-clause-slots c = subst (λ (slots : List SlotJob). AreSlots (map shown_slot slots)) (sym c.deref.ensures.value) c.requires.slots

pub machine_of-requires : goal.machine_of-requires
machine_of-requires c =
    record {
      ready = is_ready _ c.in_ok-yard.yard c.in_ok-yard.ensures.loaded c.reserve.new.self c.len-room.result (c.reserve.ensures.entries ∙ c.new-journal.ensures)
          c.in_ok-reserve.ensures.room (omega (arith, c.requires.few_events, c.len-room.ensures));
    }

its_slots : (c : goal.After-machine_of) → c.machine_of.result.slots ≡ slots_of (map shown_slot c.args.job.now.slots.items)
    (map (λ (x : Image). x.words.items) c.args.images.now)
its_slots c =
    ap (λ (m : MachineView). m.slots) c.machine_of.ensures.shown
    ∙ c.in_ok-yard.ensures.loaded.slots_are
    ∙ ap (λ jobs. slots_of (map shown_slot jobs) (map (λ (x : Image). x.words.items) c.args.images.now)) c.deref.ensures.value

pub returns-clause-slots : goal.returns-clause-slots
returns-clause-slots c = its_slots c

pub returns-clause-states : goal.returns-clause-states
returns-clause-states c =
    ap (λ (m : MachineView). m.states) c.machine_of.ensures.shown
    ∙ ap (states_in c.in_ok-yard.yard.reaches c.in_ok-yard.yard.seats c.in_ok-yard.yard.shared) (c.reserve.ensures.entries ∙ c.new-journal.ensures)
    ∙ states_start _ c.in_ok-yard.yard c.in_ok-yard.ensures.loaded
    ∙ ap (map begin) (sym (ap (λ (m : MachineView). m.slots) c.machine_of.ensures.shown ∙ c.in_ok-yard.ensures.loaded.slots_are))

pub returns-clause-journal : goal.returns-clause-journal
returns-clause-journal c = ap (λ (m : MachineView). m.journal) c.machine_of.ensures.shown ∙ c.reserve.ensures.entries ∙ c.new-journal.ensures
