use Rattle.std.proofs.Common.{◌≡◌, ◌+◌, ◌≤◌, sym, ap, ◌∙◌, subst}
use Rattle.kdf_journal.specs.Counts.{calls}
use Rattle.kdf_director.specs.Fields.Agrees.{IsReady}
use Rattle.kdf_yard.specs.Fields.Standing.{Standing, standing, IsYard}
use Rattle.kdf_director.specs.Fields.Viewed.{shown_of}
use Rattle.kdf_director.specs.Lends.{windows_in}
use Rattle.kdf_director.specs.Halts.{HasMadeButTo, HasMadeTo}
use Rattle.kdf_theory.specs.MachineView.{MachineView}
use Rattle.kdf_director.proofs.Calls.CallsAtOnce.{at_four}
use Rattle.kdf_director.proofs.Calls.CallsInTurn.{lived}
use Rattle.kdf_director.proofs.Linking.MachineLends.{windows_same}
use Rattle.kdf_theory.proofs.Results.{if_ok, on_either, on_err}
use Rattle.kdf_director.proofs.machine.Machine.orders_to.Given.{Over}
use Rattle.kdf_director.proofs.machine.Machine.orders_to.Goals as goal

pub invariant_of-yard : goal.invariant_of-yard
invariant_of-yard g c =
    at_four (λ slots store programs places. IsYard slots.items c.self.inside.windows store programs.items places.items) (sym c.replace.ensures.value)
    (sym c.replace-2.ensures.value) (sym c.replace-3.ensures.value) (sym c.replace-4.ensures.value) c.self.invariant.yard

pub orders-made-requires-clause-ready : goal.orders-made-requires-clause-ready
orders-made-requires-clause-ready g c =
    at_four (λ slots store programs places. IsReady (standing slots.items c.self.inside.windows store programs.items places.items) c.self.inside.journal
    c.self.inside.room) (sym c.replace.ensures.value) (sym c.replace-2.ensures.value) (sym c.replace-3.ensures.value) (sym c.replace-4.ensures.value)
    c.self.invariant.ready

pub orders-made-requires-clause-few : goal.orders-made-requires-clause-few
orders-made-requires-clause-few g c = subst (λ (m : MachineView). calls m.journal + c.args.left.now ≤ 20000000) (sym c.self.view_is) c.requires.few

-- so it stood before the calls
lifted : (g : Over) (c : goal.After-destroy_empty g)
    → shown_of (standing c.replace.result.items c.self.inside.windows c.replace-2.result c.replace-3.result.items c.replace-4.result.items)
    c.self.inside.journal c.self.inside.room ≡ c.args.self.now
lifted g c =
    at_four (λ slots store programs places. shown_of (standing slots.items c.self.inside.windows store programs.items places.items) c.self.inside.journal
    c.self.inside.room ≡ c.args.self.now) (sym c.replace.ensures.value) (sym c.replace-2.ensures.value) (sym c.replace-3.ensures.value)
    (sym c.replace-4.ensures.value)
    c.self.view_is

-- the slots stay, and so their windows
same_slots : (g : Over) (c : goal.After-destroy_empty g) → c.orders-made.new.yard.slots ≡ c.args.self.now.slots
same_slots g c =
    on_either c.orders-made.result _ _ _ c.orders-made.ensures.made c.orders-made.ensures.err
    (λ r x. (lived (λ n a. goal.F-post g c.args.service.now n a) _ x.made _ r x.some).2.slots)
    (λ fewer. fewer.on.slots)
    ∙ ap (λ (m : MachineView). m.slots) (lifted g c)

same_windows : (g : Over) (c : goal.After-destroy_empty g) → c.yard.inside.windows ≡ c.self.inside.windows
same_windows g c =
    c.yard.invariant.placed
    ∙ windows_same c.yard.inside.slots.items
    ∙ ap windows_in (ap (λ (y : Standing). y.slots) c.yard.view_is ∙ same_slots g c ∙ sym (ap (λ (m : MachineView). m.slots) c.self.view_is))
    ∙ sym (windows_same c.self.inside.slots.items)
    ∙ sym c.self.invariant.yard.placed

-- so it stands after them
laid_down : (g : Over) (c : goal.After-destroy_empty g)
    → c.orders-made.new.yard ≡ standing c.replace-5.new.dest.items c.self.inside.windows c.replace-6.new.dest c.replace-7.new.dest.items
    c.replace-8.new.dest.items
laid_down g c =
    at_four (λ slots store programs places. c.orders-made.new.yard ≡ standing slots.items c.self.inside.windows store programs.items places.items)
    (sym c.replace-5.ensures.after) (sym c.replace-6.ensures.after) (sym c.replace-7.ensures.after) (sym c.replace-8.ensures.after)
    (subst (λ windows. c.orders-made.new.yard ≡ standing c.yard.inside.slots.items windows c.yard.inside.store c.yard.inside.programs.items
    c.yard.inside.places.items) (same_windows g c) (sym c.yard.view_is))

pub invariant_of-self : goal.invariant_of-self
invariant_of-self g c =
    record {
      yard =
          at_four (λ slots store programs places. IsYard slots.items c.self.inside.windows store programs.items places.items) (sym c.replace-5.ensures.after)
          (sym c.replace-6.ensures.after) (sym c.replace-7.ensures.after) (sym c.replace-8.ensures.after)
          (subst (λ windows. IsYard c.yard.inside.slots.items windows c.yard.inside.store c.yard.inside.programs.items c.yard.inside.places.items)
          (same_windows g c) c.yard.invariant);
      ready = subst (λ (y : Standing). IsReady y c.orders-made.new.journal c.self.inside.room) (laid_down g c) c.orders-made.ensures.ready;
    }

pub returns-clause-made : goal.returns-clause-made
returns-clause-made g c =
    if_ok c.orders-made.result _ _
    (λ r made.
    subst (λ (y : Standing). HasMadeTo (λ n a. goal.F-post g c.args.service.now n a) c.args.halt c.args.left.now c.orders-made.new.left c.args.self.now
    (shown_of y c.orders-made.new.journal c.self.inside.room) r) (laid_down g c)
    (subst (λ (old : MachineView). HasMadeTo (λ n a. goal.F-post g c.args.service.now n a) c.args.halt c.args.left.now c.orders-made.new.left old
    (shown_of c.orders-made.new.yard c.orders-made.new.journal c.self.inside.room) r) (lifted g c) made))
    c.orders-made.ensures.made

pub returns-clause-err : goal.returns-clause-err
returns-clause-err g c =
    on_err c.orders-made.result _ _
    (λ fewer.
    subst (λ (y : Standing). HasMadeButTo (λ n a. goal.F-post g c.args.service.now n a) c.args.halt c.args.left.now c.orders-made.new.left c.args.self.now
    (shown_of y c.orders-made.new.journal c.self.inside.room)) (laid_down g c)
    (subst (λ (old : MachineView). HasMadeButTo (λ n a. goal.F-post g c.args.service.now n a) c.args.halt c.args.left.now c.orders-made.new.left old
    (shown_of c.orders-made.new.yard c.orders-made.new.journal c.self.inside.room)) (lifted g c) fewer))
    c.orders-made.ensures.err

pub returns-clause-slots : goal.returns-clause-slots
returns-clause-slots g c = ap (λ (y : Standing). y.slots) (sym (laid_down g c)) ∙ same_slots g c

pub returns-clause-room : goal.returns-clause-room
returns-clause-room g c = ap (λ (m : MachineView). m.room) c.self.view_is
