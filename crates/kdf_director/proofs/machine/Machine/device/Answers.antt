use Rattle.std.specs.List.{All}
use Rattle.std.specs.Option.{option_copied}
use Rattle.std.specs.Prelude.{IfSome, is_some}
use Rattle.std.proofs.Common.{◌≡◌, true, None, sym, subst}
use Rattle.kdf_processor.specs.State.{State, own_fixture_at}
use Rattle.kdf_theory.specs.MachineView.{IsDeviceAt, MachineView, state_of}
use Rattle.kdf_director.proofs.Linking.FieldsShow.{device_absent, device_shown, none_copied}
use Rattle.kdf_director.proofs.machine.Machine.device.Goals as goal

pub returns-clause-own : goal.returns-clause-own
returns-clause-own c = λ p.
    let m = c.self.inside in
    subst (λ (v : MachineView). IfSome (state_of v p) (λ (x : State). is_some (own_fixture_at x.stock.claims c.args.d) ≡ true
    → IsDeviceAt x c.args.d (option_copied c.device_in.result))) c.self.view_is
    (device_shown m c.self.invariant c.args.d (option_copied c.device_in.result) c.deref.result.now c.deref-2.result.now c.deref.ensures.value
    c.deref-2.ensures.value c.device_in.ensures p)

pub returns-clause-none : goal.returns-clause-none
returns-clause-none c = λ none.
    let m = c.self.inside in
    none_copied c.device_in.result
    (device_absent m c.self.invariant c.args.d (option_copied c.device_in.result) c.deref.result.now c.deref-2.result.now c.deref.ensures.value
    c.deref-2.ensures.value c.device_in.ensures
    (subst (λ (v : MachineView). All (λ (x : State). own_fixture_at x.stock.claims c.args.d ≡ None) v.states) (sym c.self.view_is) none))
