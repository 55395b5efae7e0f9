use Rattle.std.specs.Prelude.{find, slice_get, IfSome, IsSomeAnd}
use Rattle.std.proofs.Common.{◌<◌, eqb, get_or, length, map, sym, subst}
use Rattle.kdf_processor.specs.State.{State, lendings}
use Rattle.kdf_processor.specs.Stints.{IsStint}
use Rattle.kdf_yard.specs.Fields.Owners.{HasLent, IsTold}
use Rattle.kdf_theory.specs.MachineView.{MachineView, state_of}
use Rattle.kdf_places.specs.Spots.{spot_of}
use Rattle.kdf_yard.specs.Fields.Stints.{keeping_of, no_keeping}
use Rattle.kdf_yard.specs.declared.program.Program.{Program}
use Rattle.kdf_director.proofs.Linking.FieldsShow.{stint_lent, stint_shown, stint_there}
use Rattle.kdf_director.proofs.machine.Machine.stint.Goals as goal

pub stint_in-requires-clause-there : goal.stint_in-requires-clause-there
stint_in-requires-clause-there c =
    let m = c.self.inside in
    subst (λ xs. IsSomeAnd (find (λ (x : Program). eqb x.p c.args.p) xs) (λ (x : Program). c.args.i < length x.stints.items)) (sym c.deref.ensures.value)
    (stint_there m c.self.invariant c.args.p c.args.i
    (subst (λ (v : MachineView). IsSomeAnd (state_of v c.args.p) (λ (x : State). c.args.i < length (lendings x.stock))) (sym c.self.view_is) c.requires))

pub stint_in-requires-clause-lent : goal.stint_in-requires-clause-lent
stint_in-requires-clause-lent c =
    let m = c.self.inside in
    subst (λ xs. IfSome (find (λ (x : Program). eqb x.p c.args.p) xs)
    (λ (x : Program). HasLent (map spot_of c.deref-2.result.now) (map keeping_of x.stints.items))) (sym c.deref.ensures.value)
    (subst (λ ps. IfSome (find (λ (x : Program). eqb x.p c.args.p) m.programs.items)
    (λ (x : Program). HasLent (map spot_of ps) (map keeping_of x.stints.items))) (sym c.deref-2.ensures.value)
    (stint_lent m c.self.invariant c.args.p c.args.i
    (subst (λ (v : MachineView). IsSomeAnd (state_of v c.args.p) (λ (x : State). c.args.i < length (lendings x.stock))) (sym c.self.view_is) c.requires)))

pub returns : goal.returns
returns c =
    let m = c.self.inside in
    subst (λ (v : MachineView). IsSomeAnd (state_of v c.args.p)
    (λ (x : State). IfSome (slice_get (lendings x.stock) c.args.i) (λ l. IsStint l c.stint_in.result.0 c.stint_in.result.1 c.stint_in.result.2.now)))
    c.self.view_is
    (stint_shown m c.self.invariant c.args.p c.args.i
    (subst (λ (v : MachineView). IsSomeAnd (state_of v c.args.p) (λ (x : State). c.args.i < length (lendings x.stock))) (sym c.self.view_is) c.requires)
    c.stint_in.result.0 c.stint_in.result.1 c.stint_in.result.2.now
    (subst (λ xs. IfSome (find (λ (x : Program). eqb x.p c.args.p) xs)
    (λ (x : Program). IsTold (map spot_of m.devices.items) (get_or (map keeping_of x.stints.items) c.args.i no_keeping) c.stint_in.result.0
    c.stint_in.result.1 c.stint_in.result.2.now)) c.deref.ensures.value
    (subst (λ ps. IfSome (find (λ (x : Program). eqb x.p c.args.p) c.deref.result.now)
    (λ (x : Program). IsTold (map spot_of ps) (get_or (map keeping_of x.stints.items) c.args.i no_keeping) c.stint_in.result.0 c.stint_in.result.1
    c.stint_in.result.2.now)) c.deref-2.ensures.value c.stint_in.ensures)))
