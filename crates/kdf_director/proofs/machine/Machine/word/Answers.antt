use Rattle.std.specs.Prelude.{IsSomeAnd}
use Rattle.std.proofs.Common.{◌≡◌, ◌+◌, ◌<◌, length, map, sym, ap, ◌∙◌, subst}
use Rattle.kdf_processor.specs.State.{State, word_at}
use Rattle.kdf_places.specs.Words.{word_at_place}
use Rattle.kdf_theory.specs.MachineView.{MachineView, state_of}
use Rattle.kdf_places.specs.Spots.{leases_of, spot_of}
use Rattle.kdf_director.proofs.Linking.FieldsShow.{sixteen, word_below, word_in_store, word_shown}
use Rattle.kdf_director.proofs.machine.Machine.word.Goals as goal

pub word_of-requires-clause-below : goal.word_of-requires-clause-below
word_of-requires-clause-below c =
    let m = c.self.inside in
    word_below m c.self.invariant c.args.p c.args.address
    (subst (λ (v : MachineView). IsSomeAnd (state_of v c.args.p) (λ (x : State). c.args.address < x.stock.claims.size)) (sym c.self.view_is) c.requires)
    c.window_of-window.result c.window_of-window.ensures

pub word_of-requires-clause-in_store : goal.word_of-requires-clause-in_store
word_of-requires-clause-in_store c =
    let m = c.self.inside in
    word_in_store m c.self.invariant c.args.p c.args.address
    (subst (λ (v : MachineView). IsSomeAnd (state_of v c.args.p) (λ (x : State). c.args.address < x.stock.claims.size)) (sym c.self.view_is) c.requires)
    c.window_of-window.result c.window_of-window.ensures

pub word_of-requires-clause-sixteen : goal.word_of-requires-clause-sixteen
word_of-requires-clause-sixteen c =
    let m = c.self.inside in
    ap length c.deref.ensures.value ∙ sixteen m c.self.invariant

pub returns : goal.returns
returns c =
    let m = c.self.inside in
    subst (λ (v : MachineView). IsSomeAnd (state_of v c.args.p) (λ (x : State). c.word_of.result ≡ word_at x c.args.address)) c.self.view_is
    (word_shown m c.self.invariant c.args.p c.args.address
    (subst (λ (v : MachineView). IsSomeAnd (state_of v c.args.p) (λ (x : State). c.args.address < x.stock.claims.size)) (sym c.self.view_is) c.requires)
    c.window_of-window.result c.window_of-window.ensures c.word_of.result
    (c.word_of.ensures ∙ ap (λ ps. word_at_place m.store (leases_of (map spot_of ps)) (c.window_of-window.result.base + c.args.address)) c.deref.ensures.value))
