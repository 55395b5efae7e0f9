use Rattle.std.specs.List.{All}
use Rattle.std.specs.Prelude.{IfSome, is_some}
use Rattle.std.proofs.Common.{◌≡◌, true, None, map, sym, ap₂, ◌∙◌, subst}
use Rattle.kdf_journal.specs.Counts.{holder}
use Rattle.kdf_processor.specs.Claims.{is_claimed}
use Rattle.kdf_processor.specs.State.{State, fixture_at, is_pooled, own_fixture_at}
use Rattle.kdf_yard.specs.Fields.Filled.{loaded, pool_in}
use Rattle.kdf_yard.specs.Fields.Owners.{is_claimed_by, owner_in}
use Rattle.kdf_yard.specs.Fields.Running.{seats_in}
use Rattle.kdf_theory.specs.MachineView.{MachineView, state_of}
use Rattle.kdf_director.proofs.Linking.FieldsShow.{claimed_absent, claimed_shown, claims_it, pool_shown}
use Rattle.kdf_director.proofs.machine.Machine.claimed.Goals as goal
use Rattle.kdf_director.proofs.machine.Machine.claimed.Goals.{After-is_claimed_in}

-- what was found for these slots, programs and places, which are the machine's
found : (c : After-is_claimed_in) → c.is_claimed_in.result ≡ claims_it c.self.inside c.self.invariant c.args.d
found c =
    c.is_claimed_in.ensures
    ∙ ap₂ (λ xs ps. is_claimed_by (owner_in xs c.args.d) (seats_in ps) (pool_in (map loaded xs)) c.self.inside.journal.entries c.args.d) c.deref.ensures.value
    c.deref-2.ensures.value

pub returns-clause-own : goal.returns-clause-own
returns-clause-own c = λ p.
    let m = c.self.inside in
    subst (λ (v : MachineView). IfSome (state_of v p) (λ (x : State). is_some (own_fixture_at x.stock.claims c.args.d) ≡ true
    → c.is_claimed_in.result ≡ is_claimed x.stock.claims c.args.d)) c.self.view_is
    (claimed_shown m c.self.invariant c.args.d p c.is_claimed_in.result (found (goal.at.returns-clause-own c).After-is_claimed_in))

pub returns-clause-pool : goal.returns-clause-pool
returns-clause-pool c = λ p.
    let m = c.self.inside in
    subst (λ (v : MachineView). IfSome (state_of v p) (λ (x : State). is_pooled x.stock.claims c.args.d ≡ true
    → c.is_claimed_in.result ≡ is_some (holder c.args.d v.journal))) c.self.view_is
    (pool_shown m c.self.invariant c.args.d p c.is_claimed_in.result (found (goal.at.returns-clause-pool c).After-is_claimed_in))

pub returns-clause-none : goal.returns-clause-none
returns-clause-none c = λ none.
    let m = c.self.inside in
    found (goal.at.returns-clause-none c).After-is_claimed_in
    ∙ claimed_absent m c.self.invariant c.args.d
    (subst (λ (v : MachineView). All (λ (x : State). fixture_at x.stock.claims c.args.d ≡ None) v.states) (sym c.self.view_is) none)
