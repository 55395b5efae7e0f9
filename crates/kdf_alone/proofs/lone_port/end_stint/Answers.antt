use Rattle.std.specs.Prelude.{HoldsAt}
use Rattle.std.specs.List.{All}
use Rattle.std.proofs.Common.{◌<◌, ℕ, length, sym, subst}
use Rattle.kdf_alone.specs.Stints.{IsOpen}
use Rattle.kdf_alone.proofs.Stints.{ended_none, ends_at}
use Rattle.kdf_alone.proofs.lone_port.end_stint.Goals as goal

pub returns-in-Some : goal.returns-in-Some
returns-in-Some c =
    let items = c.args.stints.now.items in
    let i : ℕ = c.in-Some.i in
    ends_at c.args.d c.args.left items i c.index_mut.result.now _ c.requires.one
    (subst (λ xs. i < length xs) c.deref.ensures.value c.in-Some.ensures.number)
    (subst (λ xs. HoldsAt (IsOpen c.args.d) xs i) c.deref.ensures.value c.in-Some.ensures.is)
    c.index_mut.ensures.value

pub returns-in_default : goal.returns-in_default
returns-in_default c =
    sym (ended_none c.args.d c.args.left c.args.stints.now.items
    (subst (λ xs. All (λ x. IsOpen c.args.d x → ⊥) xs) c.deref.ensures.value c.in_default.ensures.none))
