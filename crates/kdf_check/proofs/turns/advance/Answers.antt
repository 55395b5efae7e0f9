use Rattle.std.proofs.Common.{◌≤◌, ◌+◌, ◌≡◌, ℕ, Bool, List, true, false, cond, sym, ap, ◌∙◌, subst, arith}
use Rattle.std.specs.List.{list_any}
use Rattle.kdf_journal.specs.declared.entry.Entry.{Entry}
use Rattle.kdf_journal.specs.Counts.{calls, moves}
use Rattle.kdf_theory.specs.Next.{any_live}
use Rattle.kdf_theory.proofs.Results.{if_ok}
use Rattle.kdf_check.specs.Around.{around_by}
use Rattle.kdf_check.specs.Keeps.{is_on, GoesOnFor, Keeps}
use Rattle.kdf_check.proofs.Nexts.{around_is, found-next, on-same}
use Rattle.kdf_check.proofs.Pairs.{pair}
use Rattle.kdf_check.proofs.Waiting.{waited}
use Rattle.kdf_check.proofs.turns.advance.Goals as goal

pub take_turn-requires : goal.take_turn-requires
take_turn-requires g c =
    let answers : ℕ → ℕ → Type 0 = λ n a. goal.F-post g c.args.service.now n a in
    let J = c.reserve.new.self.entries in
    let still = sym c.reserve.ensures.entries in
    let table = c.args.table.now.places in
    let programs = c.args.programs.now.items in
    let k = subst (λ (E : List Entry). Keeps answers g.slots E table programs) still c.requires.1.1.0 in
    let next_is =
    found-next answers g.slots J table programs k (around_by table J 0) (around_is g.slots J table k.tells) c.deref.result.now
    c.priorities-priorities.result c.next_of.result c.deref.ensures.value c.priorities-priorities.ensures c.next_of.ensures
    ∙ c.in-Some.is in
    λ lives within. pair within
    (pair c.requires.1.0
    (pair next_is
    (pair k
    (pair c.requires.1.1.1.0
    (pair c.in_ok-reserve.ensures.room
    (pair (subst (λ (E : List Entry). calls E + c.args.most ≤ 20000000) still c.requires.1.1.1.1.0)
    (subst (λ (E : List Entry). moves E ≤ 2048000000) still c.requires.1.1.1.1.1)))))))

pub wait-requires : goal.wait-requires
wait-requires g c =
    let room = c.in_ok-reserve.ensures.room in
    record {
      some = c.requires.1.1.1.0;
      room = omega (arith, room);
      few_calls = subst (λ (E : List Entry). calls E + c.args.most ≤ 20000000) (sym c.reserve.ensures.entries) c.requires.1.1.1.1.0;
      few_moves = subst (λ (E : List Entry). moves E ≤ 2048000000) (sym c.reserve.ensures.entries) c.requires.1.1.1.1.1;
    }

waits_within : (b : Bool) (most made : ℕ) → made ≡ cond b most 0 → made ≤ most
waits_within true most made is = omega (arith, is)
waits_within false most made is = omega (arith, is)

pub returns-in-None : goal.returns-in-None
returns-in-None g c =
    let answers : ℕ → ℕ → Type 0 = λ n a. goal.F-post g c.args.service.now n a in
    let slots = g.slots in
    let J = c.reserve.new.self.entries in
    let K = c.wait.new.journal.entries in
    let table = c.args.table.now.places in
    let programs = c.args.programs.now.items in
    let on = list_any is_on c.deref-in-None.result.now in
    let k = subst (λ (E : List Entry). Keeps answers slots E table programs) (sym c.reserve.ensures.entries) c.requires.1.1.0 in
    let none =
    found-next answers slots J table programs k (around_by table J 0) (around_is slots J table k.tells) c.deref.result.now
    c.priorities-priorities.result c.next_of.result c.deref.ensures.value c.priorities-priorities.ensures c.next_of.ensures
    ∙ c.in-None.is in
    let live = sym (on-same answers slots J table programs k) ∙ ap (list_any is_on) (sym c.deref-in-None.ensures.value) in
    let w =
    waited answers slots J table programs k none c.args.most c.wait.result K c.requires.1.1.1.0 on live c.wait.ensures.answer c.wait.ensures.entries in
    record {
      goes_on = subst (λ (E : List Entry). GoesOnFor answers slots c.wait.result E K) c.reserve.ensures.entries w.goes_on;
      none = λ zero. subst (λ (E : List Entry). any_live slots E ≡ false) c.reserve.ensures.entries (w.none zero);
      within = waits_within on c.args.most c.wait.result c.wait.ensures.answer;
      keeps = w.keeps;
    }

pub returns-in-Some-clause-goes_on : goal.returns-in-Some-clause-goes_on
returns-in-Some-clause-goes_on g c =
    let answers : ℕ → ℕ → Type 0 = λ n a. goal.F-post g c.args.service.now n a in
    let K = c.take_turn.new.journal.entries in
    if_ok c.take_turn.result _ _ (λ made on. subst (λ (E : List Entry). GoesOnFor answers g.slots made E K) c.reserve.ensures.entries on)
    c.take_turn.ensures.goes_on

pub returns-in-Some-clause-none : goal.returns-in-Some-clause-none
returns-in-Some-clause-none g c = if_ok c.take_turn.result _ _ (λ made some zero. absurd (omega (arith, some, zero))) c.take_turn.ensures.some
