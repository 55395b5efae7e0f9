use Rattle.std.proofs.Common.{Some, None, set, refl, sym, ap, ◌∙◌, ℕ, subst, arith, ◌<◌, ◌≤◌, ◌+◌}
use Rattle.kdf_journal.specs.Counts.{calls}
use Rattle.kdf_theory.proofs.Results.{if_ok, on_ok}
use Rattle.kdf_check.specs.Around.{around_by}
use Rattle.kdf_check.specs.Keeps.{Keeps}
use Rattle.kdf_check.specs.Turned.{AreTurned}
use Rattle.kdf_check.proofs.Keeping.{next-asked, next-followed, next-live, next-not-none, next-posed, next-ran, next-within, turned-keeps}
use Rattle.kdf_check.proofs.Nexts.{around_is}
use Rattle.kdf_check.proofs.Pairs.{pair}
use Rattle.kdf_check.proofs.turns.take_turn.Goals as goal

pub index_mut-requires : goal.index_mut-requires
index_mut-requires g c =
    let answers : ℕ → ℕ → Type 0 = λ n a. goal.F-post g c.args.service.now n a in
    let within = next-within answers g.slots c.args.journal.now.entries c.args.table.now.places c.args.programs.now.items c.requires.1.1.1.0
    c.args.p c.from.result None c.requires.1.1.0 c.from.ensures in
    omega (arith, within, c.args.programs.now.ok.0)

pub turn-requires : goal.turn-requires
turn-requires g c =
    let answers : ℕ → ℕ → Type 0 = λ n a. goal.F-post g c.args.service.now n a in
    let slots = g.slots in
    let J = c.args.journal.now.entries in
    let table = c.args.table.now.places in
    let programs = c.args.programs.now.items in
    let p = c.args.p in
    let x = c.in-Some.program in
    let k = c.requires.1.1.1.0 in
    let turn = c.requires.1.1.0 in
    let some : 0 < c.args.most = c.requires.1.1.1.1.0 in
    let few : calls J + c.args.most ≤ 20000000 = c.requires.1.1.1.1.1.1.0 in
    let less : calls J < 20000000 = omega arith in
    let f =
    next-followed answers slots J table programs k p c.from.result c.index_mut.result.now turn c.from.ensures x c.index_mut.ensures.value c.in-Some.is in
    let ran : x.registers.ran + c.args.most ≤ 4294967295 = omega (arith, few, next-ran answers slots J table programs k p x f turn less) in
    let asked : x.bench.asked < 4294967295 = omega (arith, next-asked answers slots J table programs k p x f turn less) in
    λ lives within. pair within
    (pair c.requires.1.0
    (pair (turn ∙ ap (λ (q : ℕ). Some q) (sym f.number))
    (pair (next-posed answers slots J table programs k p x f turn (around_by table J 0) (around_is slots J table k.tells))
    (pair (next-live answers slots J table programs k p x f turn)
    (pair some (pair ran (pair asked c.requires.1.1.1.1.1)))))))

pub unreachable-requires : goal.unreachable-requires
unreachable-requires g c =
    let answers : ℕ → ℕ → Type 0 = λ n a. goal.F-post g c.args.service.now n a in
    next-not-none answers g.slots c.args.journal.now.entries c.args.table.now.places c.args.programs.now.items c.requires.1.1.1.0
    c.args.p c.from.result c.index_mut.result.now c.requires.1.1.0 c.from.ensures c.index_mut.ensures.value c.in-None.is

pub returns-clause-goes_on : goal.returns-clause-goes_on
returns-clause-goes_on g c = if_ok c.turn.result _ _ (λ made t. t.goes_on) c.turn.ensures.turned

pub returns-clause-keeps : goal.returns-clause-keeps
returns-clause-keeps g c =
    let answers : ℕ → ℕ → Type 0 = λ n a. goal.F-post g c.args.service.now n a in
    let slots = g.slots in
    let J = c.args.journal.now.entries in
    let K = c.turn.new.journal.entries in
    let table = c.args.table.now.places in
    let left = c.turn.new.table.places in
    let programs = c.args.programs.now.items in
    let p = c.args.p in
    let x = c.turn.new.program in
    let k = c.requires.1.1.1.0 in
    let turn = c.requires.1.1.0 in
    let f =
    next-followed answers slots J table programs k p c.from.result c.index_mut.result.now turn c.from.ensures c.in-Some.program
    c.index_mut.ensures.value c.in-Some.is in
    let within = next-within answers slots J table programs k p p None turn refl in
    on_ok c.turn.result _ _
    (λ made t. subst (λ (n : ℕ). Keeps answers slots K left (set programs n (Some x))) (sym c.from.ensures)
    (turned-keeps answers slots J table programs k p made x left K
    (subst (λ (q : ℕ). AreTurned answers slots made J q x left K) f.number t) f.there within))
    c.turn.ensures.turned
