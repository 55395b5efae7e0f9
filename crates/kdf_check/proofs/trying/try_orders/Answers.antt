use Rattle.std.proofs.Common.{◌≡◌, ℕ, List, Option, sym, ap, subst, ◌∙◌}
use Rattle.kdf_theory.proofs.Results.{if_ok, on_err}
use Rattle.kdf_alone.specs.declared.lone_port.LonePort.{LonePort}
use Rattle.kdf_check.specs.Around.{Around}
use Rattle.kdf_check.specs.Batches.{HasBatch, HasStopped}
use Rattle.kdf_check.specs.declared.table.Pending.{Pending}
use Rattle.kdf_check.proofs.trying.try_orders.Goals as goal

-- what was lent is what the check port has, at first and in the end
over : (P : ℕ → Around → LonePort → LonePort → List (Option Pending) → Type 0) {p q : ℕ} {a b : Around} {first now left new : LonePort}
    {table places : List (Option Pending)} → q ≡ p → b ≡ a → now ≡ first → new ≡ left → places ≡ table → P q b now left table → P p a first new places
over P {p} {q} {a} {b} {first} {now} {left} {new} {table} {places} p_is around_is bench_is bench_back table_back h =
    subst (λ (t : List (Option Pending)). P p a first new t) (sym table_back)
    (subst (λ (k : LonePort). P p a first k table) (sym bench_back)
    (subst (λ (k : LonePort). P p a k left table) bench_is
    (subst (λ (x : Around). P p x now left table) around_is
    (subst (λ (k : ℕ). P k b now left table) p_is h))))

pub returns-clause-tried : goal.returns-clause-tried
returns-clause-tried c =
    let made = c.new-desk.ensures in
    let kept = c.obey_quiet.ensures.same in
    if_ok c.obey_quiet.result.1 _ _
    (λ x h. over (λ p a b k t. HasBatch p a c.obey_quiet.result.0 c.args.registers.now b c.obey_quiet.new.registers k t x.0 x.1)
    made.p made.around made.bench
    (c.bench-1.given.1 (sym (kept.bench ∙ made.same_bench)))
    (ap (λ t. t.places) (c.table-1.given.1 (sym (kept.table ∙ made.same_table)))) h)
    c.obey_quiet.ensures.tried

pub returns-clause-err : goal.returns-clause-err
returns-clause-err c =
    let made = c.new-desk.ensures in
    let kept = c.obey_quiet.ensures.same in
    on_err c.obey_quiet.result.1 _ _
    (λ h. over (λ p a b k t. HasStopped p a c.obey_quiet.result.0 c.args.registers.now b c.obey_quiet.new.registers k)
    made.p made.around made.bench
    (c.bench-1.given.1 (sym (kept.bench ∙ made.same_bench)))
    (ap (λ t. t.places) (c.table-1.given.1 (sym (kept.table ∙ made.same_table)))) h)
    c.obey_quiet.ensures.err
