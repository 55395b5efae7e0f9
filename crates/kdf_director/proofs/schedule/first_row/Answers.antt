use Rattle.std.proofs.Common.{◌≡◌, ℕ, ◌<◌, refl, ap, sym, ◌∙◌, arith, inr, length, subst, take}
use Rattle.std.proofs.lemmas.List.Elements.{All-nil}
use Rattle.kdf_schedule.specs.declared.event.Event.TheVariants.{Orders}
use Rattle.kdf_director.specs.Rows.{IsOfOrders, IsRow}
use Rattle.kdf_director.proofs.Course.Rows.{all_more, orders_more, orders_taken, orders_within, some_orders}
use Rattle.kdf_director.proofs.schedule.first_row.Goals as goal

pub loop-i-init : goal.loop-i-init
loop-i-init c = record {
  count = refl;
  all = All-nil IsOfOrders;
  some = λ lt. absurd (omega (arith, lt));
}

pub overflow_add-orders : goal.overflow_add-orders
overflow_add-orders c =
    omega (
      arith,
      c.loop-i.invariant.count,
      c.requires.few,
      orders_within c.args.events.now c.loop-i.i c.in-Orders.n (Orders 0) c.loop-i-test.true
          c.in-Orders.is,
    )

pub returns-in_default-2 : goal.returns-in_default-2
returns-in_default-2 c =
    let behind : 0 < c.loop-i.i = omega (arith, c.if-i-eq0.false) in
    record {
      some = behind;
      within = omega (arith, c.loop-i-test.true);
      row = inr (ap Orders c.loop-i.invariant.count, c.loop-i.invariant.all);
      in_range = (c.loop-i.invariant.some behind, omega (arith, c.loop-i.invariant.count, c.requires.few, orders_taken c.args.events.now c.loop-i.i));
    }

pub loop-i-preserved : goal.loop-i-preserved
loop-i-preserved c = record {
  count = sym (orders_more c.args.events.now c.loop-i.i c.in-Orders.n (Orders 0) c.loop-i-test.true c.in-Orders.is ∙ omega (arith, c.loop-i.invariant.count));
  all = all_more c.args.events.now c.loop-i.i c.in-Orders.n (Orders 0) c.loop-i-test.true c.in-Orders.is c.loop-i.invariant.all;
  some = λ _. omega (arith, some_orders c.args.events.now c.loop-i.i c.in-Orders.n (Orders 0) c.loop-i-test.true c.in-Orders.is c.requires.in_range);
}

pub returns-clause-row : goal.returns-clause-row
returns-clause-row c =
    let all : c.loop-i.i ≡ length c.args.events.now = omega (arith, c.loop-i-test.false, c.loop-i.auto.i-end) in
    subst (λ (n : ℕ). IsRow (Orders c.loop-i.orders) (take n c.args.events.now)) all (inr (ap Orders c.loop-i.invariant.count, c.loop-i.invariant.all))

pub returns-clause-in_range : goal.returns-clause-in_range
returns-clause-in_range c = (
  c.loop-i.invariant.some (omega (arith, c.requires.some, c.loop-i-test.false)),
  omega (arith, c.loop-i.invariant.count, c.requires.few, orders_taken c.args.events.now c.loop-i.i),
)
