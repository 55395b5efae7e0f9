use Rattle.std.proofs.Common.{◌-◌, ◌∷◌, [], ◌++◌, ◌∙◌, ap, arith, refl}
use Rattle.kdf_schedule.specs.declared.event.Event.TheVariants.{Orders}
use Rattle.kdf_trace.proofs.Tails.{all_calls, first_all, first_calls, first_count, first_few, first_rises, more_all, more_calls, more_count, more_few}
use Rattle.kdf_trace.proofs.Tails.{more_rises, same_calls}
use Rattle.kdf_trace.proofs.tail.follow_tail.Goals as goal

pub follow-requires-clause-few : goal.follow-requires-clause-few
follow-requires-clause-few g c =
    first_few c.args.front.now c.args.n c.requires.few c.requires.more c.requires.rises c.requires.in_range c.deref.result.now
    (c.deref.ensures.value ∙ (c.in_ok-push.ensures.items ∙ ap (λ xs. xs ++ Orders (c.args.n - 156) ∷ []) c.in_ok-events.ensures.items))

pub follow-requires-clause-rises : goal.follow-requires-clause-rises
follow-requires-clause-rises g c =
    first_rises c.args.front.now c.args.n c.requires.few c.requires.more c.requires.rises c.requires.in_range c.deref.result.now
    (c.deref.ensures.value ∙ (c.in_ok-push.ensures.items ∙ ap (λ xs. xs ++ Orders (c.args.n - 156) ∷ []) c.in_ok-events.ensures.items))

pub follow-requires-clause-in_range : goal.follow-requires-clause-in_range
follow-requires-clause-in_range g c =
    first_all c.args.front.now c.args.n c.requires.few c.requires.more c.requires.rises c.requires.in_range c.deref.result.now
    (c.deref.ensures.value ∙ (c.in_ok-push.ensures.items ∙ ap (λ xs. xs ++ Orders (c.args.n - 156) ∷ []) c.in_ok-events.ensures.items))

pub loop-call-init : goal.loop-call-init
loop-call-init g c =
    let is = c.in_ok-push.ensures.items ∙ ap (λ xs. xs ++ Orders (c.args.n - 156) ∷ []) c.in_ok-events.ensures.items in
    record {
      calls = first_calls c.args.front.now c.args.n c.requires.few c.requires.more c.requires.rises c.requires.in_range c.push.new.self.items is;
      count = first_count c.args.front.now c.args.n c.requires.few c.requires.more c.requires.rises c.requires.in_range c.push.new.self.items is;
      rises = first_rises c.args.front.now c.args.n c.requires.few c.requires.more c.requires.rises c.requires.in_range c.push.new.self.items is;
      in_range = first_all c.args.front.now c.args.n c.requires.few c.requires.more c.requires.rises c.requires.in_range c.push.new.self.items is;
      slots = refl;
      journal = rw c.deref.ensures.value at c.in_ok-follow.ensures.journal;
      seen = c.in_ok-follow.ensures.seen;
    }

pub follow_on-requires-clause-few : goal.follow_on-requires-clause-few
follow_on-requires-clause-few g c =
    more_few c.args.front.now c.args.n c.requires.few c.requires.more c.requires.rises c.requires.in_range c.loop-call.events.items
    c.deref-in-loop-call.result.now
    c.loop-call.call c.loop-call-test.true (c.deref-in-loop-call.ensures.value ∙ c.in_ok-push-2.ensures.items) c.loop-call.invariant.count

pub follow_on-requires-clause-rises : goal.follow_on-requires-clause-rises
follow_on-requires-clause-rises g c =
    more_rises c.args.front.now c.args.n c.requires.few c.requires.more c.requires.rises c.requires.in_range c.loop-call.events.items
    c.deref-in-loop-call.result.now
    c.loop-call.call c.loop-call-test.true (c.deref-in-loop-call.ensures.value ∙ c.in_ok-push-2.ensures.items) c.loop-call.invariant.rises

pub loop-call-preserved : goal.loop-call-preserved
loop-call-preserved g c =
    let is = c.in_ok-push-2.ensures.items in
    record {
      calls = more_calls c.args.front.now c.args.n c.requires.few c.requires.more c.requires.rises c.requires.in_range c.loop-call.events.items
          c.push-in-loop-call.new.self.items c.loop-call.call c.loop-call-test.true is c.loop-call.invariant.calls;
      count = more_count c.args.front.now c.args.n c.requires.few c.requires.more c.requires.rises c.requires.in_range c.loop-call.events.items
          c.push-in-loop-call.new.self.items c.loop-call.call c.loop-call-test.true is c.loop-call.invariant.count;
      rises = more_rises c.args.front.now c.args.n c.requires.few c.requires.more c.requires.rises c.requires.in_range c.loop-call.events.items
          c.push-in-loop-call.new.self.items c.loop-call.call c.loop-call-test.true is c.loop-call.invariant.rises;
      in_range = more_all c.args.front.now c.args.n c.requires.few c.requires.more c.requires.rises c.requires.in_range c.loop-call.events.items
          c.push-in-loop-call.new.self.items c.loop-call.call c.loop-call-test.true is c.loop-call.invariant.in_range;
      slots = c.in_ok-follow_on.ensures.slots ∙ c.loop-call.invariant.slots;
      journal = rw c.deref-in-loop-call.ensures.value at c.in_ok-follow_on.ensures.journal;
      seen = c.in_ok-follow_on.ensures.seen;
    }

pub returns-clause-journal : goal.returns-clause-journal
returns-clause-journal g c =
    same_calls _ _ _ _ _
    (all_calls c.args.front.now c.args.n c.requires.few c.requires.more c.requires.rises c.requires.in_range c.loop-call.events.items c.loop-call.call
    (omega (arith, c.loop-call-test.false, c.loop-call.auto.call-end)) c.loop-call.invariant.calls)
    c.loop-call.invariant.journal
