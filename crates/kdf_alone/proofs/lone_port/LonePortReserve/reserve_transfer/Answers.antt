use Rattle.std.specs.List.{All}
use Rattle.std.proofs.Common.{List, refl, sym, ap, ◌∙◌, subst}
use Rattle.kdf_alone.specs.LonePort.{shown_with}
use Rattle.kdf_alone.specs.Stints.{IsKept}
use Rattle.kdf_alone.proofs.Devices.{seen_stock}
use Rattle.kdf_alone.proofs.Stints.{stays_lent}
use Rattle.kdf_alone.proofs.lone_port.LonePortReserve.reserve_transfer.Goals as goal

pub returns-clause-keeps : goal.returns-clause-keeps
returns-clause-keeps c =
    let b = c.args.self.now in
    record {
      stock = seen_stock b.size b.served b.claimed b.places.items c.make_ready.new.places.items b.stints.items b.spooled.items b.asked b.words.items
          c.make_ready.ensures.own c.make_ready.ensures.kinds c.make_ready.ensures.progresses;
      answer = refl;
    }

pub returns-clause-shows : goal.returns-clause-shows
returns-clause-shows c =
    let b = c.args.self.now in
    ap (λ k. shown_with k b.answer)
    (seen_stock b.size b.served b.claimed b.places.items c.make_ready.new.places.items b.stints.items b.spooled.items b.asked b.words.items
    c.make_ready.ensures.own c.make_ready.ensures.kinds c.make_ready.ensures.progresses)

pub invariant_of-self-2-clause-sixteen : goal.invariant_of-self-2-clause-sixteen
invariant_of-self-2-clause-sixteen c = c.make_ready.ensures.count ∙ c.args.self.now.sixteen

pub invariant_of-self-2-clause-pooled : goal.invariant_of-self-2-clause-pooled
invariant_of-self-2-clause-pooled c = c.make_ready.ensures.whole c.args.self.now.pooled

pub invariant_of-self-2-clause-kept : goal.invariant_of-self-2-clause-kept
invariant_of-self-2-clause-kept c =
    let b = c.args.self.now in
    let Q : List _ → Type 0 = λ pool. All (IsKept pool) b.stints.items in
    subst Q (sym c.make_ready.ensures.kinds) b.kept

pub invariant_of-self-2-clause-lent : goal.invariant_of-self-2-clause-lent
invariant_of-self-2-clause-lent c =
    let b = c.args.self.now in
    stays_lent b.size b.served b.claimed b.places.items b.stints.items b.spooled.items b.asked b.words.items b.lent c.make_ready.new.places.items
    (seen_stock b.size b.served b.claimed b.places.items c.make_ready.new.places.items b.stints.items b.spooled.items b.asked b.words.items
    c.make_ready.ensures.own c.make_ready.ensures.kinds c.make_ready.ensures.progresses)
