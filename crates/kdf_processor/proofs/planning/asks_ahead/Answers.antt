use Rattle.std.proofs.Common.{◌≡◌, None, ap, refl, subst, sym, ◌∙◌, ⊎_elim}
use Rattle.kdf_journal.specs.declared.kind.Kind.{Kind}
use Rattle.kdf_syllable.specs.declared.order.Order.{Order}
use Rattle.kdf_word.specs.declared.word.Word.{Word}
use Rattle.kdf_processor.specs.Ahead.{act_word}
use Rattle.kdf_processor.specs.Outcome.{Outcome, outcome}
use Rattle.kdf_processor.specs.Plan.{CanObey, planned_outcome}
use Rattle.kdf_processor.specs.View.{View}
use Rattle.kdf_processor.specs.declared.planning.Planned.{Planned}
use Rattle.kdf_processor.specs.declared.planning.Planned.TheVariants as way
use Rattle.kdf_processor.specs.declared.registers.Registers.{Registers}
use Rattle.kdf_journal.specs.declared.need.Need.{Need}
use Rattle.kdf_processor.proofs.Words.{change_word, kind_word, label_word}
use Rattle.kdf_processor.proofs.planning.asks_ahead.Goals as goal

pub asked_by-requires : goal.asked_by-requires
asked_by-requires g c =
    let ready = subst (CanObey (g.P.Port.shows c.args.port.now) c.args.registers.now) c.in-Act.is c.plan_next.ensures.can in
    ready.settled

pub returns-in-Act : goal.returns-in-Act
returns-in-Act g c =
    let v = g.P.Port.shows c.args.port.now in
    let r = c.args.registers.now in
    let so = subst (λ (p : Planned). outcome v r ≡ planned_outcome v r p) c.in-Act.is c.plan_next.ensures.outcome in
    c.asked_by.ensures v r ∙ sym (ap (λ (o : Outcome). act_word o.act) so)

none_as : (v : View) (r : Registers) (p q : Planned) → p ≡ q → act_word (planned_outcome v r q).act ≡ None → act_word (planned_outcome v r p).act ≡ None
none_as v r p q is none = subst (λ (x : Planned). act_word (planned_outcome v r x).act ≡ None) (sym is) none

pub returns-in-Held : goal.returns-in-Held
returns-in-Held g c =
    let v = g.P.Port.shows c.args.port.now in
    let r = c.args.registers.now in
    let p = c.plan_next.result in
    let none : act_word (planned_outcome v r p).act ≡ None =
    ⊎_elim
    (λ (h : (x : Need) × (p ≡ way.Held x)). none_as v r p (way.Held h.0) h.1 refl)
    (⊎_elim
    (λ (h : (x : Order) × (p ≡ way.Change x)). none_as v r p (way.Change h.0) h.1 (change_word v r h.0))
    (⊎_elim
    (λ (h : (x : Word) × (p ≡ way.Label x)). none_as v r p (way.Label h.0) h.1 (label_word v r h.0))
    (λ (h : (x : Kind) × (p ≡ way.Kind x)). none_as v r p (way.Kind h.0) h.1 (kind_word v r h.0))))
    c.in-Held.is in
    sym (ap (λ (o : Outcome). act_word o.act) c.plan_next.ensures.outcome ∙ none)
