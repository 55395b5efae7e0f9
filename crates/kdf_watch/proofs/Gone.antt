-- What was looked at, further on.
use Rattle.std.proofs.Common.{◌≡◌, ℕ, List, [], ◌∷◌, ◌++◌, Option, Some, None, Bool, true, false, refl, sym, ◌∙◌, ap, ap₂, subst, append_assoc}
use Rattle.std.specs.Prelude.{OnErr, Result, Ok, Err}
use Rattle.kdf_journal.specs.declared.entry.Entry.{Entry}
use Rattle.kdf_journal.specs.Steps.{Note, JournalStep, Obeys, Moves, Ends, Sets, Swaps, added, journal_of, steps}
use Rattle.kdf_journal.proofs.Steps.{steps-added}
use Rattle.kdf_schedule.specs.declared.event.Event.{Event}
use Rattle.kdf_schedule.specs.declared.event.Event.TheVariants.{Orders, Move, End, Clock, Swap}
use Rattle.kdf_transfer.specs.Slots.{Slot}
use Rattle.kdf_director.specs.Advance.{Enters}
use Rattle.kdf_schedule.specs.Calls.{calls_made}
use Rattle.kdf_theory.specs.Follows.{IsWhole}
use Rattle.kdf_theory.specs.Legal.{IsLegal}
use Rattle.kdf_theory.specs.Served.{IsTrueFor}
use Rattle.kdf_theory.specs.MachineView.{MachineView}
use Rattle.kdf_director.proofs.Calls.OneCall.{true_entered}
use Rattle.kdf_watch.specs.declared.look.Look.{Look}
use Rattle.kdf_watch.specs.declared.stop.Stop.{Stop}
use Rattle.kdf_watch.specs.declared.stop.Stop.TheVariants.{Watched, Finished}
use Rattle.kdf_watch.specs.Called.{IsBlind, Tells}
use Rattle.kdf_watch.specs.Entered.{HasEntered}
use Rattle.kdf_watch.specs.Looks.{look_at, looks, looks_in}
use Rattle.kdf_watch.specs.Rules.{AreUnseen}
use Rattle.kdf_watch.specs.Stopped.{HasGone, HasPaused, HasSeen, HasStopped}

looks-append : (slots : List Slot) (R Q P : List JournalStep) → looks slots (R ++ Q) P ≡ looks slots R (Q ++ P) ++ looks slots Q P
looks-append slots [] Q P = refl
looks-append slots (s ∷ R) Q P =
    ap₂ (λ (S : List JournalStep) (ls : List Look). looks_in slots (journal_of (s ∷ S)) s ++ ls) (append_assoc R Q P) (looks-append slots R Q P)
    ∙ sym (append_assoc (looks_in slots (journal_of (s ∷ R ++ (Q ++ P))) s) (looks slots R (Q ++ P)) (looks slots Q P))

unseen-append : (sees : Look → Bool → Type 0) (xs ys : List Look) → AreUnseen sees xs → AreUnseen sees ys → AreUnseen sees (xs ++ ys)
unseen-append sees [] ys a b = b
unseen-append sees (x ∷ xs) ys a b = (a.0, unseen-append sees xs ys a.1 b)

told : (m w : MachineView) (s : JournalStep) → Tells m w s → steps w.journal ≡ s ∷ steps m.journal
told m w s tells = ap steps tells.journal ∙ steps-added m.journal s

pub gone_none : (sees : Look → Bool → Type 0) (m : MachineView) → HasGone sees m m
gone_none sees m = record { later = []; is = refl; unseen = tt }

-- a journal that is as it was
pub gone_same : (sees : Look → Bool → Type 0) (old m w : MachineView) → HasGone sees old m → w ≡ m → HasGone sees old w
gone_same sees old m w g same = subst (HasGone sees old) (sym same) g

module _ (sees : Look → Bool → Type 0) (old m w : MachineView) (g : HasGone sees old m) where
  -- a step without a look
  blind : (s : JournalStep) → steps w.journal ≡ s ∷ steps m.journal → IsBlind s → HasGone sees old w
  blind s is quiet = record {
    later = s ∷ g.later;
    is = is ∙ ap (λ (P : List JournalStep). s ∷ P) g.is;
    unseen = subst (AreUnseen sees) (sym (ap (λ (ls : List Look). ls ++ looks old.slots g.later (steps old.journal))
        (quiet old.slots (journal_of (s ∷ g.later ++ steps old.journal))))) g.unseen;
  }

  pub gone_blind : (s : JournalStep) → Tells m w s → IsBlind s → HasGone sees old w
  gone_blind s tells quiet = blind s (told m w s tells) quiet

  entered_blind : (s : JournalStep) → Enters m w s → IsBlind s → HasGone sees old w
  entered_blind s enters quiet = blind s (ap (λ (x : MachineView). steps x.journal) enters ∙ steps-added m.journal s) quiet

  pub gone_entered : (e : Event) → HasEntered m w e → HasGone sees old w
  gone_entered (Orders n) same = gone_same sees old m w g same
  gone_entered (Move d n) enters = entered_blind (Moves d n) enters (λ slots J. refl)
  gone_entered (End d) enters = entered_blind (Ends d) enters (λ slots J. refl)
  gone_entered (Clock t) enters = entered_blind (Sets t) enters (λ slots J. refl)
  gone_entered (Swap p q) enters = entered_blind (Swaps p q) enters (λ slots J. refl)

  -- an order with its look
  module _ (same : m.slots ≡ old.slots) (look : Look) (note : Note) (tells : Tells m w (Obeys look.p note)) (look_is : look ≡ look_at m.slots w.journal look.p)
      (legal : IsLegal m.slots m.journal) where
    is_more : steps w.journal ≡ Obeys look.p note ∷ g.later ++ steps old.journal
    is_more = told m w (Obeys look.p note) tells ∙ ap (λ (P : List JournalStep). Obeys look.p note ∷ P) g.is

    form : journal_of (steps w.journal) ≡ w.journal
    form = ap journal_of (told m w (Obeys look.p note) tells) ∙ (ap (λ (K : List Entry). added K (Obeys look.p note)) legal.in_form ∙ sym tells.journal)

    look_same : look ≡ look_at old.slots w.journal look.p
    look_same = look_is ∙ ap (λ (S : List Slot). look_at S w.journal look.p) same

    pub seen_look : sees look true → HasSeen sees old w look
    seen_look seen = record { later = g.later; note = note; is = is_more; form = form; look_is = look_same; seen = seen; unseen = g.unseen }

    pub gone_look : sees look false → HasGone sees old w
    gone_look unseen = record {
      later = Obeys look.p note ∷ g.later;
      is = is_more;
      unseen = (
        subst (λ (x : Look). sees x false) (look_same ∙ ap (λ (J : List Entry). look_at old.slots J look.p) (sym form ∙ ap journal_of is_more)) unseen,
        g.unseen,
      );
    }

  -- further steps
  module _ (same : m.slots ≡ old.slots) where
    further : (later : List JournalStep) → AreUnseen sees (looks m.slots later (steps m.journal))
        → AreUnseen sees (looks old.slots (later ++ g.later) (steps old.journal))
    further later unseen =
        subst (AreUnseen sees) (sym (looks-append old.slots later g.later (steps old.journal)))
        (unseen-append sees (looks old.slots later (g.later ++ steps old.journal)) (looks old.slots g.later (steps old.journal))
        (subst (AreUnseen sees) (ap₂ (λ (S : List Slot) (P : List JournalStep). looks S later P) same g.is) unseen) g.unseen)

    joined : (later : List JournalStep) → later ++ steps m.journal ≡ (later ++ g.later) ++ steps old.journal
    joined later = ap (λ (P : List JournalStep). later ++ P) g.is ∙ sym (append_assoc later g.later (steps old.journal))

    pub gone_on : HasGone sees m w → HasGone sees old w
    gone_on h = record { later = h.later ++ g.later; is = h.is ∙ joined h.later; unseen = further h.later h.unseen }

    stopped_on : (es : List Event) (stop : Stop) → HasStopped sees es m w stop → HasStopped sees es old w stop
    stopped_on es (Watched look) h = record {
      later = h.later ++ g.later;
      note = h.note;
      is = h.is ∙ ap (λ (P : List JournalStep). Obeys look.p h.note ∷ P) (joined h.later);
      form = h.form;
      look_is = h.look_is ∙ ap (λ (S : List Slot). look_at S w.journal look.p) same;
      seen = h.seen;
      unseen = further h.later h.unseen;
    }
    stopped_on es Finished h = (gone_on h.0, h.1)

    pub paused_on : (es : List Event) (stop : Option Stop) → HasPaused sees es m w stop → HasPaused sees es old w stop
    paused_on es None h = gone_on h
    paused_on es (Some stop) h = stopped_on es stop h

-- a journal that is true for a service stays so
pub true_entered_by : (answers : ℕ → ℕ → Type 0) (m w : MachineView) (e : Event) → IsLegal m.slots m.journal → IsTrueFor answers m.slots m.journal
    → HasEntered m w e
    → IsTrueFor answers w.slots w.journal
true_entered_by answers m w (Orders n) legal truly same = subst (λ (x : MachineView). IsTrueFor answers x.slots x.journal) (sym same) truly
true_entered_by answers m w (Move d n) legal truly enters = true_entered answers m w (Moves d n) legal truly tt enters
true_entered_by answers m w (End d) legal truly enters = true_entered answers m w (Ends d) legal truly tt enters
true_entered_by answers m w (Clock t) legal truly enters = true_entered answers m w (Sets t) legal truly tt enters
true_entered_by answers m w (Swap p q) legal truly enters = true_entered answers m w (Swaps p q) legal truly tt enters

pub slots_entered : (m w : MachineView) (e : Event) → HasEntered m w e → w.slots ≡ m.slots
slots_entered m w (Orders n) same = ap (λ (x : MachineView). x.slots) same
slots_entered m w (Move d n) enters = ap (λ (x : MachineView). x.slots) enters
slots_entered m w (End d) enters = ap (λ (x : MachineView). x.slots) enters
slots_entered m w (Clock t) enters = ap (λ (x : MachineView). x.slots) enters
slots_entered m w (Swap p q) enters = ap (λ (x : MachineView). x.slots) enters

pub whole_same : (es : List Event) (m w : MachineView) → w ≡ m → IsWhole m.slots (calls_made es) m.journal → IsWhole w.slots (calls_made es) w.journal
whole_same es m w same whole = subst (λ (x : MachineView). IsWhole x.slots (calls_made es) x.journal) (sym same) whole

pub on_err : {A E : Type 0} (r : Result A E) (X : Type 0) → X → OnErr r X
on_err (Ok a) X x = tt
on_err (Err e) X x = x
