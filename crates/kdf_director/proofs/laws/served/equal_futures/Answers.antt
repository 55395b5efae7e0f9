use Rattle.std.proofs.Common.{◌≡◌, ℕ, ◌+◌, List, ◌++◌, Option, sym, ◌∙◌, ap, ap₂}
use Rattle.std.proofs.Math.Path.{fun_ext}
use Rattle.kdf_journal.specs.declared.need.Need.{Need}
use Rattle.kdf_journal.specs.declared.entry.Entry.{Entry}
use Rattle.kdf_journal.specs.Steps.{JournalStep, added}
use Rattle.kdf_journal.proofs.Added.{answers-added, answers_by, clock-added, clock_by, hold_by, last_hold-added, moved_by, moved_if-added, pending-added}
use Rattle.kdf_journal.proofs.Added.{pending_by, priorities-added, priorities_by, ran-added, ran_by}
use Rattle.kdf_transfer.specs.Slots.{Slot}
use Rattle.kdf_theory.specs.ByJournal.{flights_of, own}
use Rattle.kdf_theory.specs.Seen.{seen}
use Rattle.kdf_director.specs.Alike.{AreAlike}
use Rattle.kdf_theory.proofs.Course.EqualFutures.{ended_added, flight_alike, future, lent_added, own_alike, truly_alike, world_alike, IsJudged}
use Rattle.kdf_director.proofs.laws.served.equal_futures.Goals as goal

pub returns-clause-step : goal.returns-clause-step
returns-clause-step g c J K s alike = record {
  orders = λ p. ran-added p J s ∙ ap (λ (n : ℕ). n + ran_by p s) (alike.orders p) ∙ sym (ran-added p K s);
  answered = λ p. answers-added p J s ∙ ap (λ (vs : List ℕ). vs ++ answers_by p s) (alike.answered p) ∙ sym (answers-added p K s);
  ended = ended_added J K s alike.ended;
  hold = λ p. last_hold-added p J s ∙ ap (λ (o : Option Need). hold_by p o s) (alike.hold p) ∙ sym (last_hold-added p K s);
  flying = λ d. pending-added d J s ∙ ap (λ (o : Option (ℕ × ℕ)). pending_by d o s) (alike.flying d) ∙ sym (pending-added d K s);
  called = λ d. moved_if-added d J s ∙ ap (λ (o : Option ℕ). moved_by d o s) (alike.called d) ∙ sym (moved_if-added d K s);
  lent = λ d. lent_added J K s alike.ended d (alike.lent d);
  time = clock-added J s ∙ ap (λ (t : ℕ). clock_by t s) alike.time ∙ sym (clock-added K s);
  order = priorities-added J s ∙ ap (λ (ps : List ℕ). priorities_by ps s) alike.order ∙ sym (priorities-added K s);
}

module _ (slots : List Slot) (J K : List Entry) (alike : AreAlike J K) where
  own_same : (p : ℕ) → own slots J p ≡ own slots K p
  own_same p = own_alike slots J K p (alike.orders p) (alike.answered p)

  flights_same : (p d : ℕ) → flights_of slots J p d ≡ flights_of slots K p d
  flights_same p d = flight_alike slots J K p d (alike.answered p) (alike.called d) (alike.flying d)

  judged : IsJudged slots J K
  judged = record {
    world = world_alike slots J K own_same flights_same alike.flying alike.lent;
    ended = alike.ended;
    hold = alike.hold;
    time = alike.time;
    order = alike.order;
  }

pub returns-clause-judged : goal.returns-clause-judged
returns-clause-judged g c slots J K heard s alike m = truly_alike slots J K (judged slots J K alike) heard s m

pub returns-clause-shown : goal.returns-clause-shown
returns-clause-shown g c slots J K p alike = (
  own_same slots J K alike p,
  fun_ext (flights_same slots J K alike p),
  ap₂ seen (fun_ext (flights_same slots J K alike p)) (own_same slots J K alike p),
)

pub returns-clause-future : goal.returns-clause-future
returns-clause-future g c rule is slots events others further J K L j k alike l =
    future slots AreAlike (returns-clause-step g c) (judged slots) (λ n a. goal.F-post g rule n a) is.one events others further J K L j k l alike
