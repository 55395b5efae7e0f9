-- What the tables tell is what is pending by the journal, and what is free of the pool.
use Rattle.std.proofs.Common.{◌≡◌, ℕ, zero, suc, ◌+◌, ◌≤◌, ◌<◌, Bool, true, false, cond, not, ◌&&◌, ◌||◌, List, [], ◌∷◌, ◌++◌, length, find, get_or, take}
use Rattle.std.proofs.Common.{Option, Some, None, is_some, unwrap_or, refl, sym, ap, ap₂, ◌∙◌, subst, ⊎_elim, arith, eqb}
use Rattle.std.specs.List.{filter, list_any, range_with_len}
use Rattle.std.proofs.Math.Path.{fun_ext}
use Rattle.std.proofs.Math.Bool.{or_comm}
use Rattle.std.proofs.lemmas.Bool.{cases_Bool, eqb-true}
use Rattle.std.proofs.lemmas.List.{take_all, take_more}
use Rattle.std.proofs.lemmas.List.Folds.{list_any-append}
use Rattle.kdf_journal.specs.declared.entry.Entry.{Entry}
use Rattle.kdf_journal.specs.declared.kind.Kind.{Kind}
use Rattle.kdf_journal.specs.Counts.{answers, over, pending, ran}
use Rattle.kdf_transfer.specs.ByNumber.{device_count}
use Rattle.kdf_transfer.specs.Devices.{is_kind, test_of}
use Rattle.kdf_transfer.specs.Slots.{Slot}
use Rattle.kdf_journal.specs.declared.need.Need.{Need}
use Rattle.kdf_journal.specs.declared.need.Need.TheVariants.{Group, Device, Pool}
use Rattle.kdf_processor.specs.Claims.{taken_device}
use Rattle.kdf_processor.specs.Effect.{Question, IsBusy, IsOut, Time, FreeOf, OfService}
use Rattle.kdf_processor.specs.State.{Claims, device_in, word_in}
use Rattle.kdf_processor.specs.View.{groups_of, is_pending}
use Rattle.kdf_processor.proofs.RowFacts.{pool_lone}
use Rattle.kdf_theory.specs.Flights.{Flight, touches}
use Rattle.kdf_theory.specs.Legal.{IsLegal, IsTrue}
use Rattle.kdf_theory.specs.Seen.{touched_below}
use Rattle.kdf_theory.specs.Slots.{AreSlots, start}
use Rattle.kdf_theory.specs.ByJournal.{flight_of, flights_of, free_after, is_free_after, is_pending_after, lone_world, mine_after, own}
use Rattle.kdf_theory.specs.ByJournal as journal
use Rattle.kdf_theory.specs.True.{one_if, truth}
use Rattle.kdf_theory.proofs.Course.DevicesHeld.{legal_taken}
use Rattle.kdf_check.specs.Around.{Around, covers, free_in, is_among, is_busy_in, is_free_in, is_of, is_out_in, mine_in}
use Rattle.kdf_check.specs.declared.table.Pending.{Pending}
use Rattle.kdf_check.specs.CheckPort.{answer_in, shown_by, taken_in}
use Rattle.kdf_check.specs.Tracks.{IsAround, TellsAt}
use Rattle.kdf_check.specs.Tried.{lone_truth}
use Rattle.kdf_check.specs.Watching.{view_in}

-- some place of the first n is covered exactly where a transfer on a device below n touches the group
any-touched : (n : ℕ) (fs : ℕ → Option Flight) (f : Option Pending → Bool) (table : List (Option Pending)) (g : ℕ) → n ≤ length table
    → ((d : ℕ) → touches (fs d) g ≡ f (get_or table d None)) → list_any f (take n table) ≡ touched_below n fs g
any-touched zero fs f table g le each = refl
any-touched (suc n) fs f table g le each =
    let next : suc n ≡ n + 1 = omega arith in
    let more : take (suc n) table ≡ take n table ++ get_or table n None ∷ [] = ap (λ (i : ℕ). take i table) next ∙ take_more table n None (omega arith) in
    ap (list_any f) more ∙ list_any-append f (take n table) (get_or table n None ∷ [])
    ∙ last (f (get_or table n None)) (list_any f (take n table)) (touches (fs n) g) (touched_below n fs g) (each n)
    (any-touched n fs f table g (omega arith) each)
  where
    last : (x xs t ts : Bool) → t ≡ x → xs ≡ ts → (xs || (x || false)) ≡ (t || ts)
    last true xs t ts e es = ap (λ b. b || true) es ∙ or_comm ts true ∙ ap (λ b. b || ts) (sym e)
    last false xs t ts e es = ap (λ b. b || false) es ∙ or_comm ts false ∙ ap (λ b. b || ts) (sym e)

-- two tests that are alike on some numbers find the same of them
find-alike : (f g : ℕ → Bool) (first n : ℕ) → ((d : ℕ) → d < first + n → f d ≡ g d) → find f (range_with_len first n) ≡ find g (range_with_len first n)
find-alike f g first zero same = refl
find-alike f g first (suc n) same =
    ap₂ (λ (b : Bool) (o : Option ℕ). cond b (Some first) o) (same first (omega arith)) (find-alike f g (first + 1) n (λ d lt. same d (omega arith)))

-- what a program's pool is stays
own-pool : (slots : List Slot) (J : List Entry) (p : ℕ) → (own slots J p).stock.claims.pool ≡ (start slots p).stock.claims.pool
unfolding own
own-pool slots J p = pool_lone (start slots p) (answers p J) (ran p J)

module _ (slots : List Slot) (J : List Entry) (p : ℕ) where
  abbrev c : Claims
  c = (own slots J p).stock.claims

  no-flight : (d : ℕ) → pending d J ≡ None → flights_of slots J p d ≡ None
  unfolding flights_of
  no-flight d none = ap (flight_of slots J p d) none

  other-flight : (d q k : ℕ) → pending d J ≡ Some (q, k) → eqb q p ≡ false → flights_of slots J p d ≡ None
  unfolding flights_of
  other-flight d q k at other = ap (flight_of slots J p d) at ∙ rw other refl

  touched-at : (d g : ℕ) (o : Option Pending) → TellsAt slots J d o → touches (flights_of slots J p d) g ≡ covers p g o
  touched-at d g None none = ap (λ (f : Option Flight). touches f g) (no-flight d none)
  touched-at d g (Some t) tells =
      ⊎_elim
      (λ (is : eqb t.p p ≡ true).
      let same : t.p ≡ p = eqb-true t.p p is in
      subst (λ q. touches (flights_of slots J q d) g ≡ is_among t.groups g) same (tells.2 g) ∙ sym (ap (λ b. b && is_among t.groups g) is))
      (λ (isnt : eqb t.p p ≡ false).
      ap (λ (f : Option Flight). touches f g) (other-flight d t.p tells.0 tells.1 isnt) ∙ sym (ap (λ b. b && is_among t.groups g) isnt))
      (cases_Bool (eqb t.p p))

  busy-at : (d : ℕ) (o : Option Pending) → TellsAt slots J d o → is_some o ≡ is_some (pending d J)
  busy-at d None none = ap is_some (sym none)
  busy-at d (Some t) tells = ap is_some (sym tells.1)

  own-at : (d : ℕ) (o : Option Pending) → TellsAt slots J d o → is_of p o ≡ journal.is_of p (pending d J)
  own-at d None none = ap (journal.is_of p) (sym none)
  own-at d (Some t) tells = ap (journal.is_of p) (sym tells.1)

  module _ (around : Around) (is : IsAround slots J around) where
    out-same : (g : ℕ) → is_out_in p around.table g ≡ is_pending_after slots J p (Group g)
    unfolding device_count
    out-same g =
        ap (list_any (covers p g)) (sym (take_all 16 around.table (omega (arith, is.tells.sixteen))))
        ∙ any-touched 16 (flights_of slots J p) (covers p g) around.table g (omega (arith, is.tells.sixteen))
        (λ d. touched-at d g (get_or around.table d None) (is.tells.each d))

    busy-same : (d : ℕ) → is_busy_in around.table d ≡ is_pending_after slots J p (Device d)
    busy-same d = busy-at d (get_or around.table d None) (is.tells.each d)

    mine-same : mine_in p around.table ≡ mine_after J p
    unfolding mine_after device_count
    mine-same = ap (λ (f : ℕ → Bool). filter f (range_with_len 0 16)) (fun_ext (λ d. own-at d (get_or around.table d None) (is.tells.each d)))

    free-same : (kind : Kind) → free_in around.holders c kind ≡ free_after slots J p kind
    unfolding free_in free_after device_count
    free-same kind =
        find-alike (is_free_in around.holders c kind) (is_free_after slots J p kind) 0 16
        (λ d lt. ap₂ (λ (ks : List (Option Kind)) (o : Option ℕ). is_kind kind (get_or ks d None) && not (is_some o)) (own-pool slots J p) (is.held d lt))

    pub pending-here : (need : Need) → is_pending (shown_by p around (own slots J p).stock) need ≡ is_pending_after slots J p need
    pending-here (Group g) = out-same g
    pending-here (Device d) = busy-same d
    pending-here (Pool kind) = ap (λ (o : Option ℕ). not (is_some o)) (free-same kind)

    module _ (are : AreSlots slots) (legal : IsLegal slots J) (truly : IsTrue slots J) (live : not (over p J) ≡ true) where
      taken-same : (kind : Kind) (o : Option ℕ) → free_after slots J p kind ≡ o → taken_in c kind o ≡ unwrap_or o 0
      taken-same kind None none = refl
      taken-same kind (Some d) some =
          let free : is_pending_after slots J p (Pool kind) ≡ false = ap (λ (o : Option ℕ). not (is_some o)) some in
          let answer : truth (lone_world slots J) J p around.heard (FreeOf kind) ≡ d = ap (λ (o : Option ℕ). unwrap_or o 0) some in
          ap (taken_device c kind) (sym answer) ∙ legal_taken slots J are legal truly p around.heard kind live free ∙ answer

      answer-same : (q : Question) → answer_in p around c q ≡ lone_truth slots J around.heard p q
      answer-same (IsBusy d) = ap one_if (busy-same d)
      answer-same (IsOut first last) = ap (λ (f : ℕ → Bool). one_if (list_any f (groups_of first last))) (fun_ext out-same)
      answer-same Time = is.time
      answer-same (FreeOf kind) = ap (taken_in c kind) (free-same kind) ∙ taken-same kind (free_after slots J p kind) refl
      answer-same (OfService word) = refl

      -- a check port with the program's lone state shows it in the world of lone runs, where each order is truly answered
      pub shown-here : shown_by p around (own slots J p).stock ≡ view_in (lone_world slots J) (lone_truth slots J around.heard p) p
      shown-here =
          ap₂ (λ (f : Need → Bool) (mine : List ℕ). record {
            claims = c;
            word = word_in (own slots J p).stock;
            test = λ d what. test_of what (device_in (own slots J p).stock d);
            answer = answer_in p around c;
            is_out = λ g. f (Group g);
            is_busy = λ d. f (Device d);
            is_taken = λ kind. f (Pool kind);
            mine = mine;
          }) (fun_ext pending-here) mine-same
          ∙ ap (λ (a : Question → ℕ). record (view_in (lone_world slots J) (lone_truth slots J around.heard p) p) { answer = a }) (fun_ext answer-same)
