-- A group that held a program lies in its store.
use Rattle.std.specs.Prelude.{find}
use Rattle.std.proofs.Common.{◌≡◌, ◌≢◌, ℕ, Bool, true, false, eqb, List, [], ◌∷◌, Option, Some, None, cond, sym, ap, ◌∙◌, subst, ⊎_elim}
use Rattle.std.proofs.lemmas.Bool.{cases_Bool, cases_eq, eq-eqb, ne_eqb}
use Rattle.kdf_journal.specs.declared.need.Need.TheVariants.{Group, Device, Pool}
use Rattle.kdf_journal.specs.declared.entry.Entry.{Entry}
use Rattle.kdf_journal.specs.Counts.{answers, last_hold, ran}
use Rattle.kdf_journal.specs.Steps.{JournalStep, Obeys, Holds, Waits, Moves, Ends, Sets, Swaps, journal_of, steps}
use Rattle.kdf_journal.proofs.Added.{last_hold-added}
use Rattle.kdf_journal.specs.declared.need.Need.{Need}
use Rattle.kdf_processor.specs.Needs.{needs}
use Rattle.kdf_transfer.specs.Slots.{Slot}
use Rattle.kdf_processor.proofs.RowFacts.{size_lone}
use Rattle.kdf_yard.specs.Fields.Going.{IsNearHold}
use Rattle.kdf_theory.specs.Legal.{EachMeets, IsLegal}
use Rattle.kdf_theory.specs.Slots.{start}
use Rattle.kdf_theory.specs.ByJournal.{is_pending_after, lone_world, mine_after, own}
use Rattle.kdf_theory.specs.World.{first_need}
use Rattle.kdf_theory.proofs.Seen.NeedsInside.{AreNear, IsNear, needs_near}

-- the size of a program's store
abbrev pub size_of : List Slot → ℕ → ℕ
size_of slots p = (start slots p).stock.claims.size

-- stays what it was
pub own_size : (slots : List Slot) (J : List Entry) (p : ℕ) → (own slots J p).stock.claims.size ≡ size_of slots p
unfolding own
own_size slots J p = size_lone (start slots p) (answers p J) (ran p J)

found_near : (size : ℕ) (f : Need → Bool) (ns : List Need) (n : Need) → AreNear size ns → find f ns ≡ Some n → IsNear size n
found_near size f [] n near is = cc
found_near size f (x ∷ ns) n near is =
    ⊎_elim
    (λ (here : f x ≡ true).
    let same : x ≡ n = some_same (sym (ap (λ b. cond b (Some x) (find f ns)) here) ∙ is) in
    subst (IsNear size) same near.0)
    (λ (not : f x ≡ false). found_near size f ns n near.1 (sym (ap (λ b. cond b (Some x) (find f ns)) not) ∙ is))
    (cases_Bool (f x))
  where
    some_same : Some x ≡ Some n → x ≡ n
    some_same e = cc

near_need : (size : ℕ) (by : Need) → IsNear size by → IsNearHold size (Some by)
near_need size (Group g) near = near
near_need size (Device d) near = tt
near_need size (Pool kind) near = tt

-- the need that holds a program up
need_near : (slots : List Slot) (J : List Entry) (p : ℕ) (by : Need) → first_need (lone_world slots J) p ≡ Some by
    → IsNearHold (size_of slots p) (Some by)
unfolding first_need
need_near slots J p by is =
    near_need (size_of slots p) by
    (subst (λ n. IsNear n by) (own_size slots J p)
    (found_near (own slots J p).stock.claims.size (is_pending_after slots J p) (needs (own slots J p) (mine_after J p)) by
    (needs_near (own slots J p) (mine_after J p)) is))

-- a step of program p leaves this hold
near_left : (size p q : ℕ) (new old : Option Need) → (p ≡ q → IsNearHold size new) → IsNearHold size old
    → IsNearHold size (cond (eqb p q) new old)
near_left size p q new old its others =
    ⊎_elim
    (λ (same : p ≡ q). subst (λ b. IsNearHold size (cond b new old)) (sym (eq-eqb p q same)) (its same))
    (λ (ne : p ≢ q). subst (λ b. IsNearHold size (cond b new old)) (sym (ne_eqb p q ne)) others)
    (cases_eq p q)

near_more : (slots : List Slot) (P : List JournalStep) → EachMeets slots P → (q : ℕ) → IsNearHold (size_of slots q) (last_hold q (journal_of P))
near_more slots [] m q = tt
near_more slots (Obeys p note ∷ P) m q =
    rw (last_hold-added q (journal_of P) (Obeys p note))
    (near_left (size_of slots q) p q None (last_hold q (journal_of P)) (λ same. tt) (near_more slots P m.0 q))
near_more slots (Holds p by ∷ P) m q =
    rw (last_hold-added q (journal_of P) (Holds p by))
    (near_left (size_of slots q) p q (Some by) (last_hold q (journal_of P))
    (λ same. subst (λ k. IsNearHold (size_of slots k) (Some by)) same
    (need_near slots (journal_of P) p by m.1.1))
    (near_more slots P m.0 q))
near_more slots (Waits ∷ P) m q = rw (last_hold-added q (journal_of P) Waits) (near_more slots P m.0 q)
near_more slots (Moves d n ∷ P) m q = rw (last_hold-added q (journal_of P) (Moves d n)) (near_more slots P m.0 q)
near_more slots (Ends d ∷ P) m q = rw (last_hold-added q (journal_of P) (Ends d)) (near_more slots P m.0 q)
near_more slots (Sets t ∷ P) m q = rw (last_hold-added q (journal_of P) (Sets t)) (near_more slots P m.0 q)
near_more slots (Swaps p r ∷ P) m q = rw (last_hold-added q (journal_of P) (Swaps p r)) (near_more slots P m.0 q)

-- so it is by a legal journal
pub legal-near : (slots : List Slot) (J : List Entry) → IsLegal slots J → (q : ℕ) → IsNearHold (size_of slots q) (last_hold q J)
legal-near slots J l q = subst (λ K. IsNearHold (size_of slots q) (last_hold q K)) l.in_form (near_more slots (steps J) l.each q)
