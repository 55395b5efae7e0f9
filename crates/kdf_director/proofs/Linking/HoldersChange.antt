-- Whose a device of the pool is after a step, by the journal.
use Rattle.std.proofs.Common.{◌≡◌, ◌≢◌, ℕ, Bool, true, false, ◌||◌, eqb, not, List, Option, Some, None, cond, refl, sym, ap, ◌∙◌, ⊎_elim}
use Rattle.std.proofs.lemmas.Bool.{cases_eq, eq-eqb, ne_eqb}
use Rattle.kdf_journal.specs.declared.entry.Entry.{Entry}
use Rattle.kdf_journal.specs.Counts.{holder, over, taker, unless_over}
use Rattle.kdf_journal.specs.Steps.{Note, Obeys, Took, Gave, added}
use Rattle.kdf_journal.proofs.Added.{ends_by, over-added, taker_by, taker-added}
use Rattle.kdf_processor.specs.declared.step.Step.{Step}
use Rattle.kdf_processor.specs.declared.step.Step.TheVariants as ending
use Rattle.kdf_yard.specs.declared.remark.Remark.{Remark}
use Rattle.kdf_yard.specs.declared.remark.Remark.TheVariants as noted
use Rattle.kdf_director.specs.Advance.{note_beside, note_told}
use Rattle.kdf_yard.specs.Fields.Settled.{holder_left, holder_over}

-- the order of a program that goes on leaves which programs are over
going-on : (p d : ℕ) (J : List Entry) (note : Note) → ((q : ℕ) → ends_by q (Obeys p note) ≡ false)
    → holder d (added J (Obeys p note)) ≡ unless_over J (taker_by d (taker d J) (Obeys p note))
going-on p d J note none = ap (unless_over (added J (Obeys p note))) (taker-added d J (Obeys p note)) ∙ same (taker_by d (taker d J) (Obeys p note))
  where
    same : (o : Option ℕ) → unless_over (added J (Obeys p note)) o ≡ unless_over J o
    same None = refl
    same (Some q) = ap (λ b. cond b None (Some q)) (over-added q J (Obeys p note) ∙ ap (λ b. b || over q J) (none q))

not_true : (b : Bool) → not b ≡ true → b ≡ false
not_true true e = cc
not_true false e = refl

-- one that ends it takes from it what it had
ends-it : (p d : ℕ) (J : List Entry) (note : Note) → not (over p J) ≡ true → ((q : ℕ) → ends_by q (Obeys p note) ≡ eqb p q)
    → taker_by d (taker d J) (Obeys p note) ≡ taker d J → holder d (added J (Obeys p note)) ≡ holder_over p (holder d J)
ends-it p d J note live ends still =
    ap (unless_over (added J (Obeys p note))) (taker-added d J (Obeys p note) ∙ still)
    ∙ by_taker (taker d J)
  where
    mine : unless_over J (Some p) ≡ Some p
    mine = ap (λ b. cond b None (Some p)) (not_true (over p J) live)

    by_over : (q : ℕ) → p ≢ q → (b : Bool) → cond b None (Some q) ≡ holder_over p (cond b None (Some q))
    by_over q ne true = refl
    by_over q ne false = sym (ap (λ b. cond b None (Some q)) (ne_eqb q p (λ e. ne (sym e))))

    by_taker : (o : Option ℕ) → unless_over (added J (Obeys p note)) o ≡ holder_over p (unless_over J o)
    by_taker None = refl
    by_taker (Some q) =
        ap (λ b. cond b None (Some q)) (over-added q J (Obeys p note) ∙ ap (λ b. b || over q J) (ends q))
        ∙ ⊎_elim
        (λ (same : p ≡ q).
        ap (λ b. cond (b || over q J) None (Some q)) (eq-eqb p q same)
        ∙ sym (ap (λ k. holder_over p (unless_over J (Some k))) (sym same) ∙ ap (holder_over p) mine ∙ ap (λ b. cond b None (Some p)) (eq-eqb p p refl)))
        (λ (ne : p ≢ q). ap (λ b. cond (b || over q J) None (Some q)) (ne_eqb p q ne) ∙ by_over q ne (over q J))
        (cases_eq p q)

abbrev pub IsGoing : Step → Type 0
IsGoing (ending.Held need) = ⊥
IsGoing ended = Unit {0}

-- a device of the pool after the turn of a program that wasn't held
pub holder_then : (p k d : ℕ) (J : List Entry) (ended : Step) (beside : Remark) → IsGoing ended → not (over p J) ≡ true
    → holder d (added J (Obeys p (note_told k ended beside))) ≡ holder_left p ended beside d (holder d J)
holder_then p k d J (ending.Fails kind) beside going live = ends-it p d J (note_told k (ending.Fails kind) beside) live (λ q. refl) refl
holder_then p k d J ending.Ends beside going live = ends-it p d J (note_told k ending.Ends beside) live (λ q. refl) refl
holder_then p k d J (ending.Held need) beside going live = absurd going
holder_then p k d J ending.Done noted.Quiet going live = going-on p d J (note_beside k noted.Quiet) (λ q. refl)
holder_then p k d J ending.Done (noted.Began e) going live = going-on p d J (note_beside k (noted.Began e)) (λ q. refl)
holder_then p k d J ending.Done (noted.Told v) going live = going-on p d J (note_beside k (noted.Told v)) (λ q. refl)
holder_then p k d J ending.Done (noted.Took e) going live =
    going-on p d J (Took e) (λ q. refl)
    ∙ by_same (eqb e d)
  where
    by_same : (b : Bool) → unless_over J (cond b (Some p) (taker d J)) ≡ cond b (Some p) (holder d J)
    by_same true = ap (λ b. cond b None (Some p)) (not_true (over p J) live)
    by_same false = refl
holder_then p k d J ending.Done (noted.Gave e) going live =
    going-on p d J (Gave e) (λ q. refl)
    ∙ by_same (eqb e d)
  where
    by_same : (b : Bool) → unless_over J (cond b None (taker d J)) ≡ cond b None (holder d J)
    by_same true = refl
    by_same false = refl
