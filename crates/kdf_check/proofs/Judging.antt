-- Verdicts, by the first place at which lines differ from the journal.
use Rattle.std.proofs.Common.{◌≡◌, ◌≢◌, ℕ, zero, suc, ◌+◌, ◌^◌, ◌<◌, ◌≤◌, ◌⊎◌, inl, inr, ⊎_elim, List, [], ◌∷◌, length, take, min, Option, refl, sym, ◌∙◌, ap}
use Rattle.std.proofs.Common.{arith}
use Rattle.std.proofs.lemmas.Bool.{cases_eq, cases_lt}
use Rattle.std.proofs.lemmas.List.{take_all, length-take}
use Rattle.kdf_transfer.specs.Slots.{Slot}
use Rattle.kdf_journal.specs.declared.entry.Entry.{Entry}
use Rattle.kdf_schedule.specs.declared.event.Event.{Event}
use Rattle.kdf_theory.specs.Served.{IsJournalFor}
use Rattle.kdf_theory.proofs.Course.OneJournal.{one_for}
use Rattle.kdf_check.specs.Differs.{IsDifference}
use Rattle.kdf_check.specs.declared.verdict.Verdict.{Verdict}
use Rattle.kdf_check.specs.declared.verdict.Verdict.TheVariants.{Yes, No}
use Rattle.kdf_check.specs.Verdict.{CanGoOn, IsFirstWrong, IsVerdict, TellJournal, told}

-- lists that begin alike begin so with fewer members too
take-less : {A : Type 0} (m n : ℕ) (xs ys : List A) → m ≤ n → take n xs ≡ take n ys → take m xs ≡ take m ys
take-less zero n xs ys le e = refl
take-less (suc m) zero xs ys le e = absurd (omega arith)
take-less (suc m) (suc n) [] [] le e = refl
take-less (suc m) (suc n) [] (y ∷ ys) le e = absurd cc
take-less (suc m) (suc n) (x ∷ xs) [] le e = absurd cc
take-less (suc m) (suc n) (x ∷ xs) (y ∷ ys) le e =
    let same : x ≡ y = cc in
    let rest : take n xs ≡ take n ys = cc in
    rw (same, take-less m n xs ys (omega arith) rest) refl

-- a difference is within a list, or at its end
within : {A : Type 0} (xs ys : List A) (n : ℕ) → IsDifference xs ys n → length xs < n → ⊥
within xs ys n d past =
    let all : take n xs ≡ xs = take_all n xs (omega arith) in
    let all' : take (n + 1) xs ≡ xs = take_all (n + 1) xs (omega arith) in
    let count : min n (length ys) ≡ length xs = sym (length-take n ys) ∙ ap length (sym d.alike ∙ all) in
    let short : length ys ≤ n = omega (arith, count) in
    let same : take n ys ≡ ys = take_all n ys short in
    let same' : take (n + 1) ys ≡ ys = take_all (n + 1) ys (omega arith) in
    d.here (all' ∙ sym all ∙ d.alike ∙ same ∙ sym same')

module _ (answers : ℕ → ℕ → Type 0) (one : (n a b : ℕ) → n < 2 ^ 48 → answers n a → answers n b → a ≡ b) (slots : List Slot) (events : List Event)
    (lines : List (Option Entry)) (J : List Entry) (j : IsJournalFor answers slots events J) where
  the_one : (K : List Entry) → IsJournalFor answers slots events K → K ≡ J
  the_one K k = one_for answers slots one events K J k j

  module _ (n : ℕ) (d : IsDifference lines (told J) n) where
    not-journal : TellJournal answers slots events lines → ⊥
    not-journal t = d.here (ap (take (n + 1)) (t.2 ∙ ap told (the_one t.0 t.1)))

    not-on : CanGoOn answers slots events lines (n + 1) → ⊥
    not-on g = d.here (g.2 ∙ ap (λ (K : List Entry). take (n + 1) (told K)) (the_one g.0 g.1))

    at-end : (n ≡ length lines) ⊎ (n ≢ length lines) → (n + 1 ≡ length lines + 1) ⊎ ((n + 1 ≤ length lines) × (CanGoOn answers slots events lines (n + 1) → ⊥))
    at-end (inl e) = inl (omega arith)
    at-end (inr ne) =
        ⊎_elim
        (λ (past : length lines < n). absurd (within lines (told J) n d past))
        (λ (le : n ≤ length lines). inr (omega arith, not-on))
        (cases_lt (length lines) n)

    pub no_lem : IsVerdict answers slots events lines (No (n + 1))
    no_lem = (
      not-journal,
      record {
        counted = omega arith;
        before = λ i some below.
            ⊎_elim
            (λ (past : length lines < n). absurd (within lines (told J) n d past))
            (λ (le : n ≤ length lines). (omega arith, (J, j, take-less i n lines (told J) (omega arith) d.alike)))
            (cases_lt (length lines) n);
        here = at-end (cases_eq n (length lines));
      },
    )

module _ (answers : ℕ → ℕ → Type 0) (slots : List Slot) (events : List Event) (lines : List (Option Entry)) where
  -- of two places the lesser is the first that is wrong
  no-less : (k l : ℕ) → IsFirstWrong answers slots events lines k → IsFirstWrong answers slots events lines l → k < l → ⊥
  no-less k l a b lt = go a.here
    where
      go : (k ≡ length lines + 1) ⊎ ((k ≤ length lines) × (CanGoOn answers slots events lines k → ⊥)) → ⊥
      go (inl e) = let on = b.before k a.counted lt in omega (arith, on.0)
      go (inr w) = w.1 (b.before k a.counted lt).1

  same-place : (k l : ℕ) → IsFirstWrong answers slots events lines k → IsFirstWrong answers slots events lines l → k ≡ l
  same-place k l a b =
      ⊎_elim
      (λ (lt : k < l). absurd (no-less k l a b lt))
      (λ (ge : l ≤ k).
      ⊎_elim
      (λ (gt : l < k). absurd (no-less l k b a gt))
      (λ (le : k ≤ l). omega arith)
      (cases_lt l k))
      (cases_lt k l)

  pub one_verdict_lem : (v w : Verdict) → IsVerdict answers slots events lines v → IsVerdict answers slots events lines w → v ≡ w
  one_verdict_lem Yes Yes a b = refl
  one_verdict_lem Yes (No k) a b = absurd (b.0 a)
  one_verdict_lem (No k) Yes a b = absurd (a.0 b)
  one_verdict_lem (No k) (No l) a b = ap (λ (n : ℕ). No n) (same-place k l a.1 b.1)
