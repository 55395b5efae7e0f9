-- Orders of one program that follow one another, and idle calls, in a journal.
use Rattle.std.proofs.Common.{◌≡◌, ◌≢◌, ℕ, zero, suc, ◌+◌, ◌<◌, List, [], ◌∷◌, cond, refl, sym, ap, ◌∙◌, ⊎_elim, arith}
use Rattle.std.proofs.lemmas.Bool.{cases_eq, eq-eqb, ne_eqb}
use Rattle.kdf_journal.specs.declared.entry.Entry.{Entry}
use Rattle.kdf_journal.specs.declared.entry.Entry.TheVariants.{Ran, Idle}
use Rattle.kdf_journal.specs.Counts.{calls, clock, holder, moves, priorities}
use Rattle.kdf_journal.specs.Joined.{joined, pushed}
use Rattle.kdf_journal.specs.Steps.{Quiet, Obeys, Waits}
use Rattle.kdf_journal.proofs.Added.{calls-added, clock-added, holder-quiet, moves-added, priorities-added}
use Rattle.kdf_theory.specs.InARow.{ran_on, waited_on}

-- ---- what was pushed isn't empty
record HasFirst (es : List Entry) : Type 0 where
  first : Entry
  rest : List Entry
  is : es ≡ first ∷ rest

joined-first : (x e : Entry) → HasFirst (joined x e)
joined-first (Ran p n) (Ran q m) =
    ⊎_elim
    (λ (same : p ≡ q). record { first = Ran p (n + m); rest = []; is = ap (λ b. cond b (Ran p (n + m) ∷ []) (Ran p n ∷ Ran q m ∷ [])) (eq-eqb p q same) })
    (λ (ne : p ≢ q). record { first = Ran p n; rest = Ran q m ∷ []; is = ap (λ b. cond b (Ran p (n + m) ∷ []) (Ran p n ∷ Ran q m ∷ [])) (ne_eqb p q ne) })
    (cases_eq p q)
joined-first (Idle n) (Idle m) = record { first = Idle (n + m); rest = []; is = refl }
joined-first x e = record { first = x; rest = e ∷ []; is = refl }

pushed-first : (y : Entry) (es : List Entry) (e : Entry) → HasFirst (pushed (y ∷ es) e)
pushed-first y [] e = joined-first y e
pushed-first y (z ∷ es) e = record { first = y; rest = pushed (z ∷ es) e; is = refl }

behind : (x : Entry) (es : List Entry) (e : Entry) → HasFirst es → pushed (x ∷ es) e ≡ x ∷ pushed es e
behind x es e h = ap (λ zs. pushed (x ∷ zs) e) h.is ∙ ap (λ zs. x ∷ pushed zs e) (sym h.is)

-- ---- one order more of the same program
joined-ran : (x : Entry) (p n : ℕ) → pushed (joined x (Ran p n)) (Ran p 1) ≡ joined x (Ran p (n + 1))
joined-ran (Ran q m) p n =
    ⊎_elim
    (λ (same : q ≡ p).
    ap (λ b. pushed (cond b (Ran q (m + n) ∷ []) (Ran q m ∷ Ran p n ∷ [])) (Ran p 1)) (eq-eqb q p same)
    ∙ ap (λ b. cond b (Ran q (m + n + 1) ∷ []) (Ran q (m + n) ∷ Ran p 1 ∷ [])) (eq-eqb q p same)
    ∙ ap (λ k. Ran q k ∷ []) (omega arith)
    ∙ sym (ap (λ b. cond b (Ran q (m + (n + 1)) ∷ []) (Ran q m ∷ Ran p (n + 1) ∷ [])) (eq-eqb q p same)))
    (λ (ne : q ≢ p).
    ap (λ b. pushed (cond b (Ran q (m + n) ∷ []) (Ran q m ∷ Ran p n ∷ [])) (Ran p 1)) (ne_eqb q p ne)
    ∙ ap (λ b. Ran q m ∷ cond b (Ran p (n + 1) ∷ []) (Ran p n ∷ Ran p 1 ∷ [])) (eq-eqb p p refl)
    ∙ sym (ap (λ b. cond b (Ran q (m + (n + 1)) ∷ []) (Ran q m ∷ Ran p (n + 1) ∷ [])) (ne_eqb q p ne)))
    (cases_eq q p)
joined-ran x p n = ap (λ b. x ∷ cond b (Ran p (n + 1) ∷ []) (Ran p n ∷ Ran p 1 ∷ [])) (eq-eqb p p refl)

pushed-ran : (J : List Entry) (p n : ℕ) → pushed (pushed J (Ran p n)) (Ran p 1) ≡ pushed J (Ran p (n + 1))
pushed-ran [] p n = ap (λ b. cond b (Ran p (n + 1) ∷ []) (Ran p n ∷ Ran p 1 ∷ [])) (eq-eqb p p refl)
pushed-ran (x ∷ []) p n = joined-ran x p n
pushed-ran (x ∷ y ∷ es) p n =
    behind x (pushed (y ∷ es) (Ran p n)) (Ran p 1) (pushed-first y es (Ran p n))
    ∙ ap (λ zs. x ∷ zs) (pushed-ran (y ∷ es) p n)

joined-idle : (x : Entry) (n : ℕ) → pushed (joined x (Idle n)) (Idle 1) ≡ joined x (Idle (n + 1))
joined-idle (Idle m) n = ap (λ k. Idle k ∷ []) (omega arith)
joined-idle x n = refl

pushed-idle : (J : List Entry) (n : ℕ) → pushed (pushed J (Idle n)) (Idle 1) ≡ pushed J (Idle (n + 1))
pushed-idle [] n = refl
pushed-idle (x ∷ []) n = joined-idle x n
pushed-idle (x ∷ y ∷ es) n =
    behind x (pushed (y ∷ es) (Idle n)) (Idle 1) (pushed-first y es (Idle n))
    ∙ ap (λ zs. x ∷ zs) (pushed-idle (y ∷ es) n)

-- entered at once, they are as if each was
pushed-ran_on : (J : List Entry) (p n : ℕ) → pushed J (Ran p (suc n)) ≡ ran_on J p (suc n)
pushed-ran_on J p zero = refl
pushed-ran_on J p (suc n) =
    ap (λ (k : ℕ). pushed J (Ran p k)) (omega arith)
    ∙ sym (pushed-ran J p (suc n))
    ∙ ap (λ L. pushed L (Ran p 1)) (pushed-ran_on J p n)

pushed-waited_on : (J : List Entry) (n : ℕ) → pushed J (Idle (suc n)) ≡ waited_on J (suc n)
pushed-waited_on J zero = refl
pushed-waited_on J (suc n) =
    ap (λ k. pushed J (Idle k)) (omega arith)
    ∙ sym (pushed-idle J (suc n))
    ∙ ap (λ L. pushed L (Idle 1)) (pushed-waited_on J n)

pub some-ran_on : (J : List Entry) (p n : ℕ) → 0 < n → pushed J (Ran p n) ≡ ran_on J p n
some-ran_on J p zero some = absurd (omega arith)
some-ran_on J p (suc n) some = pushed-ran_on J p n

pub some-waited_on : (J : List Entry) (n : ℕ) → 0 < n → pushed J (Idle n) ≡ waited_on J n
some-waited_on J zero some = absurd (omega arith)
some-waited_on J (suc n) some = pushed-waited_on J n

-- with the last of them, of which something is noted
pub last-ran_on : (J : List Entry) (p n : ℕ) → pushed J (Ran p (n + 1)) ≡ pushed (ran_on J p n) (Ran p 1)
last-ran_on J p n = ap (λ k. pushed J (Ran p k)) (omega arith) ∙ pushed-ran_on J p n

-- ---- what is counted
pub calls-ran_on : (J : List Entry) (p n : ℕ) → calls (ran_on J p n) ≡ calls J + n
calls-ran_on J p zero = omega arith
calls-ran_on J p (suc n) = calls-added (ran_on J p n) (Obeys p Quiet) ∙ omega (arith, calls-ran_on J p n)

pub moves-ran_on : (J : List Entry) (p n : ℕ) → moves (ran_on J p n) ≡ moves J
moves-ran_on J p zero = refl
moves-ran_on J p (suc n) = moves-added (ran_on J p n) (Obeys p Quiet) ∙ omega (arith, moves-ran_on J p n)

pub clock-ran_on : (J : List Entry) (p n : ℕ) → clock (ran_on J p n) ≡ clock J
clock-ran_on J p zero = refl
clock-ran_on J p (suc n) = clock-added (ran_on J p n) (Obeys p Quiet) ∙ clock-ran_on J p n

pub holder-ran_on : (J : List Entry) (p n d : ℕ) → holder d (ran_on J p n) ≡ holder d J
holder-ran_on J p zero d = refl
holder-ran_on J p (suc n) d = holder-quiet d (ran_on J p n) (Obeys p Quiet) refl (λ q. refl) ∙ holder-ran_on J p n d

pub calls-waited_on : (J : List Entry) (n : ℕ) → calls (waited_on J n) ≡ calls J + n
calls-waited_on J zero = omega arith
calls-waited_on J (suc n) = calls-added (waited_on J n) Waits ∙ omega (arith, calls-waited_on J n)

pub moves-waited_on : (J : List Entry) (n : ℕ) → moves (waited_on J n) ≡ moves J
moves-waited_on J zero = refl
moves-waited_on J (suc n) = moves-added (waited_on J n) Waits ∙ omega (arith, moves-waited_on J n)

pub priorities-waited_on : (J : List Entry) (n : ℕ) → priorities (waited_on J n) ≡ priorities J
priorities-waited_on J zero = refl
priorities-waited_on J (suc n) = priorities-added (waited_on J n) Waits ∙ priorities-waited_on J n
