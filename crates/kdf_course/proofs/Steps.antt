-- One step more or less of a legal journal, and what more it may admit.
use Rattle.std.proofs.Common.{◌≡◌, ℕ, List, [], ◌∷◌, refl, sym, ap, subst}
use Rattle.kdf_journal.specs.declared.entry.Entry.{Entry}
use Rattle.kdf_journal.specs.Steps.{Note, JournalStep, Obeys, Holds, Waits, Moves, Ends, Sets, Swaps, added, journal_of, steps}
use Rattle.kdf_journal.proofs.Steps.{steps-nil, steps-added, steps-journal_of}
use Rattle.kdf_course.specs.World.{Dispatch}
use Rattle.kdf_course.specs.Legal.{Meets, EachMeets, IsLegal, IsWithin, Noted, EachNoted, both}

pub legal-nil : (W : List Entry → Dispatch) (admits : List Entry → ℕ → Note → Type 0) → IsLegal W admits []
legal-nil W admits = record { in_form = rw steps-nil refl; each = rw steps-nil tt }

pub legal-journal_of : (W : List Entry → Dispatch) (admits : List Entry → ℕ → Note → Type 0) (P : List JournalStep) → EachMeets W admits P
    → IsLegal W admits (journal_of P)
legal-journal_of W admits P m = record { in_form = ap journal_of (steps-journal_of P); each = subst (EachMeets W admits) (sym (steps-journal_of P)) m }

pub legal-added : (W : List Entry → Dispatch) (admits : List Entry → ℕ → Note → Type 0) (J : List Entry) (s : JournalStep) → IsLegal W admits J
    → Meets (W J) (admits J) J s → IsLegal W admits (added J s)
legal-added W admits J s l m =
    let is : added (journal_of (steps J)) s ≡ added J s = ap (λ (K : List Entry). added K s) l.in_form in
    let there : Meets (W (journal_of (steps J))) (admits (journal_of (steps J))) (journal_of (steps J)) s =
    subst (λ (K : List Entry). Meets (W K) (admits K) K s) (sym l.in_form) m in
    subst (IsLegal W admits) is (legal-journal_of W admits (s ∷ steps J) (l.each, there))

pub legal-before : (W : List Entry → Dispatch) (admits : List Entry → ℕ → Note → Type 0) (s : JournalStep) (P : List JournalStep)
    → IsLegal W admits (journal_of (s ∷ P))
    → IsLegal W admits (journal_of P)
legal-before W admits s P l =
    let each : EachMeets W admits (s ∷ P) = subst (EachMeets W admits) (steps-journal_of (s ∷ P)) l.each in
    legal-journal_of W admits P each.0

-- ---- what is admitted

pub meets-within : (w : Dispatch) (admits more : ℕ → Note → Type 0) → ((p : ℕ) (n : Note) → admits p n → more p n) → (J : List Entry) (s : JournalStep)
    → Meets w admits J s → Meets w more J s
meets-within w admits more part J (Obeys p n) m = (m.0, m.1, part p n m.2)
meets-within w admits more part J (Holds p by) m = m
meets-within w admits more part J Waits m = m
meets-within w admits more part J (Moves d n) m = m
meets-within w admits more part J (Ends d) m = m
meets-within w admits more part J (Sets t) m = m
meets-within w admits more part J (Swaps p q) m = m

each-within : (W : List Entry → Dispatch) (admits more : List Entry → ℕ → Note → Type 0) → IsWithin admits more → (P : List JournalStep) → EachMeets W admits P
    → EachMeets W more P
each-within W admits more part [] m = tt
each-within W admits more part (s ∷ P) m = (
  each-within W admits more part P m.0,
  meets-within (W (journal_of P)) (admits (journal_of P)) (more (journal_of P)) (part (journal_of P))
      (journal_of P) s m.1,
)

-- where more is admitted, it is legal too
pub legal-within : (W : List Entry → Dispatch) (admits more : List Entry → ℕ → Note → Type 0) (J : List Entry) → IsWithin admits more → IsLegal W admits J
    → IsLegal W more J
legal-within W admits more J part l = record { in_form = l.in_form; each = each-within W admits more part (steps J) l.each }

pub meets-both : (w : Dispatch) (admits more : ℕ → Note → Type 0) (J : List Entry) (s : JournalStep) → Meets w admits J s → Noted more s
    → Meets w (λ p n. admits p n × more p n) J s
meets-both w admits more J (Obeys p n) m is = (m.0, m.1, (m.2, is))
meets-both w admits more J (Holds p by) m is = m
meets-both w admits more J Waits m is = m
meets-both w admits more J (Moves d n) m is = m
meets-both w admits more J (Ends d) m is = m
meets-both w admits more J (Sets t) m is = m
meets-both w admits more J (Swaps p q) m is = m

each-both : (W : List Entry → Dispatch) (admits more : List Entry → ℕ → Note → Type 0) (P : List JournalStep) → EachMeets W admits P → EachNoted more P
    → EachMeets W (both admits more) P
each-both W admits more [] m is = tt
each-both W admits more (s ∷ P) m is = (
  each-both W admits more P m.0 is.0,
  meets-both (W (journal_of P)) (admits (journal_of P)) (more (journal_of P))
      (journal_of P) s m.1 is.1,
)

-- a legal journal whose notes another relation admits too
pub legal-both : (W : List Entry → Dispatch) (admits more : List Entry → ℕ → Note → Type 0) (J : List Entry) → IsLegal W admits J → EachNoted more (steps J)
    → IsLegal W (both admits more) J
legal-both W admits more J l is = record { in_form = l.in_form; each = each-both W admits more (steps J) l.each is }

pub meets-noted : (w : Dispatch) (admits : ℕ → Note → Type 0) (J : List Entry) (s : JournalStep) → Meets w admits J s → Noted admits s
meets-noted w admits J (Obeys p n) m = m.2
meets-noted w admits J (Holds p by) m = tt
meets-noted w admits J Waits m = tt
meets-noted w admits J (Moves d n) m = tt
meets-noted w admits J (Ends d) m = tt
meets-noted w admits J (Sets t) m = tt
meets-noted w admits J (Swaps p q) m = tt

each-noted : (W : List Entry → Dispatch) (admits : List Entry → ℕ → Note → Type 0) (P : List JournalStep) → EachMeets W admits P → EachNoted admits P
each-noted W admits [] m = tt
each-noted W admits (s ∷ P) m = (each-noted W admits P m.0, meets-noted (W (journal_of P)) (admits (journal_of P)) (journal_of P) s m.1)

pub legal-noted : (W : List Entry → Dispatch) (admits : List Entry → ℕ → Note → Type 0) (J : List Entry) → IsLegal W admits J → EachNoted admits (steps J)
legal-noted W admits J l = each-noted W admits (steps J) l.each

pub noted-within : (admits more : ℕ → Note → Type 0) → ((p : ℕ) (n : Note) → admits p n → more p n) → (s : JournalStep) → Noted admits s → Noted more s
noted-within admits more part (Obeys p n) m = part p n m
noted-within admits more part (Holds p by) m = tt
noted-within admits more part Waits m = tt
noted-within admits more part (Moves d n) m = tt
noted-within admits more part (Ends d) m = tt
noted-within admits more part (Sets t) m = tt
noted-within admits more part (Swaps p q) m = tt

-- notes that are admitted are also where more is
pub each-noted-within : (admits more : List Entry → ℕ → Note → Type 0) → IsWithin admits more → (P : List JournalStep) → EachNoted admits P → EachNoted more P
each-noted-within admits more part [] m = tt
each-noted-within admits more part (s ∷ P) m =
    (each-noted-within admits more part P m.0, noted-within (admits (journal_of P)) (more (journal_of P)) (part (journal_of P)) s m.1)

-- ---- notes by themselves, one step more or fewer

pub noted-nil : (admits : List Entry → ℕ → Note → Type 0) → EachNoted admits (steps [])
noted-nil admits = rw steps-nil tt

pub noted-added : (admits : List Entry → ℕ → Note → Type 0) (J : List Entry) (s : JournalStep) → journal_of (steps J) ≡ J → EachNoted admits (steps J)
    → Noted (admits J) s → EachNoted admits (steps (added J s))
noted-added admits J s form each is =
    let there : Noted (admits (journal_of (steps J))) s = subst (λ (K : List Entry). Noted (admits K) s) (sym form) is in
    subst (EachNoted admits) (sym (steps-added J s)) (each, there)
