-- Calls one after another.
use Rattle.std.proofs.Common.{◌≡◌, List, [], ◌∷◌, ◌++◌, true, false, ◌⊎◌, inl, inr, Bool, refl, sym, ◌∙◌, ap, ap₂, subst, append-nil, append_assoc, ⊎_elim}
use Rattle.std.proofs.lemmas.Bool.{true≢false}
use Rattle.kdf_journal.specs.declared.entry.Entry.{Entry}
use Rattle.kdf_journal.specs.Steps.{JournalStep, added, journal_of, steps}
use Rattle.kdf_journal.proofs.Steps.{steps-added}
use Rattle.kdf_schedule.specs.Calls.{Call}
use Rattle.kdf_course.specs.World.{Dispatch, any_live}
use Rattle.kdf_course.specs.Follows.{call_of, answered, EachLive, Reaches, IsWhole}

-- the older steps answered the first of the calls
pub answered-append : (Q P : List JournalStep) → answered (Q ++ P) ≡ answered P ++ answered Q
answered-append [] P = sym (append-nil (answered P))
answered-append (s ∷ Q) P = ap (λ (cs : List Call). cs ++ call_of s ∷ []) (answered-append Q P) ∙ append_assoc (answered P) (answered Q) (call_of s ∷ [])

pub reach-nil : (W : List Entry → Dispatch) (P : List JournalStep) → Reaches W P [] P
reach-nil W P = record { more = []; goes_on = refl; left = []; in_order = refl; lived = λ l. l; at_end = inl refl }

-- where a program is live, a step that answers a call
pub reach-step : (W : List Entry → Dispatch) (P : List JournalStep) (c : Call) (s : JournalStep) → any_live (W (journal_of P)).there (journal_of P) ≡ true
    → call_of s ≡ c
    → Reaches W P (c ∷ []) (s ∷ P)
reach-step W P c s live is = record {
  more = s ∷ [];
  goes_on = refl;
  left = [];
  in_order = ap (λ (x : Call). x ∷ []) is;
  lived = λ l. (l, live);
  at_end = inl refl;
}

none_left : (W : List Entry → Dispatch) (P Q : List JournalStep) (cs : List Call) (r : Reaches W P cs Q)
    → any_live (W (journal_of Q)).there (journal_of Q) ≡ true
    → r.left ≡ []
none_left W P Q cs r live =
    ⊎_elim (λ (none : r.left ≡ []). none) (λ (dead : any_live (W (journal_of Q)).there (journal_of Q) ≡ false). absurd (true≢false (sym live ∙ dead))) r.at_end

-- while a program is live, calls go on
pub reach-append : (W : List Entry → Dispatch) (P Q R : List JournalStep) (cs ds : List Call) → Reaches W P cs Q
    → any_live (W (journal_of Q)).there (journal_of Q) ≡ true → Reaches W Q ds R → Reaches W P (cs ++ ds) R
reach-append W P Q R cs ds r live t =
    let all : answered r.more ≡ cs = sym (append-nil (answered r.more)) ∙ ap (λ (xs : List Call). answered r.more ++ xs) (sym (none_left W P Q cs r live))
    ∙ r.in_order in
    record {
      more = t.more ++ r.more;
      goes_on = t.goes_on ∙ ap (λ (S : List JournalStep). t.more ++ S) r.goes_on ∙ sym (append_assoc t.more r.more P);
      left = t.left;
      in_order =
          ap (λ (xs : List Call). xs ++ t.left) (answered-append t.more r.more)
          ∙ append_assoc (answered r.more) (answered t.more) t.left
          ∙ ap₂ (λ (xs ys : List Call). xs ++ ys) all t.in_order;
      lived = λ l. t.lived (r.lived l);
      at_end = t.at_end;
    }

-- and where none is, further calls make no step
pub reach-dead : (W : List Entry → Dispatch) (P Q : List JournalStep) (cs ds : List Call) → Reaches W P cs Q
    → any_live (W (journal_of Q)).there (journal_of Q) ≡ false
    → Reaches W P (cs ++ ds) Q
reach-dead W P Q cs ds r dead = record {
  more = r.more;
  goes_on = r.goes_on;
  left = r.left ++ ds;
  in_order = sym (append_assoc (answered r.more) r.left ds) ∙ ap (λ (xs : List Call). xs ++ ds) r.in_order;
  lived = r.lived;
  at_end = inr dead;
}

-- one call more
pub reach-added : (W : List Entry → Dispatch) (P : List JournalStep) (J K : List Entry) (cs : List Call) (c : Call) (s : JournalStep) → journal_of (steps J) ≡ J
    → Reaches W P cs (steps J) → any_live (W J).there J ≡ true → call_of s ≡ c → K ≡ added J s → Reaches W P (cs ++ c ∷ []) (steps K)
reach-added W P J K cs c s form r live is k =
    let there : any_live (W (journal_of (steps J))).there (journal_of (steps J)) ≡ true = subst (λ (L : List Entry). any_live (W L).there L ≡ true)
    (sym form) live in
    subst (Reaches W P (cs ++ c ∷ [])) (sym (ap steps k ∙ steps-added J s))
    (reach-append W P (steps J) (s ∷ steps J) cs (c ∷ []) r there (reach-step W (steps J) c s there is))

-- a journal that the calls reach from the start is whole
pub reach-whole : (W : List Entry → Dispatch) (cs : List Call) (J : List Entry) → journal_of (steps J) ≡ J → Reaches W [] cs (steps J) → IsWhole W cs J
reach-whole W cs J form r = record {
  left = r.left;
  follows = record { in_order = ap (λ (P : List JournalStep). answered P ++ r.left) (r.goes_on ∙ append-nil r.more) ∙ r.in_order; lived = r.lived tt };
  at_end = subst (λ (L : List Entry). (r.left ≡ []) ⊎ (any_live (W L).there L ≡ false)) form r.at_end;
}

-- and a whole one is reached so
pub whole-reach : (W : List Entry → Dispatch) (cs : List Call) (J : List Entry) → journal_of (steps J) ≡ J → IsWhole W cs J → Reaches W [] cs (steps J)
whole-reach W cs J form w = record {
  more = steps J;
  goes_on = sym (append-nil (steps J));
  left = w.left;
  in_order = w.follows.in_order;
  lived = λ _. w.follows.lived;
  at_end = subst (λ (L : List Entry). (w.left ≡ []) ⊎ (any_live (W L).there L ≡ false)) (sym form) w.at_end;
}

live-before : (W : List Entry → Dispatch) (s : JournalStep) (Q P : List JournalStep) → EachLive W ((s ∷ Q) ++ P)
    → any_live (W (journal_of P)).there (journal_of P) ≡ true
live-before W s [] P l = l.1
live-before W s (t ∷ Q) P l = live-before W t Q P l.0

-- where no program is live, no step is made
stays : (W : List Entry → Dispatch) (P Q : List JournalStep) (more : List JournalStep) → Q ≡ more ++ P → EachLive W Q
    → any_live (W (journal_of P)).there (journal_of P) ≡ false
    → Q ≡ P
stays W P Q [] e l dead = e
stays W P Q (s ∷ more) e l dead = absurd (true≢false (sym (live-before W s more P (subst (EachLive W) e l)) ∙ dead))

-- calls that follow those of a whole journal make it one of them all
pub whole-on : (W : List Entry → Dispatch) (cs ds : List Call) (J K : List Entry) → journal_of (steps J) ≡ J → journal_of (steps K) ≡ K → IsWhole W cs J
    → Reaches W (steps J) ds (steps K) → IsWhole W (cs ++ ds) K
whole-on W cs ds J K form own w r = reach-whole W (cs ++ ds) K own (go (any_live (W (journal_of (steps J))).there (journal_of (steps J))) refl)
  where
    go : (b : Bool) → any_live (W (journal_of (steps J))).there (journal_of (steps J)) ≡ b → Reaches W [] (cs ++ ds) (steps K)
    go true live = reach-append W [] (steps J) (steps K) cs ds (whole-reach W cs J form w) live r
    go false dead =
        let same : steps K ≡ steps J = stays W (steps J) (steps K) r.more r.goes_on (r.lived w.follows.lived) dead in
        subst (Reaches W [] (cs ++ ds)) (sym same) (reach-dead W [] (steps J) cs ds (whole-reach W cs J form w) dead)
