-- A program that fails or ends has no transfer in flight.
use Rattle.std.proofs.Common.{◌≡◌, ◌≢◌, ℕ, zero, suc, ◌+◌, ◌<◌, ◌≤◌, Bool, true, false, List, ◌∷◌, length, map, Option, Some, None, is_some, cond, refl, sym}
use Rattle.std.proofs.Common.{ap, ◌∙◌, subst, ⊎_elim, arith}
use Rattle.std.specs.List.{filter, list_any, range_with_len}
use Rattle.std.proofs.lemmas.Bool.{or_parts, cases_Bool, cases_eq, false≢true}
use Rattle.kdf_transfer.specs.AtOnce.{kind_of}
use Rattle.kdf_journal.specs.declared.need.Need.{Need}
use Rattle.kdf_journal.specs.declared.need.Need.TheVariants.{Device}
use Rattle.kdf_processor.specs.Effect.{Question, Effect, Failing, Ending}
use Rattle.kdf_processor.specs.Frame.{HidesNone}
use Rattle.kdf_processor.specs.Lone.{is_live}
use Rattle.kdf_processor.specs.Needs.{effect_needs, needs, next_effect}
use Rattle.kdf_processor.specs.Row.{perform, row}
use Rattle.kdf_processor.specs.State.{State}
use Rattle.kdf_transfer.specs.ByNumber.{device_count}
use Rattle.kdf_theory.specs.Flights.{Flight, mine_of, touches}
use Rattle.kdf_theory.specs.Flying.{IfFlight, AreFlying}
use Rattle.kdf_theory.specs.Seen.{pending_in_flight}
use Rattle.kdf_theory.proofs.Seen.OrdersSeen.{parts_apart}
use Rattle.kdf_theory.proofs.Seen.TransfersChecked.{claim_small}

-- none of the numbers that pass a test is hidden as a device
filter_apart : (hidden : Need → Bool) (test : ℕ → Bool) (from n d : ℕ) → from ≤ d → d < from + n → test d ≡ true
    → list_any hidden (map Device (filter test (range_with_len from n))) ≡ false → hidden (Device d) ≡ false
filter_apart hidden test from zero d low high is none = absurd (omega arith)
filter_apart hidden test from (suc n) d low high is none =
    ⊎_elim
    (λ (here : from ≡ d).
    let passes : test from ≡ true = ap test here ∙ is in
    ap (λ x. hidden (Device x)) (sym here) ∙ (or_parts _ _ (subst (λ b. list_any hidden (map Device (cond b (from ∷ rest) rest)) ≡ false) passes none)).0)
    (λ (ne : from ≢ d).
    filter_apart hidden test (from + 1) n d (omega arith) (omega arith) is
    (⊎_elim
    (λ (passes : test from ≡ true). (or_parts _ _ (subst (λ b. list_any hidden (map Device (cond b (from ∷ rest) rest)) ≡ false) passes none)).1)
    (λ (fails : test from ≡ false). subst (λ b. list_any hidden (map Device (cond b (from ∷ rest) rest)) ≡ false) fails none)
    (cases_Bool (test from))))
    (cases_eq from d)
  where
    rest : List ℕ
    rest = filter test (range_with_len (from + 1) n)

-- an effect after which the program isn't live waits for all its transfers
over_apart : (hidden : Need → Bool) (mine : List ℕ) (answer : Question → ℕ) (e : Effect) (s : State) → is_live s.registers.state ≡ true
    → is_live (perform answer e s).registers.state ≡ false → HidesNone hidden (effect_needs mine e) → list_any hidden (map Device mine) ≡ false
over_apart hidden mine answer (Failing kind) s live over none = none
over_apart hidden mine answer (Ending after) s live over none = none
over_apart hidden mine answer e s live over none = absurd (false≢true (sym over ∙ live))

none_flying : (flights : ℕ → Option Flight) (s : State) → AreFlying flights s → list_any (pending_in_flight flights) (map Device (mine_of flights)) ≡ false
    → (d : ℕ)
    → flights d ≡ None
none_flying flights s flying none d = go (flights d) refl (flying.each d)
  where
    go : (f : Option Flight) → flights d ≡ f → IfFlight s d f → f ≡ None
    go None is h = refl
    go (Some f) is h =
        let small : d < device_count = claim_small s.stock.claims d (kind_of f.order) h.claimed in
        absurd (false≢true (sym (filter_apart (pending_in_flight flights) (λ x. is_some (flights x)) 0 device_count d (omega arith) (omega arith)
        (ap is_some is) none)
        ∙ ap is_some is))

pub over_row : (flights : ℕ → Option Flight) (answer : Question → ℕ) (s : State) → AreFlying flights s
    → HidesNone (pending_in_flight flights) (needs s (mine_of flights)) → is_live s.registers.state ≡ true → is_live (row s answer).registers.state ≡ false
    → (d : ℕ)
    → flights d ≡ None
over_row flights answer s flying none live over =
    none_flying flights s flying (over_apart (pending_in_flight flights) (mine_of flights) answer (next_effect s) s live over
    (parts_apart flights (mine_of flights) s none).1)

-- where none is in flight, all of them are
pub nothing_flying : (flights : ℕ → Option Flight) (s : State) → length s.stock.store ≡ s.stock.claims.size → ((d : ℕ) → flights d ≡ None) → AreFlying flights s
nothing_flying flights s sized none =
    record {
      sized = sized;
      each = λ d. subst (IfFlight s d) (sym (none d)) tt;
      apart = λ d e g ne is. ap (λ f. touches f g) (none e);
    }
