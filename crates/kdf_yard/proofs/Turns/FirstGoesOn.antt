-- Before any exchange of priorities, the first of all programs that goes on is next.
use Rattle.std.specs.Prelude.{find}
use Rattle.std.specs.List.{range_with_len}
use Rattle.std.proofs.Common.{◌≡◌, ℕ, zero, suc, ◌+◌, ◌-◌, ◌<◌, ◌≤◌, Bool, true, false, eqb, List, length, Option, Some, None, cond, refl, sym, ap, ◌∙◌, subst}
use Rattle.std.proofs.Common.{⊎_elim, arith}
use Rattle.std.proofs.lemmas.Bool.{cases_lt, eq-eqb, eqb-true, false≢true}
use Rattle.std.proofs.lemmas.List.{length-map}
use Rattle.kdf_journal.specs.Counts.{slot_numbers}
use Rattle.kdf_journal.specs.declared.need.Need.{Need}
use Rattle.kdf_processor.proofs.Finding.{found_behind, found_here, found_none}
use Rattle.kdf_yard.specs.declared.program.Program.{Program}
use Rattle.kdf_yard.specs.Fields.Going.{first_going, goes_at, if_goes, or_else, place_of}
use Rattle.kdf_yard.specs.Fields.Parts.{Reach, Seat, seat_of}
use Rattle.kdf_places.specs.Shared.{Shared}
use Rattle.kdf_yard.specs.Fields.Running.{seat_at, seats_in, AreNumbered}
use Rattle.kdf_yard.proofs.Physical.FirstFound.{found_first, none_found}

module _ (reaches : List Reach) (seats : List Seat) (holds : List (Option Need)) (s : Shared) (up : AreNumbered seats) (four : (i : ℕ) → i < length seats
    → (seat_at seats i).p < 4) where
  abbrev p : ℕ → ℕ
  p i = (seat_at seats i).p

  abbrev g : ℕ → Bool
  g = goes_at reaches seats holds s

  abbrev end : ℕ
  end = length seats

  -- the programs before i are of slots before a, and no others are
  record AreBefore (a i : ℕ) : Type 0 where
    within : i ≤ end
    low : (j : ℕ) → j < i → p j < a
    high : (j : ℕ) → i ≤ j → j < end → a ≤ p j

  abbrev From : (n a i : ℕ) → Type 0
  From n a i = first_going reaches seats holds s (range_with_len a n) ≡ find g (range_with_len i (end - i))

  -- no program is in slot a
  absent : (a i : ℕ) → AreBefore a i → place_of seats a ≡ None → AreBefore (a + 1) i
  unfolding place_of
  absent a i b none =
      record {
        within = b.within;
        low = λ j lt. let less = b.low j lt in omega arith;
        high = λ j le lt.
            let least = b.high j le lt in
            ⊎_elim
            (λ (past : a < p j). omega arith)
            (λ (le : p j ≤ a).
            let same : p j ≡ a = omega arith in
            absurd (false≢true (sym (none_found (λ k. eqb (p k) a) 0 end none j (omega arith) (omega arith)) ∙ eq-eqb (p j) a same)))
            (cases_lt a (p j));
      }

  -- program i is
  record IsHere (a i : ℕ) : Type 0 where
    there : i < end
    behind : AreBefore (a + 1) (i + 1)

  at_own : (a i : ℕ) → AreBefore a i → i < end → p i ≡ a → IsHere a i
  at_own a i b lt same =
      record {
        there = lt;
        behind = record {
          within = omega arith;
          low = λ j below.
              ⊎_elim
              (λ (less : j < i). let before = b.low j less in omega arith)
              (λ (le : i ≤ j). let here : j ≡ i = omega arith in omega (arith, ap p here, same))
              (cases_lt j i);
          high = λ j le below. let rises = up i j (omega arith) below in omega (arith, rises, same);
        };
      }

  found_at : (a i j : ℕ) → AreBefore a i → j < end → p j ≡ a → j ≡ i
  found_at a i j b lt same =
      ⊎_elim
      (λ (less : j < i). let before = b.low j less in absurd (omega (arith, before, same)))
      (λ (le : i ≤ j).
      ⊎_elim
      (λ (more : i < j).
      let rises = up i j more lt in
      let least = b.high i (omega arith) (omega arith) in
      absurd (omega (arith, rises, least, same)))
      (λ (le' : j ≤ i). omega arith)
      (cases_lt i j))
      (cases_lt j i)

  present : (a i j : ℕ) → AreBefore a i → place_of seats a ≡ Some j → (j ≡ i) × IsHere a i
  unfolding place_of
  present a i j b is =
      let first = found_first (λ k. eqb (p k) a) 0 end j is in
      let high = first.high in
      let lt : j < end = omega arith in
      let same : p j ≡ a = eqb-true (p j) a first.passes in
      let here : j ≡ i = found_at a i j b lt same in
      (here, at_own a i b (subst (λ k. k < end) here lt) (ap p (sym here) ∙ same))

  goes_or : (n a i : ℕ) → IsHere a i → (AreBefore (a + 1) (i + 1) → From n (a + 1) (i + 1)) → (b : Bool) → g i ≡ b
      → or_else (cond b (Some i) None) (first_going reaches seats holds s (range_with_len (a + 1) n)) ≡ find g (range_with_len i (end - i))
  goes_or n a i here rest true is = sym (found_here g i end here.there is)
  goes_or n a i here rest false is = rest here.behind ∙ sym (found_behind g i end here.there is)

  at_slot : (n a i : ℕ) → AreBefore a i → ((k : ℕ) → AreBefore (a + 1) k → From n (a + 1) k) → (o : Option ℕ) → place_of seats a ≡ o
      → or_else (if_goes reaches seats holds s o) (first_going reaches seats holds s (range_with_len (a + 1) n)) ≡ find g (range_with_len i (end - i))
  at_slot n a i b rest None is = rest i (absent a i b is)
  at_slot n a i b rest (Some j) is =
      let x = present a i j b is in
      ap (λ k. or_else (if_goes reaches seats holds s (Some k)) (first_going reaches seats holds s (range_with_len (a + 1) n))) x.0
      ∙ goes_or n a i x.1 (rest (i + 1)) (g i) refl

  -- after the last slot there is no program
  over : (a i : ℕ) → AreBefore a i → 4 ≤ a → end ≤ i
  over a i b le =
      ⊎_elim
      (λ (lt : i < end).
      let least = b.high i (omega arith) lt in
      let most = four i lt in
      absurd (omega (arith, least, most, le)))
      (λ (le : end ≤ i). le)
      (cases_lt i end)

  from : (n a i : ℕ) → 4 ≤ a + n → AreBefore a i → From n a i
  from zero a i all b = sym (found_none g i end (over a i b (omega (arith, all))))
  from (suc n) a i all b = at_slot n a i b (λ k. from n (a + 1) k (omega (arith, all))) (place_of seats a) refl

  pub first_is : first_going reaches seats holds s slot_numbers ≡ find g (range_with_len 0 (end - 0))
  first_is =
      from 4 0 0 (omega arith)
      (record {
        within = omega arith;
        low = λ j lt. absurd (omega arith);
        high = λ j le lt. omega arith;
      })

-- of so many programs
pub in_order : (reaches : List Reach) (programs : List Program) (holds : List (Option Need)) (s : Shared) → AreNumbered (seats_in programs)
    → ((i : ℕ) → i < length programs → (seat_at (seats_in programs) i).p < 4)
    → first_going reaches (seats_in programs) holds s slot_numbers ≡ find (goes_at reaches (seats_in programs) holds s) (range_with_len 0 (length programs - 0))
in_order reaches programs holds s up four =
    let many = length-map programs seat_of in
    first_is reaches (seats_in programs) holds s up (λ i lt. four i (omega (arith, many)))
    ∙ ap (λ n. find (goes_at reaches (seats_in programs) holds s) (range_with_len 0 (n - 0))) many
