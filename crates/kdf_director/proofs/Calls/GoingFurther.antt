-- The program that is next obeys many orders of which nothing is noted.
use Rattle.std.proofs.Common.{◌≡◌, ℕ, zero, suc, ◌+◌, ◌≤◌, List, sym, subst, arith}
use Rattle.kdf_journal.specs.declared.entry.Entry.{Entry}
use Rattle.kdf_journal.specs.declared.journal.TheConstants.{CALL_LIMIT}
use Rattle.kdf_journal.specs.Counts.{calls, clock}
use Rattle.kdf_yard.specs.Fields.Batches.{AreQuiet, HasTriedOn}
use Rattle.kdf_yard.specs.Fields.Parts.{Seat}
use Rattle.kdf_places.specs.Shared.{Shared}
use Rattle.kdf_yard.specs.Fields.Standing.{Standing}
use Rattle.kdf_yard.specs.Fields.Yards.{number_in}
use Rattle.kdf_director.proofs.Calls.ProgramGoesOn.{IsGoingOn, going_on}
use Rattle.kdf_theory.proofs.Course.OrdersInARow.{calls-ran_on}

module _ (service : ℕ → ℕ → Type 0) (y : Standing) (J : List Entry) (room i : ℕ) where
  abbrev Goes : ℕ → List Seat → Shared → Type 0
  Goes = IsGoingOn service y J room i

  pub going_further : (n k : ℕ) (seats : List Seat) (s : Shared) (seats' : List Seat) (s' : Shared) → Goes n seats s → calls J + (n + k) ≤ CALL_LIMIT
      → AreQuiet (HasTriedOn service y.reaches (clock J) i) k seats s seats' s' → Goes (n + k) seats' s'
  going_further n zero seats s seats' s' g few same =
      let all : n ≡ n + zero = omega arith in
      subst (λ m. Goes m seats' s') all
      (subst (Goes n seats') (sym same.1) (subst (λ xs. Goes n xs s) (sym same.0) g))
  going_further n (suc k) seats s seats' s' g few (mid, between, earlier, last) =
      let all : suc (n + k) ≡ n + suc k = omega arith in
      let until : Goes (n + k) mid between = going_further n k seats s mid between g (omega (arith, few)) earlier in
      subst (λ m. Goes m seats' s') all
      (going_on service y J room i (n + k) mid between until seats' s' last.0 last.1 (omega (arith, few, calls-ran_on J (number_in y i) (n + k))))
