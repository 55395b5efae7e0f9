-- Where calls stop: the yard and what is shown of it tell the same.
use Rattle.std.specs.Prelude.{find}
use Rattle.std.specs.Option.{option_map}
use Rattle.std.proofs.Common.{◌≡◌, ℕ, eqb, List, refl, sym, ap, ◌∙◌}
use Rattle.kdf_journal.specs.Recorded.{Recorded}
use Rattle.kdf_processor.specs.State.{State}
use Rattle.kdf_director.specs.declared.halt.Halt.{Halt}
use Rattle.kdf_director.specs.declared.machine.Progress.{Progress}
use Rattle.kdf_director.specs.declared.machine.Progress.TheVariants as progress
use Rattle.kdf_yard.specs.declared.program.Program.{Program}
use Rattle.kdf_director.specs.Fields.Agrees.{IsReady}
use Rattle.kdf_director.specs.Fields.Halted.{stops_in}
use Rattle.kdf_yard.specs.Fields.Parts.{Seat, seat_of}
use Rattle.kdf_director.specs.Fields.Following.{asked_at}
use Rattle.kdf_yard.specs.Fields.Running.{own_state, seats_in, seat_at}
use Rattle.kdf_yard.specs.Fields.Standing.{Standing}
use Rattle.kdf_director.specs.Fields.Viewed.{shown_of}
use Rattle.kdf_director.specs.Halts.{halts, stops}
use Rattle.kdf_director.proofs.Linking.FieldsShow.{twice}
use Rattle.kdf_theory.proofs.Lists.{find_map}
use Rattle.kdf_director.proofs.Linking.OwnStates.{told_of}

-- the registers of the program of a slot
pub seated : (programs : List Program) (p : ℕ) → option_map (λ (x : Program). x.registers) (find (λ (x : Program). eqb x.p p) programs) ≡ option_map
    (λ (x : Seat). x.registers) (find (λ (x : Seat). eqb x.p p) (seats_in programs))
seated programs p =
    sym (twice (λ (x : Seat). x.registers) seat_of (find (λ (x : Program). eqb x.p p) programs))
    ∙ ap (option_map (λ (x : Seat). x.registers)) (sym (find_map seat_of (λ (x : Seat). eqb x.p p) programs))

module _ (y : Standing) (J : Recorded) (room : ℕ) (ready : IsReady y J room) where
  registers_are : (i : ℕ) → (own_state y.reaches y.seats y.shared (asked_at y.seats J.entries i) i).registers ≡ (seat_at y.seats i).registers
  unfolding own_state
  registers_are i = refl

  pub stops_same : (halt : Halt) (r : Progress) → stops_in halt y r ≡ stops halt (shown_of y J room) r
  stops_same halt (progress.Ran p) =
      ap (halts halt p) (told_of y.slots y.reaches y.seats y.shared J.entries room ready.agrees (λ (x : Seat). x.registers) (λ (x : State). x.registers) p
      (λ i lt. registers_are i))
  stops_same halt (progress.Held p need) = refl
  stops_same halt progress.Idle = refl
  stops_same halt progress.AllEnded = refl
