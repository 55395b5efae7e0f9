-- What a call came to, from its answer and from what its source and its sink told before and after it. `answers n a` says that a
-- is one of the answers of the installation's service to n.
use Rattle.std.specs.Prelude.{◌≡◌, ◌≢◌, ℕ, ◌+◌, ◌≤◌, ◌&&◌, List, [], length, true, false, Option, Some, None, is_some, IfSome}
use Rattle.kdf_io.specs.Outside.{AddedFront, HasRisen, Advances, NothingLeft}
use Rattle.kdf_io.specs.Reading.{TakesAtMost}
use Rattle.kdf_theory.specs.MachineView.{MachineView}
use Rattle.kdf_top.specs.Answers.{Answers, IsCalledBy, IsDoneBy, IsDoneOver, IsDue, IsDueBy, Wrote, WroteFront, WroteFrontBy, is_done, keeps_by, reads_by}
use Rattle.kdf_top.specs.Answers.{refusal}
use Rattle.kdf_command.specs.Commands.{input_of}
use Rattle.kdf_command.specs.declared.command.Command.{Command}
use Rattle.kdf_command.specs.declared.command.Input.{Input}
use Rattle.kdf_command.specs.declared.command.Input.TheVariants.{Read, Made}
use Rattle.kdf_top.specs.declared.reason.MakeError.{MakeError}
use Rattle.kdf_top.specs.declared.reason.MakeError.TheVariants.{Refused, Memory}
use Rattle.kdf_top.specs.declared.status.Status.{Status}
use Rattle.kdf_top.specs.declared.status.Status.TheVariants as status

-- what a source tells: the bytes that are left, and its count of faults
pub record Inlet : Type 0 where
  pub left : Option (List ℕ)
  pub faults : ℕ

-- what a sink tells: the bytes that were written, its count of faults, and its room
pub record Outlet : Type 0 where
  pub written : Option (List ℕ)
  pub faults : ℕ
  pub room : ℕ

abbrev pub inlet : Option (List ℕ) → ℕ → Inlet
inlet left faults = record { left = left; faults = faults }

abbrev pub outlet : Option (List ℕ) → ℕ → ℕ → Outlet
outlet written faults room = record { written = written; faults = faults; room = room }

-- an answer that is given where such a one is called for, to a command or to words that are none, over a text
pub record IsGiven (answers : ℕ → ℕ → Type 0) (wanted : Status → Type 0) (c : Option Command) (bytes : List ℕ) (given : Status)
    (kept : Option MachineView) (old new : Outlet) : Type 0 where
  pub answer : Answers wanted given ⊥ (HasRisen old.faults new.faults)
  pub wrote : Wrote c given old.written new.written
  pub machine : is_some kept ≡ (is_done given && keeps_by c)
  pub done : given ≡ status.Done → IsDoneOver answers c bytes kept old.written new.written
  pub front : given ≡ status.WriteFault → WroteFront answers wanted c bytes old.written new.written
  pub room_writes : (due : List ℕ) → IsDue answers wanted c bytes due → length due ≤ old.room → given ≢ status.WriteFault
  pub room_count : (due : List ℕ) → IsDue answers wanted c bytes due → length due ≤ old.room → new.faults ≡ old.faults
  pub never_falls : old.faults ≤ new.faults

-- an answer that has a line of its own in place of a command's text
abbrev pub IsRefusal : Status → Type 0
IsRefusal status.Usage = Unit {0}
IsRefusal (status.Job fault line) = Unit {0}
IsRefusal (status.Deck slot fault place) = Unit {0}
IsRefusal status.Large = Unit {0}
IsRefusal (status.Snapshot fault line) = Unit {0}
IsRefusal _ = ⊥

-- why a command makes nothing of its text: this answer is called for, and has a line of its own; or there was no memory
abbrev pub IsReason : (wanted : Status → Type 0) → MakeError → Type 0
IsReason wanted (Refused called) = IsRefusal called × wanted called
IsReason wanted Memory = Unit {0}

-- an answer that is given where this one is told to a command, or to words that are none, in place of a text
pub record IsRefused (c : Option Command) (told given : Status) (old new : Outlet) : Type 0 where
  pub answer : Answers (λ x. x ≡ told) given ⊥ (HasRisen old.faults new.faults)
  pub undone : is_done given ≡ false
  pub wrote : Wrote c given old.written new.written
  pub front : given ≡ status.WriteFault → AddedFront old.written (refusal c told) new.written
  pub room_writes : length (refusal c told) ≤ old.room → given ≢ status.WriteFault
  pub room_count : length (refusal c told) ≤ old.room → new.faults ≡ old.faults
  pub never_falls : old.faults ≤ new.faults

-- at most one byte more is taken than may be read, and nothing by a command that makes its job
abbrev pub TakesBy : Input → (before after : Option (List ℕ)) → Type 0
TakesBy (Read limit) before after = TakesAtMost (limit + 1) before after
TakesBy (Made n) before after = after ≡ before

abbrev pub Takes : Option Command → (before after : Option (List ℕ)) → Type 0
Takes None before after = after ≡ before
Takes (Some c) before after = TakesBy (input_of c) before after

-- all was read by a command that reads
abbrev pub ReadsAll : Option Command → Option (List ℕ) → Type 0
ReadsAll c left = reads_by c ≡ true → NothingLeft left

-- an answer to a command, or to words that are none, over a source and a sink
pub record IsRun (answers : ℕ → ℕ → Type 0) (c : Option Command) (given : Status) (kept : Option MachineView)
    (source source' : Inlet) (sink sink' : Outlet) : Type 0 where
  pub answer : IfSome source.left (λ bytes. Answers (IsCalledBy answers c bytes) given
      (HasRisen source.faults source'.faults) (HasRisen sink.faults sink'.faults))
  pub unread : reads_by c ≡ false → Answers (IsCalledBy answers c []) given ⊥ (HasRisen sink.faults sink'.faults)
  pub command : is_some c ≡ true → given ≢ status.Usage
  pub read_fault : given ≡ status.ReadFault → HasRisen source.faults source'.faults
  pub write_fault : given ≡ status.WriteFault → HasRisen sink.faults sink'.faults
  pub wrote : Wrote c given sink.written sink'.written
  pub machine : is_some kept ≡ (is_done given && keeps_by c)
  pub ended : given ≡ status.Done → ReadsAll c source'.left
  pub done : given ≡ status.Done → (bytes : List ℕ) × Advances source.left bytes source'.left
      × IsDoneBy answers c bytes kept sink.written sink'.written
  pub told : given ≡ status.Done → IfSome source.left (λ bytes. IsDoneBy answers c bytes kept sink.written sink'.written)
  pub front : given ≡ status.WriteFault
      → IfSome source.left (λ bytes. WroteFrontBy answers c bytes sink.written sink'.written)
  pub room_writes : IfSome source.left (λ bytes. (due : List ℕ) → IsDueBy answers c bytes due
      → length due ≤ sink.room → given ≢ status.WriteFault)
  pub room_count : IfSome source.left (λ bytes. (due : List ℕ) → IsDueBy answers c bytes due
      → length due ≤ sink.room → sink'.faults ≡ sink.faults)
  pub taken : Takes c source.left source'.left
  pub source_counts : source.faults ≤ source'.faults
  pub sink_counts : sink.faults ≤ sink'.faults
