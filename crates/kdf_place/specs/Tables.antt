-- What the tables of the code mean.
use Rattle.std.specs.Prelude.{ℕ, ◌%◌, ◌^◌, Result, Ok, Err}
use Rattle.kdf_usercode.specs.declared.fault.DeckFault.{DeckFault}
use Rattle.kdf_place.specs.declared.names.Meanings.{Meanings}
use Rattle.kdf_place.specs.Names.{first, Names}

abbrev pub meaning : Meanings → Names
meaning m = record {
  parts = λ p. first 0 p m.parts.entries.items;
  labels = λ section r. first section r m.labels.entries.items;
  groups = m.groups;
  behind = m.behind;
}

-- an address as the code keeps it; one that isn't below 2^64 belongs to a deck that is too large
abbrev pub kept : Result ℕ DeckFault → Result ℕ DeckFault
kept (Ok address) = Ok (address % 2 ^ 64)
kept (Err fault) = Err fault
