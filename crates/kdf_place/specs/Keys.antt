-- A section and a number in it, as one number that orders them.
use Rattle.std.specs.Prelude.{ℕ, ◌+◌, ◌*◌}
use Rattle.kdf_place.specs.declared.names.Entry.{Entry}

abbrev pub key_of : ℕ → ℕ → ℕ
key_of section number = 65536 * section + number

abbrev pub key : {T : Type 0} → Entry T → ℕ
key e = key_of e.section e.number
