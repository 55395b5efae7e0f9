-- How much of a text's length is kept.
use Rattle.std.specs.Prelude.{ℕ, ◌+◌, length, Option, Some, None}
use Rattle.kdf_job.specs.Job.{JobDevice}
use Rattle.kdf_job.specs.declared.line_place.LinePlace.{LinePlace}
use Rattle.kdf_job.specs.declared.line_place.LinePlace.TheVariants.{First}
use Rattle.kdf_job.specs.Draft.{ShownSlotDraft, ShownDraft}

-- the characters, cards and blocks of a medium
abbrev pub medium_length : JobDevice → ℕ
medium_length x =
    length x.fixture.codes + length x.fixture.cards + length x.progress.recorded

abbrev pub device_length : Option JobDevice → ℕ
device_length None = 0
device_length (Some x) = medium_length x

-- the deck of a slot, and the medium that is being read
abbrev pub slot_length : ShownSlotDraft → ℕ
slot_length s = length s.deck + device_length s.device

abbrev pub kept_length : Option ShownSlotDraft → ℕ
kept_length None = 0
kept_length (Some s) = slot_length s

-- a byte at least of the first line is kept nowhere
abbrev pub spared : LinePlace → ℕ
spared First = 0
spared _ = 1

-- a text in which these lines stand is at least so long, except for the end of its last line
abbrev pub weight : ShownDraft → ℕ
weight d = kept_length d.slot + spared d.place
