-- Labels, and what a medium line adds to a device.
use Rattle.std.specs.Prelude.{ℕ, ◌+◌, ◌-◌, ◌%◌, ◌&&◌, ◌||◌, not, nat_le, Bool, false, List, [], ◌∷◌, ◌++◌, length, replicate, Option, Some, None, if◌then◌else◌}
use Rattle.std.specs.List.{list_all}
use Rattle.kdf_code.specs.Code.{code_of}
use Rattle.kdf_word.specs.Characters.{first_word, words_of}
use Rattle.kdf_journal.specs.declared.kind.Kind.{Kind}
use Rattle.kdf_journal.specs.declared.kind.Kind.TheVariants.{Tr, Tp, Cr, Lp, Mt}
use Rattle.kdf_media.specs.Media.{card_of}
use Rattle.kdf_tape.specs.Tape.{Recorded}
use Rattle.kdf_transfer.specs.Devices.{DeviceProgress}
use Rattle.kdf_job.specs.Job.{JobDevice}
use Rattle.kdf_job.specs.Limits.{card_length, longest_block}

-- the code of each byte of a text, if each has one
abbrev pub with_code : Option ℕ → Option (List ℕ) → Option (List ℕ)
with_code (Some code) (Some codes) = Some (code ∷ codes)
with_code _ _ = None

-- the code of each byte of a text, if each has one
unfoldable pub codes_in : List ℕ → Option (List ℕ)
codes_in [] = Some []
codes_in (byte ∷ bytes) = with_code (code_of byte) (codes_in bytes)

-- a letter A to Z, or a digit
abbrev pub is_label_byte : ℕ → Bool
is_label_byte byte = nat_le 65 byte && nat_le byte 90 || nat_le 48 byte && nat_le byte 57

-- 1 to 8 of them
abbrev pub is_label : List ℕ → Bool
is_label text = nat_le 1 (length text) && nat_le (length text) 8 && list_all is_label_byte text

-- the word of a text's characters
abbrev pub word_of_codes : Option (List ℕ) → ℕ
word_of_codes None = 0
word_of_codes (Some codes) = first_word codes

abbrev pub word_of_text : List ℕ → ℕ
word_of_text text = word_of_codes (codes_in text)

-- a device with these blocks at the start
abbrev pub at_start : List Recorded → DeviceProgress
at_start recorded =
    record { place = 0; flag = false; mark = false; blocks = []; recorded = recorded }

-- a device before its medium; a label counts for magnetic tape alone
abbrev pub label_of : Kind → ℕ → ℕ
label_of Mt label = label
label_of _ label = 0

-- a device before its medium
abbrev pub new_device : ℕ → Kind → ℕ → JobDevice
new_device d kind label =
    record {
      d = d;
      fixture = record { kind = kind; label = label_of kind label; codes = []; cards = [] };
      progress = at_start [];
    }

-- characters of a block, filled up with code 0 to whole words
abbrev pub filled : List ℕ → List ℕ
filled codes = codes ++ replicate (7 - (length codes + 7) % 8) 0

-- the device with these characters more on its paper tape, or with one card more, or with one block more
abbrev pub with_characters : List ℕ → JobDevice → JobDevice
with_characters codes x =
    record x { fixture = record x.fixture { codes = x.fixture.codes ++ codes } }

abbrev pub with_card : List ℕ → JobDevice → JobDevice
with_card codes x =
    record x { fixture = record x.fixture { cards = x.fixture.cards ++ card_of codes ∷ [] } }

abbrev pub with_block : Bool → List ℕ → JobDevice → JobDevice
with_block marked codes x =
    record x {
      progress = record x.progress {
        recorded = x.progress.recorded ++ record { words = words_of (filled codes); mark = marked } ∷ [];
      };
    }

-- whether a line of so many characters may stand after a device of this kind. A line that is marked begins with `=`
abbrev pub fits : Kind → Bool → ℕ → Bool
fits Tr marked n = not marked
fits Tp marked n = false
fits Cr marked n = not marked && nat_le n card_length
fits Lp marked n = false
fits Mt marked n = nat_le 1 n && nat_le n longest_block

-- what it adds
abbrev pub added : Kind → Bool → List ℕ → JobDevice → JobDevice
added Tr marked codes x = with_characters codes x
added Tp marked codes x = x
added Cr marked codes x = with_card codes x
added Lp marked codes x = x
added Mt marked codes x = with_block marked codes x

abbrev pub with_codes : Bool → Option (List ℕ) → JobDevice → Option JobDevice
with_codes marked None x = None
with_codes marked (Some codes) x =
    if fits x.fixture.kind marked (length codes)
    then Some (added x.fixture.kind marked codes x) else None

-- the device with a medium line more, or none where the line is no medium of it
abbrev pub with_medium : Bool → List ℕ → JobDevice → Option JobDevice
with_medium marked text x = with_codes marked (codes_in text) x
