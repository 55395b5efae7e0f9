-- Transfers at once: which words an order moves, and how its device stands after it.
use Rattle.std.specs.Prelude.{ℕ, ◌+◌, ◌-◌, ◌<◌, ◌≤◌, ◌||◌, ◌&&◌, Bool, true, false, if◌then◌else◌, Option, None, Some, List, [], ◌∷◌, ◌++◌, map, take, drop}
use Rattle.std.specs.Prelude.{reverse, slice_set}
use Rattle.kdf_word.specs.Characters.{codes_of, codes_of_all, first_word, words_of}
use Rattle.kdf_journal.specs.declared.kind.Kind.{Kind}
use Rattle.kdf_journal.specs.declared.kind.Kind.TheVariants.{Tr, Tp, Cr, Lp, Mt}
use Rattle.kdf_media.specs.Media.{ReaderState, CardsState, has_end, through_end, through_end_word, printed, after_read, after_card, card_words}
use Rattle.kdf_tape.specs.Tape.{Recorded, TapeState, nearest, after_skip, after_write, rewound}
use Rattle.kdf_transfer.specs.Devices.{Fixture, DeviceProgress}
use Rattle.kdf_transfer.specs.declared.order.TransferOrder.{TransferOrder}
use Rattle.kdf_transfer.specs.declared.order.TransferOrder.TheVariants.{Prq, Preq, Pwq, Pweq, Crq, Lpq, Lpeq, Mfrq, Mbrq, Mwq, Mlwq, Mrwdq, Mfskq, Mbskq}

abbrev pub kind_of : TransferOrder → Kind
kind_of Prq = Tr
kind_of Preq = Tr
kind_of Pwq = Tp
kind_of Pweq = Tp
kind_of Crq = Cr
kind_of Lpq = Lp
kind_of Lpeq = Lp
kind_of _ = Mt

-- an input order moves words to the store
abbrev pub is_input : TransferOrder → Bool
is_input Prq = true
is_input Preq = true
is_input Crq = true
is_input Mfrq = true
is_input Mbrq = true
is_input _ = false

-- an output order moves words to the device
abbrev pub is_output : TransferOrder → Bool
is_output Pwq = true
is_output Pweq = true
is_output Lpq = true
is_output Lpeq = true
is_output Mwq = true
is_output Mlwq = true
is_output _ = false

-- how many blocks it adds to the device
abbrev pub blocks_out : TransferOrder → ℕ
blocks_out o = if is_output o then 1 else 0

abbrev pub has_area : TransferOrder → Bool
has_area o = is_input o || is_output o

-- the one input order that fills its area from the last address downwards
abbrev pub is_backward : TransferOrder → Bool
is_backward Mbrq = true
is_backward _ = false

-- the orders that stop after the first word with an End Message
abbrev pub stops_at_end : TransferOrder → Bool
stops_at_end Preq = true
stops_at_end Pweq = true
stops_at_end Lpeq = true
stops_at_end _ = false

-- the states of its devices that a fixture and its progress are
abbrev pub reader_at : Fixture → DeviceProgress → ReaderState
reader_at f p = record { codes = f.codes; place = p.place; flag = p.flag }

abbrev pub cards_at : Fixture → DeviceProgress → CardsState
cards_at f p = record { cards = f.cards; place = p.place; flag = p.flag }

abbrev pub tape_at : Fixture → DeviceProgress → TapeState
tape_at f p = record { label = f.label; blocks = p.recorded; place = p.place; flag = p.flag; mark = p.mark; room = 0 }

abbrev pub words_in : Option Recorded → List ℕ
words_in None = []
words_in (Some block) = block.words

-- the words that an input order gives to an area without bound, in order
unfoldable pub given : TransferOrder → Fixture → DeviceProgress → List ℕ
given Prq f p = words_of (drop p.place f.codes)
given Preq f p = words_of (drop p.place f.codes)
given Crq f p = card_words p.place f.cards
given Mfrq f p = words_in (nearest true (tape_at f p))
given Mbrq f p = reverse (words_in (nearest false (tape_at f p)))
given _ f p = []

-- a word that PREQ reads: after its End Message it is filled up with code 00
abbrev pub filled : TransferOrder → ℕ → ℕ
filled o word = if is_input o then first_word (through_end (codes_of word)) else word

-- a word as it is moved: filled up where PREQ stops at it
abbrev pub fill : TransferOrder → ℕ → ℕ
fill o word = if stops_at_end o then filled o word else word

-- the order stops after this word
abbrev pub is_last : TransferOrder → ℕ → Bool
is_last o word = stops_at_end o && has_end (codes_of word)

-- the words up to and with the first that has an End Message, where the order stops there
abbrev pub stopped : TransferOrder → List ℕ → List ℕ
stopped o words = if stops_at_end o then map (filled o) (through_end_word words) else words

-- the words that an order would move if it looked for no End Message, these being the words of the area
unfoldable pub offered : TransferOrder → ℕ → ℕ → List ℕ → Fixture → DeviceProgress → List ℕ
offered o first last words f p =
    if is_input o then take (last + 1 - first) (given o f p) else (if is_output o then words else [])

-- the words that an order moves, these being the words of the area
abbrev pub moved_words : TransferOrder → ℕ → ℕ → List ℕ → Fixture → DeviceProgress → List ℕ
moved_words o first last words f p = stopped o (offered o first last words f p)

-- the place of word i, from 0
abbrev pub place_of : TransferOrder → ℕ → ℕ → ℕ → ℕ
place_of o first last i = if is_backward o then last - i else first + i

-- words with their addresses, upwards and downwards
abbrev pub at_addresses : ℕ → List ℕ → List (ℕ × ℕ)
at_addresses a [] = []
at_addresses a (w ∷ ws) = (a, w) ∷ at_addresses (a + 1) ws

abbrev pub down_addresses : ℕ → List ℕ → List (ℕ × ℕ)
down_addresses a [] = []
down_addresses a (w ∷ ws) = (a, w) ∷ down_addresses (a - 1) ws

-- words with their addresses in the sequence of the order
abbrev pub addressed : TransferOrder → ℕ → ℕ → List ℕ → List (ℕ × ℕ)
addressed o first last ws = if is_backward o then down_addresses last ws else at_addresses first ws

-- the words that an order moves over an area of these words, in order, each with its address
abbrev pub moves : TransferOrder → ℕ → ℕ → List ℕ → Fixture → DeviceProgress → List (ℕ × ℕ)
moves o first last words f p = addressed o first last (moved_words o first last words f p)

-- a device that stands so after an order
abbrev pub has_read : ReaderState → DeviceProgress → DeviceProgress
has_read r p = record p { place = r.place; flag = r.flag }

abbrev pub has_dealt : CardsState → DeviceProgress → DeviceProgress
has_dealt c p = record p { place = c.place; flag = c.flag }

abbrev pub has_wound : TapeState → DeviceProgress → DeviceProgress
has_wound t p = record p { place = t.place; flag = t.flag; mark = t.mark; recorded = t.blocks }

abbrev pub has_written : List ℕ → DeviceProgress → DeviceProgress
has_written block p = record p { place = p.place + 1; flag = false; blocks = p.blocks ++ block ∷ [] }

-- the new state of a device after an order with an area of n words, which moved these characters to it
unfoldable pub finished : TransferOrder → ℕ → List ℕ → Fixture → DeviceProgress → DeviceProgress
finished Prq n codes f p = has_read (after_read false n (reader_at f p)) p
finished Preq n codes f p = has_read (after_read true n (reader_at f p)) p
finished Pwq n codes f p = has_written codes p
finished Pweq n codes f p = has_written (through_end codes) p
finished Crq n codes f p = has_dealt (after_card (cards_at f p)) p
finished Lpq n codes f p = has_written (printed codes) p
finished Lpeq n codes f p = has_written (printed (through_end codes)) p
finished Mfrq n codes f p = has_wound (after_skip true 1 (tape_at f p)) p
finished Mbrq n codes f p = has_wound (after_skip false 1 (tape_at f p)) p
finished Mwq n codes f p = has_wound (after_write (record { words = words_of codes; mark = false }) (tape_at f p)) p
finished Mlwq n codes f p = has_wound (after_write (record { words = words_of codes; mark = true }) (tape_at f p)) p
finished Mrwdq n codes f p = has_wound (rewound (tape_at f p)) p
finished (Mfskq count) n codes f p = has_wound (after_skip true count (tape_at f p)) p
finished (Mbskq count) n codes f p = has_wound (after_skip false count (tape_at f p)) p

-- how many words the order's area has
abbrev pub area_len : TransferOrder → ℕ → ℕ → ℕ
area_len o first last = if has_area o then last + 1 - first else 0

-- the words that an order moves to the device
abbrev pub words_out : TransferOrder → List ℕ → List ℕ
words_out o words = if is_input o then [] else stopped o (if is_output o then words else [])

-- the new state of the device, these being the words of the area
abbrev pub device_after : TransferOrder → ℕ → ℕ → List ℕ → Fixture → DeviceProgress → DeviceProgress
device_after o first last words f p = finished o (area_len o first last) (codes_of_all (words_out o words)) f p

-- a list of words after moves into it
abbrev pub written : List (ℕ × ℕ) → List ℕ → List ℕ
written [] words = words
written (m ∷ ms) words = written ms (slice_set words m.0 m.1)

-- the words of an order's area, which lies in a list of words
abbrev pub order_words : TransferOrder → ℕ → ℕ → List ℕ → List ℕ
order_words o first last words = if has_area o then take (last + 1 - first) (drop first words) else []

-- a list of words after an order whose area lies in it
abbrev pub stored : TransferOrder → ℕ → ℕ → List ℕ → Fixture → DeviceProgress → List ℕ
stored o first last words f p =
    if is_input o then written (moves o first last (order_words o first last words) f p) words else words

-- an area of 1 to 4,096 places, all of them in a list of so many
pub record IsArea (first last size : ℕ) : Type 0 where
  pub rising : first ≤ last
  pub few : last ≤ first + 4095
  pub inside : last < size
