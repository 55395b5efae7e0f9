-- The limits of a job.
use Rattle.std.specs.Prelude.{ℕ}
use Rattle.kdf_journal.specs.declared.tally.TheConstants.{DEVICES}
use Rattle.kdf_limits.specs.declared.job.TheConstants.{EVENTS, TAPE_BLOCK}
use Rattle.kdf_limits.specs.declared.store.TheConstants.{GROUP_WORDS, PROGRAM_WORDS, PROGRAMS_WORDS}
use Rattle.kdf_media.specs.declared.stack.TheConstants.{CARD_LENGTH}
use Rattle.kdf_schedule.specs.declared.event.TheConstants.{MOST_ORDERS}

-- the number of words of a group
abbrev pub group : ℕ
group = GROUP_WORDS

-- the most words of one store, and of all stores together
abbrev pub most_words : ℕ
most_words = PROGRAM_WORDS

abbrev pub most_words_together : ℕ
most_words_together = PROGRAMS_WORDS

-- devices have numbers below this
abbrev pub device_limit : ℕ
device_limit = DEVICES

-- the characters of a card
abbrev pub card_length : ℕ
card_length = CARD_LENGTH

-- the most characters of a block of magnetic tape
abbrev pub longest_block : ℕ
longest_block = TAPE_BLOCK

-- the most orders of a schedule
abbrev pub most_orders : ℕ
most_orders = MOST_ORDERS

-- the most lines of a schedule that tell an event
abbrev pub most_events : ℕ
most_events = EVENTS
