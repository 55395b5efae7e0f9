-- The lines of a journal: how an entry is printed, and the entry that a line tells.
use Rattle.std.specs.Prelude.{ℕ, ◌+◌, ◌<◌, ◌^◌, List, [], ◌∷◌, ◌++◌, Option, Some, None, if◌then◌else◌, codes, decimal}
use Rattle.std.specs.Option.{option_map}
use Rattle.kdf_text.specs.Lines.{words, is_text}
use Rattle.kdf_text.specs.Numbers.{number_in}
use Rattle.kdf_journal.specs.declared.failure.Failure.{Failure}
use Rattle.kdf_journal.specs.declared.failure.Failure.TheVariants.{Liv, Nouv, Out, Reset, Claim}
use Rattle.kdf_journal.specs.declared.entry.Entry.{Entry}
use Rattle.kdf_journal.specs.declared.entry.Entry.TheVariants.{Ran, Start, Answer, Take, Give, Fail, Ended, Lov, Busy, Wait, Idle, Move, End, Clock, Swap}
use Rattle.kdf_journal.specs.declared.kind.Kind.{Kind}
use Rattle.kdf_journal.specs.declared.kind.Kind.TheVariants.{Tr, Tp, Cr, Lp, Mt}
use Rattle.kdf_journal.specs.Failures.{name_of}
use Rattle.kdf_journal.specs.Kinds.{kind_name}

-- ---- how it is printed

-- an entry of the journal
abbrev pub entry_line : Entry → List ℕ
entry_line (Ran p n) = codes "RAN " ++ decimal p ++ codes " " ++ decimal n
entry_line (Start p d k) = codes "START " ++ decimal p ++ codes " " ++ decimal d ++ codes " " ++ decimal k
entry_line (Answer p v) = codes "ANSWER " ++ decimal p ++ codes " " ++ decimal v
entry_line (Take p d) = codes "TAKE " ++ decimal p ++ codes " " ++ decimal d
entry_line (Give p d) = codes "GIVE " ++ decimal p ++ codes " " ++ decimal d
entry_line (Fail p kind) = codes "FAIL " ++ decimal p ++ codes " " ++ name_of kind
entry_line (Ended p) = codes "ENDED " ++ decimal p
entry_line (Lov p group) = codes "LOV " ++ decimal p ++ codes " " ++ decimal group
entry_line (Busy p d) = codes "BUSY " ++ decimal p ++ codes " " ++ decimal d
entry_line (Wait p kind) = codes "WAIT " ++ decimal p ++ codes " " ++ kind_name kind
entry_line (Idle n) = codes "IDLE " ++ decimal n
entry_line (Move d n) = codes "MOVE " ++ decimal d ++ codes " " ++ decimal n
entry_line (End d) = codes "END " ++ decimal d
entry_line (Clock t) = codes "CLOCK " ++ decimal t
entry_line (Swap p q) = codes "SWAP " ++ decimal p ++ codes " " ++ decimal q

-- the numbers of an entry are those of its type
abbrev pub IsEntry : Entry → Type 0
IsEntry (Ran p n) = (p < 2 ^ 8) × (n < 2 ^ 32)
IsEntry (Start p d k) = (p < 2 ^ 8) × (d < 2 ^ 8) × (k < 2 ^ 32)
IsEntry (Answer p v) = (p < 2 ^ 8) × (v < 2 ^ 64)
IsEntry (Take p d) = (p < 2 ^ 8) × (d < 2 ^ 8)
IsEntry (Give p d) = (p < 2 ^ 8) × (d < 2 ^ 8)
IsEntry (Fail p kind) = p < 2 ^ 8
IsEntry (Ended p) = p < 2 ^ 8
IsEntry (Lov p group) = (p < 2 ^ 8) × (group < 2 ^ 16)
IsEntry (Busy p d) = (p < 2 ^ 8) × (d < 2 ^ 8)
IsEntry (Wait p kind) = p < 2 ^ 8
IsEntry (Idle n) = n < 2 ^ 32
IsEntry (Move d n) = (d < 2 ^ 8) × (n < 2 ^ 16)
IsEntry (End d) = d < 2 ^ 8
IsEntry (Clock t) = t < 2 ^ 64
IsEntry (Swap p q) = (p < 2 ^ 8) × (q < 2 ^ 8)

-- ---- what is read

-- the numbers of each size
abbrev pub number_8 : List ℕ → Option ℕ
number_8 word = number_in 0 255 word

abbrev pub number_16 : List ℕ → Option ℕ
number_16 word = number_in 0 65535 word

abbrev pub number_32 : List ℕ → Option ℕ
number_32 word = number_in 0 4294967295 word

abbrev pub number_64 : List ℕ → Option ℕ
number_64 word = number_in 0 18446744073709551615 word

-- the kind of failure of a name
abbrev pub failure_named : List ℕ → Option Failure
failure_named word =
    if is_text (codes "LIV") word then Some Liv
    else (if is_text (codes "NOUV") word then Some Nouv
    else (if is_text (codes "OUT") word then Some Out
    else (if is_text (codes "RESET") word then Some Reset
    else (if is_text (codes "CLAIM") word then Some Claim
    else None))))

-- the kind of device of a name
abbrev pub kind_named : List ℕ → Option Kind
kind_named word =
    if is_text (codes "TR") word then Some Tr
    else (if is_text (codes "TP") word then Some Tp
    else (if is_text (codes "CR") word then Some Cr
    else (if is_text (codes "LP") word then Some Lp
    else (if is_text (codes "MT") word then Some Mt
    else None))))

-- the entry that is made of two things that were read, and of three
abbrev pub of_both : {A B : Type 0} → (A → B → Entry) → Option A → Option B → Option Entry
of_both make (Some a) b = option_map (make a) b
of_both make None b = None

abbrev pub of_all : (ℕ → ℕ → ℕ → Entry) → Option ℕ → Option ℕ → Option ℕ → Option Entry
of_all make (Some a) b c = of_both (make a) b c
of_all make None b c = None

-- by a name that tells what the schedule did, after which stand two words
abbrev pub of_event : (name a b : List ℕ) → Option Entry
of_event name a b =
    if is_text (codes "MOVE") name then of_both Move (number_8 a) (number_16 b)
    else (if is_text (codes "SWAP") name then of_both Swap (number_8 a) (number_8 b)
    else None)

-- by one that tells what holds a program, or what the schedule did
abbrev pub of_hold : (name a b : List ℕ) → Option Entry
of_hold name a b =
    if is_text (codes "LOV") name then of_both Lov (number_8 a) (number_16 b)
    else (if is_text (codes "BUSY") name then of_both Busy (number_8 a) (number_8 b)
    else (if is_text (codes "WAIT") name then of_both Wait (number_8 a) (kind_named b)
    else of_event name a b))

-- by the name, after which stand one, two and three words
abbrev pub of_one : (name a : List ℕ) → Option Entry
of_one name a =
    if is_text (codes "ENDED") name then option_map Ended (number_8 a)
    else (if is_text (codes "IDLE") name then option_map Idle (number_32 a)
    else (if is_text (codes "END") name then option_map End (number_8 a)
    else (if is_text (codes "CLOCK") name then option_map Clock (number_64 a)
    else None)))

abbrev pub of_two : (name a b : List ℕ) → Option Entry
of_two name a b =
    if is_text (codes "RAN") name then of_both Ran (number_8 a) (number_32 b)
    else (if is_text (codes "ANSWER") name then of_both Answer (number_8 a) (number_64 b)
    else (if is_text (codes "TAKE") name then of_both Take (number_8 a) (number_8 b)
    else (if is_text (codes "GIVE") name then of_both Give (number_8 a) (number_8 b)
    else (if is_text (codes "FAIL") name then of_both Fail (number_8 a) (failure_named b)
    else of_hold name a b))))

abbrev pub of_three : (name a b c : List ℕ) → Option Entry
of_three name a b c =
    if is_text (codes "START") name then of_all Start (number_8 a) (number_8 b) (number_32 c)
    else None

-- by the words
abbrev pub of_words : List (List ℕ) → Option Entry
of_words (name ∷ a ∷ []) = of_one name a
of_words (name ∷ a ∷ b ∷ []) = of_two name a b
of_words (name ∷ a ∷ b ∷ c ∷ []) = of_three name a b c
of_words _ = None

-- the entry that a line tells, if it tells one
unfoldable pub entry_in : List ℕ → Option Entry
entry_in line = of_words (words line)
