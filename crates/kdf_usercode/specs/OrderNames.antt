-- The names of the orders that name no store and no reference, with `0` where a number stands.
use Rattle.std.specs.Prelude.{ℕ, List, [], ◌∷◌, ◌++◌}
use lib.Chars.{codes}
use Rattle.kdf_usercode.specs.declared.fault.DeckFault.{DeckFault}
use Rattle.kdf_usercode.specs.declared.fault.DeckFault.TheVariants.{Floating}
use Rattle.kdf_usercode.specs.declared.order_names.OrderForm.{OrderForm}
use Rattle.kdf_usercode.specs.declared.order_names.OrderForm.TheVariants.{Plain, Indirect, Single, Copies, ShiftUp, ShiftDown, ShiftCount, Device, Query}
use Rattle.kdf_usercode.specs.declared.order_names.OrderForm.TheVariants.{ExitNone, Exit, SetUp, SetDown}

-- orders of one syllable
abbrev plain_names : List (List ℕ × OrderForm)
plain_names =
    (codes "DUMMY", Plain 0x01) ∷
    (codes "ERASE", Plain 0x02) ∷
    (codes "DUP", Plain 0x03) ∷
    (codes "DUPD", Plain 0x04) ∷
    (codes "REV", Plain 0x05) ∷
    (codes "REVD", Plain 0x06) ∷
    (codes "CAB", Plain 0x07) ∷
    (codes "PERM", Plain 0x08) ∷
    (codes "ZERO", Plain 0x09) ∷
    (codes "AND", Plain 0x0a) ∷
    (codes "OR", Plain 0x0b) ∷
    (codes "NOT", Plain 0x0c) ∷
    (codes "NEV", Plain 0x0d) ∷
    (codes "BITS", Plain 0x0e) ∷
    (codes "NEG", Plain 0x0f) ∷
    (codes "ABS", Plain 0x10) ∷
    (codes "+", Plain 0x11) ∷
    (codes "-", Plain 0x12) ∷
    (codes "XD", Plain 0x14) ∷
    (codes "CONT", Plain 0x15) ∷
    (codes "STR", Plain 0x16) ∷
    (codes "+D", Plain 0x17) ∷
    (codes "-D", Plain 0x18) ∷
    (codes "NEGD", Plain 0x19) ∷
    (codes "DIVI", Plain 0x1a) ∷
    (codes "TOB", Plain 0x1b) ∷
    (codes "FRB", Plain 0x1c) ∷
    (codes "LINK", Plain 0x1d) ∷
    (codes "=LINK", Plain 0x1e) ∷
    (codes "=TR", Plain 0x1f) ∷
    (codes "VR", Plain 0x20) ∷
    (codes "OUT", Plain 0x21) ∷
    []

-- `MkMq`: the code is 40 hexadecimal, and 8 more for `=`, 4 for Q, 2 for H, 1 for N
abbrev indirect_names : List (List ℕ × OrderForm)
indirect_names =
    (codes "M0M0", Indirect 0x40) ∷
    (codes "M0M0Q", Indirect 0x44) ∷
    (codes "M0M0H", Indirect 0x42) ∷
    (codes "M0M0QH", Indirect 0x46) ∷
    (codes "M0M0N", Indirect 0x41) ∷
    (codes "M0M0QN", Indirect 0x45) ∷
    (codes "M0M0HN", Indirect 0x43) ∷
    (codes "M0M0QHN", Indirect 0x47) ∷
    (codes "=M0M0", Indirect 0x48) ∷
    (codes "=M0M0Q", Indirect 0x4c) ∷
    (codes "=M0M0H", Indirect 0x4a) ∷
    (codes "=M0M0QH", Indirect 0x4e) ∷
    (codes "=M0M0N", Indirect 0x49) ∷
    (codes "=M0M0QN", Indirect 0x4d) ∷
    (codes "=M0M0HN", Indirect 0x4b) ∷
    (codes "=M0M0QHN", Indirect 0x4f) ∷
    []

-- a Q-store and its parts
abbrev single_names : List (List ℕ × OrderForm)
single_names =
    (codes "Q0", Single 0x50) ∷
    (codes "C0", Single 0x51) ∷
    (codes "I0", Single 0x52) ∷
    (codes "M0", Single 0x53) ∷
    (codes "=Q0", Single 0x54) ∷
    (codes "=C0", Single 0x55) ∷
    (codes "=I0", Single 0x56) ∷
    (codes "=M0", Single 0x57) ∷
    (codes "=+Q0", Single 0x58) ∷
    (codes "=+C0", Single 0x59) ∷
    (codes "=+I0", Single 0x5a) ∷
    (codes "=+M0", Single 0x5b) ∷
    (codes "=RC0", Single 0x5c) ∷
    (codes "=RI0", Single 0x5d) ∷
    (codes "=RM0", Single 0x5e) ∷
    (codes "NC0", Single 0x5f) ∷
    (codes "DC0", Single 0x60) ∷
    (codes "M+I0", Single 0x61) ∷
    (codes "M-I0", Single 0x62) ∷
    []

-- copies of parts of a Q-store
abbrev copy_names : List (List ℕ × OrderForm)
copy_names =
    (codes "M0TOQ0", Copies 0x63) ∷
    (codes "I0TOQ0", Copies 0x64) ∷
    (codes "IM0TOQ0", Copies 0x65) ∷
    (codes "C0TOQ0", Copies 0x66) ∷
    (codes "CM0TOQ0", Copies 0x67) ∷
    (codes "CI0TOQ0", Copies 0x68) ∷
    (codes "Q0TOQ0", Copies 0x69) ∷
    []

-- shifts
abbrev shift_names : List (List ℕ × OrderForm)
shift_names =
    (codes "SHA0", ShiftUp 0x6a) ∷
    (codes "SHA+0", ShiftUp 0x6a) ∷
    (codes "SHA-0", ShiftDown 0x6a) ∷
    (codes "SHAC0", ShiftCount 0x6a) ∷
    (codes "SHL0", ShiftUp 0x6b) ∷
    (codes "SHL+0", ShiftUp 0x6b) ∷
    (codes "SHL-0", ShiftDown 0x6b) ∷
    (codes "SHLC0", ShiftCount 0x6b) ∷
    (codes "SHC0", ShiftUp 0x6c) ∷
    (codes "SHC+0", ShiftUp 0x6c) ∷
    (codes "SHC-0", ShiftDown 0x6c) ∷
    (codes "SHCC0", ShiftCount 0x6c) ∷
    (codes "SHAD0", ShiftUp 0x6d) ∷
    (codes "SHAD+0", ShiftUp 0x6d) ∷
    (codes "SHAD-0", ShiftDown 0x6d) ∷
    (codes "SHADC0", ShiftCount 0x6d) ∷
    (codes "SHLD0", ShiftUp 0x6e) ∷
    (codes "SHLD+0", ShiftUp 0x6e) ∷
    (codes "SHLD-0", ShiftDown 0x6e) ∷
    (codes "SHLDC0", ShiftCount 0x6e) ∷
    []

-- devices
abbrev device_names : List (List ℕ × OrderForm)
device_names =
    (codes "PRQ0", Device 0x70) ∷
    (codes "PREQ0", Device 0x71) ∷
    (codes "PWQ0", Device 0x72) ∷
    (codes "PWEQ0", Device 0x73) ∷
    (codes "CRQ0", Device 0x74) ∷
    (codes "LPQ0", Device 0x75) ∷
    (codes "LPEQ0", Device 0x76) ∷
    (codes "MFRQ0", Device 0x77) ∷
    (codes "MBRQ0", Device 0x78) ∷
    (codes "MWQ0", Device 0x79) ∷
    (codes "MLWQ0", Device 0x7a) ∷
    (codes "MRWDQ0", Device 0x7b) ∷
    (codes "MFSKQ0", Device 0x7c) ∷
    (codes "MBSKQ0", Device 0x7d) ∷
    []

-- queries of a device
abbrev query_names : List (List ℕ × OrderForm)
query_names =
    (codes "BUSYQ0", Query 0) ∷
    (codes "TLOQ0", Query 1) ∷
    (codes "PARQ0", Query 2) ∷
    (codes "MBTQ0", Query 3) ∷
    (codes "MLBQ0", Query 4) ∷
    (codes "INTQ0", Query 5) ∷
    []

-- the exit of a subroutine
abbrev exit_names : List (List ℕ × OrderForm)
exit_names =
    (codes "EXIT", ExitNone) ∷
    (codes "EXIT0", Exit) ∷
    []

-- constants
abbrev set_names : List (List ℕ × OrderForm)
set_names =
    (codes "SET0", SetUp) ∷
    (codes "SET+0", SetUp) ∷
    (codes "SET-0", SetDown) ∷
    []

-- all of them
abbrev pub order_names : List (List ℕ × OrderForm)
order_names =
    plain_names
    ++ indirect_names
    ++ single_names
    ++ copy_names
    ++ shift_names
    ++ device_names
    ++ query_names
    ++ exit_names
    ++ set_names

-- Names that are refused by a fault of their own: orders on floating numbers, which this machine
-- hasn't.
abbrev pub refused_names : List (List ℕ × DeckFault)
refused_names =
    (codes "+F", Floating) ∷
    (codes "-F", Floating) ∷
    (codes "XF", Floating) ∷
    (codes "X+F", Floating) ∷
    (codes "DIVF", Floating) ∷
    (codes "NEGF", Floating) ∷
    (codes "ABSF", Floating) ∷
    (codes "MAXF", Floating) ∷
    (codes "SIGNF", Floating) ∷
    (codes "FLOAT", Floating) ∷
    (codes "FLOATD", Floating) ∷
    (codes "FIX", Floating) ∷
    (codes "ROUNDF", Floating) ∷
    (codes "ROUNDHF", Floating) ∷
    (codes "STAND", Floating) ∷
    (codes "+DF", Floating) ∷
    (codes "-DF", Floating) ∷
    (codes "XDF", Floating) ∷
    (codes "DIVDF", Floating) ∷
    (codes "NEGDF", Floating) ∷
    []
