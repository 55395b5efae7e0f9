-- The order table: what each order does, as a function of registers and claims alone.
use Rattle.std.specs.Prelude.{ℕ, ◌+◌, ◌-◌, ◌*◌, ◌/◌, ◌%◌, ◌^◌, List, [], ◌∷◌, length, Bool, true, false, not, ◌&&◌, ◌||◌, Option, Some, None, if◌then◌else◌}
use Rattle.std.specs.Prelude.{nat_lt, nat_le, ◌==◌, ℤ}
use Rattle.kdf_word.specs.Words.{word_of, signed_16}
use Rattle.kdf_word.specs.Characters.{half_of, with_half}
use Rattle.kdf_syllable.specs.declared.amount.Amount.{Amount}
use Rattle.kdf_syllable.specs.declared.amount.Amount.TheVariants.{Fixed, Count}
use Rattle.kdf_syllable.specs.declared.order.Order.{Order}
use Rattle.kdf_syllable.specs.declared.order.Order.TheVariants as order
use Rattle.kdf_qstore.specs.declared.triple.Triple.{Triple}
use Rattle.kdf_qstore.specs.Triples.{triple_at, with_triple, triple_of, word_of_triple, sum_of, sum_16, difference_16, counted_down, stepped}
use Rattle.kdf_arith.specs.declared.order.ArithOrder.TheVariants as arithmetic
use Rattle.kdf_arith.specs.Arith.{Arith, arith_result}
use Rattle.kdf_journal.specs.declared.failure.Failure.TheVariants.{Liv, Nouv, Out, Reset, Claim}
use Rattle.kdf_journal.specs.declared.kind.Kind.{Kind}
use Rattle.kdf_journal.specs.declared.kind.Kind.TheVariants.{Mt}
use Rattle.kdf_transfer.specs.AtOnce.{kind_of, has_area}
use Rattle.kdf_transfer.specs.declared.order.TransferOrder.{TransferOrder}
use Rattle.kdf_transfer.specs.declared.order.TransferOrder.TheVariants.{Prq, Preq, Pwq, Pweq, Crq, Lpq, Lpeq, Mfrq, Mbrq, Mwq, Mlwq, Mrwdq, Mfskq, Mbskq}
use Rattle.kdf_processor.specs.declared.registers.Registers.{Registers}
use Rattle.kdf_transfer.specs.declared.test.Test.TheVariants.{Flag, Start, Mark}
use Rattle.kdf_processor.specs.State.{Claims, is_pooled}
use Rattle.kdf_transfer.specs.Devices.{is_kind}
use Rattle.kdf_transfer.specs.declared.wanted.Wanted.TheVariants.{Kinded, Labelled}
use Rattle.kdf_processor.specs.Claims.{claim, is_claimed, free_for, kind_numbered, may_take, taken_device}
use Rattle.kdf_processor.specs.Effect.{Change, Refused, Going, Decision, Undecided, Decided, of_change}
use Rattle.kdf_processor.specs.Effect.{Effect, Failing, Ending, Changing, Fetching, Keeping, Testing, Starting, Asking, IsBusy, IsOut, Time, FreeOf, OfService}
use Rattle.kdf_processor.specs.Effect.{Claiming, Returning, Spooling}

-- the syllable that follows n syllables on; they are counted modulo 6 times 8,192
abbrev pub syllable_after : ℕ → ℕ → ℕ
syllable_after at n = (at + n) % 49152

-- an order of n syllables that leaves this nest
abbrev pub with_nest : ℕ → List ℕ → Registers → Registers
with_nest n nest r = record r { nest = nest; at = syllable_after r.at n }

abbrev pub with_v : Bool → Registers → Registers
with_v v r = record r { flags = record r.flags { v = v } }

abbrev pub with_tr : Bool → Registers → Registers
with_tr tr r = record r { flags = record r.flags { tr = tr } }

-- with this triple in Qq
abbrev pub with_q : ℕ → Triple → Registers → Registers
with_q q t r = record r { q = with_triple r.q q t }

-- where there is room for a word or a link more; else the first
abbrev pub room : {X : Type 0} → X → List ℕ → X → X
room full nest x = if nat_lt (length nest) 16 then x else full

-- where there is a word on top, or there are two; else the first
abbrev pub on_top : {X : Type 0} → X → List ℕ → (ℕ → List ℕ → X) → X
on_top less [] f = less
on_top less (n1 ∷ below) f = f n1 below

abbrev pub on_two : {X : Type 0} → X → List ℕ → (ℕ → ℕ → List ℕ → X) → X
on_two less (n1 ∷ n2 ∷ below) f = f n1 n2 below
on_two less _ f = less

-- an order of n syllables that pushes a word
abbrev pub pushes : Registers → ℕ → ℕ → Change
pushes r n w = room (Refused Nouv) r.nest (Going (with_nest n (w ∷ r.nest) r))

-- an order of n syllables that is one of arithmetic
abbrev pub arith_changes : ℕ → Registers → Option Arith → Change
arith_changes n r None = Refused Nouv
arith_changes n r (Some a) = Going (with_nest n a.nest (record r { flags = a.flags }))

-- a part of a Q-store as a word, its sign extended
abbrev pub extended : ℕ → ℕ
extended part = word_of (signed_16 part)

-- the low 16 bits of a word
abbrev pub low : ℕ → ℕ
low w = w % 2 ^ 16

-- ---- one syllable

-- LINK: a link becomes a number
abbrev pub link_row : Registers → List ℕ → Change
link_row r [] = Refused Nouv
link_row r (link ∷ links) =
    room (Refused Nouv) r.nest (Going (with_nest 1 (link ∷ r.nest) (record r { links = links })))

-- =LINK: the low 16 bits become a link
abbrev pub keep_link_row : Registers → Change
keep_link_row r =
    on_top (Refused Nouv) r.nest (λ n1 below.
    room (Refused Nouv) r.links (Going (with_nest 1 below (record r { links = low n1 ∷ r.links }))))

-- One syllable, but for OUT.
unfoldable pub plain_row : Registers → ℕ → Change
plain_row r code =
    if code == 0x01 then Going (with_nest 1 r.nest r)  -- DUMMY
    else (if code == 0x1D then link_row r r.links  -- LINK
    else (if code == 0x1E then keep_link_row r  -- =LINK
    -- codes 02 to 12, 14 to 1C, 1F and 20: arithmetic
    else (if nat_le code 0x20 then arith_changes 1 r (arith_result (arithmetic.Plain code) r.nest r.flags)
    else Refused Liv)))

-- ---- OUT

-- a device is claimed, where one was found, and its number takes the place of two words
abbrev pub claims_found : Registers → List ℕ → Option ℕ → Effect
claims_found r rest None = Failing Claim
claims_found r rest (Some d) = Claiming d (with_nest 1 (d ∷ rest) r)

-- a device of a kind: the program's own that was found, or else one of the pool, where one isn't claimed; then the order asks which
abbrev pub claims_or_takes : Claims → Registers → List ℕ → Kind → Option ℕ → Effect
claims_or_takes c r rest kind (Some d) = Claiming d (with_nest 1 (d ∷ rest) r)
claims_or_takes c r rest kind None =
    if may_take c kind
    then Asking (FreeOf kind) (λ a. with_nest 1 (taken_device c kind a ∷ rest) r)
    else Failing Claim

-- where there is such a kind
abbrev pub claims_kind : Claims → Registers → List ℕ → Option Kind → Effect
claims_kind c r rest None = Failing Out
claims_kind c r rest (Some kind) = claims_or_takes c r rest kind (free_for (Kinded kind) c)

-- to one of eight streams, the characters of the area that a word names as a Q-store
abbrev pub spools : Registers → List ℕ → Triple → Effect
spools r rest t =
    if nat_lt 7 t.c then Failing Out else Spooling t.c t.i t.m (with_nest 1 rest r)

-- the service is asked for its answer to a word, and the answer takes the place of two words
abbrev pub asks_service : Registers → List ℕ → ℕ → Effect
asks_service r rest word = Asking (OfService word) (λ a. with_nest 1 (a % 2 ^ 48 ∷ rest) r)

-- OUT, by the number on top.
unfoldable pub out_effect : Claims → Registers → ℕ → List ℕ → Effect
out_effect c r number below =
    if number == 0 then Ending (with_nest 1 below r)  -- the end of the program
    else (if number == 3 then Changing (with_nest 1 (r.ran ∷ below) r)  -- how many orders were obeyed
    -- claim a tape by its label
    else (if number == 4 then on_top (Failing Nouv) below (λ n2 rest. claims_found r rest (free_for (Labelled n2) c))
    -- claim a device of a kind
    else (if number == 5 then on_top (Failing Nouv) below (λ n2 rest. claims_kind c r rest (kind_numbered n2))
    -- give a device back
    else (if number == 6 then on_top (Failing Nouv) below (λ n2 rest. Returning (is_pooled c n2) n2 (with_nest 1 rest r))
    -- spool a text
    else (if number == 8 then on_top (Failing Nouv) below (λ n2 rest. spools r rest (triple_of n2))
    else (if number == 9 then Asking Time (λ t. with_nest 1 (t % 2 ^ 48 ∷ below) r)  -- the time
    -- ask the service, where the program is served
    else (if number == 64 && c.served then on_top (Failing Nouv) below (λ n2 rest. asks_service r rest n2)
    else Failing Out)))))))

-- ---- two syllables

-- Qq becomes what comes of the top, which is erased
abbrev pub sets_q : Registers → ℕ → (ℕ → Triple) → Change
sets_q r q f =
    on_top (Refused Nouv) r.nest (λ n1 below. Going (with_nest 2 below (with_q q (f n1) r)))

-- Qq becomes this
abbrev pub changes_q : Registers → ℕ → Triple → Change
changes_q r q t = Going (with_nest 2 r.nest (with_q q t r))

-- to syllable 0 of the word before, where the counter isn't 0
abbrev pub short_loop : Registers → ℕ → Change
short_loop r counter =
    if counter == 0 then Going (with_nest 2 r.nest r)
    else Going (record r { at = 6 * ((r.at / 6 + 8191) % 8192) })

-- What is brought of a Q-store, of which t is the triple.
unfoldable pub brought : ℕ → Triple → ℕ
brought code t =
    if code == 0x50 then word_of_triple t  -- Qq
    else (if code == 0x51 then extended t.c  -- Cq
    else (if code == 0x52 then extended t.i  -- Iq
    else (if code == 0x53 then extended t.m  -- Mq
    else 0)))

-- What a Q-store becomes of the word on top.
unfoldable pub from_top : ℕ → ℕ → Triple → Triple
from_top code w t =
    if code == 0x54 then triple_of w  -- =Qq
    else (if code == 0x55 then record t { c = low w }  -- =Cq
    else (if code == 0x56 then record t { i = low w }  -- =Iq
    else (if code == 0x57 then record t { m = low w }  -- =Mq
    else (if code == 0x58 then sum_of t (triple_of w)  -- =+Qq
    else (if code == 0x59 then record t { c = sum_16 t.c (low w) }  -- =+Cq
    else (if code == 0x5A then record t { i = sum_16 t.i (low w) }  -- =+Iq
    else (if code == 0x5B then record t { m = sum_16 t.m (low w) }  -- =+Mq
    else (if code == 0x5C then record { c = low w; i = 1; m = 0 }  -- =RCq
    else (if code == 0x5D then record { c = 0; i = low w; m = 0 }  -- =RIq
    else (if code == 0x5E then record { c = 0; i = 1; m = low w }  -- =RMq
    else t))))))))))

-- What it becomes of itself.
unfoldable pub changed : ℕ → Triple → Triple
changed code t =
    if code == 0x5F then record t { c = difference_16 0 t.c }  -- NCq
    else (if code == 0x60 then counted_down t  -- DCq
    else (if code == 0x61 then record t { m = sum_16 t.m t.i }  -- M+Iq
    else (if code == 0x62 then record t { m = difference_16 t.m t.i }  -- M-Iq
    else t)))

-- One Q-store, of which t is the triple.
unfoldable pub single_row : Registers → ℕ → ℕ → Triple → Change
single_row r code q t =
    -- codes 50 to 53, 54 to 5E, 5F to 62
    if nat_lt code 0x54 then pushes r 2 (brought code t)
    else (if nat_lt code 0x5F then sets_q r q (λ n1. from_top code n1 t)
    else (if nat_lt code 0x63 then changes_q r q (changed code t)
    else (if code == 0x6F then short_loop r t.c  -- JCqNZS
    else Refused Liv)))

-- Copies: the parts of the first that are named, and of the second the others.
unfoldable pub copied : ℕ → Triple → Triple → Triple
copied code t k =
    if code == 0x63 then record k { m = t.m }  -- MqTOQk
    else (if code == 0x64 then record k { i = t.i }  -- IqTOQk
    else (if code == 0x65 then record k { i = t.i; m = t.m }  -- IMqTOQk
    else (if code == 0x66 then record k { c = t.c }  -- CqTOQk
    else (if code == 0x67 then record k { c = t.c; m = t.m }  -- CMqTOQk
    else (if code == 0x68 then record k { c = t.c; i = t.i }  -- CIqTOQk
    else (if code == 0x69 then t  -- QqTOQk
    else k))))))

-- how far a shift goes to the left, and to the right where it is negative
abbrev pub places_of : Registers → Amount → ℤ
places_of r (Fixed n) = n
places_of r (Count q) = signed_16 (triple_at r.q q).c

-- ---- words of the store

-- what is fetched of a word: all of it, or a half
abbrev pub part_of : Option ℕ → ℕ → ℕ
part_of None w = w
part_of (Some half) w = half_of half w

-- what is kept in place of a word: another, or its first half in a half of the old one
abbrev pub with_part : Option ℕ → ℕ → ℕ → ℕ
with_part None w old = w
with_part (Some half) w old = with_half half w old

-- the suffix Q counts a Q-store on
abbrev pub counts_on : Bool → ℕ → Registers → Registers
counts_on u q r = if u then with_q q (stepped (triple_at r.q q)) r else r

-- an order of n syllables that fetches the word at an address, or half of it
abbrev pub fetches : Registers → ℕ → ℕ → Option ℕ → Bool → ℕ → Effect
fetches r n address half u q =
    room (Failing Nouv) r.nest
    (Fetching address (λ w. with_nest n (part_of half w ∷ r.nest) (counts_on u q r)))

-- an order of n syllables that keeps the top at an address, or in half of a word
abbrev pub keeps : Registers → ℕ → ℕ → Option ℕ → Bool → ℕ → Effect
keeps r n address half u q =
    on_top (Failing Nouv) r.nest (λ n1 below.
    Keeping address (with_part half n1) (with_nest n below (counts_on u q r)))

-- an order that fetches, or keeps
abbrev pub moves : Bool → Registers → ℕ → ℕ → Option ℕ → Bool → ℕ → Effect
moves t r n address half u q =
    if t then keeps r n address half u q else fetches r n address half u q

-- the bits of the code of MkMq: 8 keeps, 4 is the suffix Q, 2 takes halves, 1 adds one
abbrev pub has_bit : ℕ → ℕ → Bool
has_bit bit code = code / bit % 2 == 1

-- Mk and Mq, or half of Mq, and one where the code says so
abbrev pub indirect_address : ℕ → ℕ → ℕ → ℕ
indirect_address code mk mq = (mk + (if has_bit 2 code then mq / 2 else mq) + code % 2) % 2 ^ 16

abbrev pub indirect_half : ℕ → ℕ → Option ℕ
indirect_half code mq = if has_bit 2 code then Some (mq % 2) else None

-- MkMq and =MkMq.
unfoldable pub indirect_effect : Registers → ℕ → ℕ → ℕ → Effect
indirect_effect r code k q =
    let mq = (triple_at r.q q).m in
    moves (has_bit 8 code) r 2 (indirect_address code (triple_at r.q k).m mq)
    (indirect_half code mq) (has_bit 4 code) q

-- The store orders, t telling whether the word is kept.
unfoldable pub direct_effect : Registers → Bool → Bool → ℕ → ℕ → Effect
direct_effect r t u q a = moves t r 3 ((a + (triple_at r.q q).m) % 2 ^ 16) None u q

-- ---- jumps

-- where a jump goes, if it does: its target is 8192·s + w for syllable s of word w
abbrev pub goes : Registers → Bool → ℕ → Registers
goes r jumps target =
    record r { at = if jumps then 6 * (target % 8192) + target / 8192 else syllable_after r.at 3 }

-- the tests of a word by its sign
abbrev pub is_negative : ℕ → Bool
is_negative w = nat_le (2 ^ 47) w

abbrev pub is_zero : ℕ → Bool
is_zero w = w == 0

abbrev pub is_empty : List ℕ → Bool
is_empty [] = true
is_empty (x ∷ xs) = false

-- decided by the top, which is erased
abbrev pub by_top : Registers → (ℕ → Bool) → Decision
by_top r test =
    on_top (Undecided Nouv) r.nest (λ n1 below. Decided (test n1) (record r { nest = below }))

-- decided by the two words on top, of which the first is erased
abbrev pub by_two : Registers → (ℕ → ℕ → Bool) → Decision
by_two r test =
    on_two (Undecided Nouv) r.nest (λ n1 n2 below. Decided (test n1 n2) (record r { nest = n2 ∷ below }))

-- a subroutine jump, which pushes its own place as a link
abbrev pub with_link : Registers → Decision
with_link r =
    room (Undecided Nouv) r.links
    (Decided true (record r { links = (8192 * (r.at % 6) + r.at / 6) ∷ r.links }))

-- What the condition of a jump decides.
unfoldable pub decision : Registers → ℕ → Decision
decision r c =
    if nat_lt c 0x10 then Decided (is_zero (triple_at r.q c).c) r  -- JrCqZ
    else (if nat_lt c 0x20 then Decided (not (is_zero (triple_at r.q (c - 0x10)).c)) r  -- JrCqNZ
    else (if c == 0x20 then Decided true r  -- Jr
    else (if c == 0x21 then with_link r  -- JSr
    else (if c == 0x22 then by_two r (λ n1 n2. n1 == n2)  -- Jr=
    else (if c == 0x23 then by_two r (λ n1 n2. not (n1 == n2))  -- Jr#
    else (if c == 0x24 then by_top r is_zero  -- Jr=Z
    else (if c == 0x25 then by_top r (λ n1. not (is_zero n1))  -- Jr#Z
    else (if c == 0x26 then by_top r (λ n1. not (is_zero n1) && not (is_negative n1))  -- JrGTZ
    else (if c == 0x27 then by_top r is_negative  -- JrLTZ
    else (if c == 0x28 then by_top r (λ n1. not (is_negative n1))  -- JrGEZ
    else (if c == 0x29 then by_top r (λ n1. is_zero n1 || is_negative n1)  -- JrLEZ
    else (if c == 0x2A then Decided r.flags.v (with_v false r)  -- JrV
    else (if c == 0x2B then Decided (not r.flags.v) (with_v false r)  -- JrNV
    else (if c == 0x2C then Decided r.flags.tr (with_tr false r)  -- JrTR
    else (if c == 0x2D then Decided (not r.flags.tr) (with_tr false r)  -- JrNTR
    else (if c == 0x2E then Decided (is_empty r.nest) r  -- JrEN
    else (if c == 0x2F then Decided (not (is_empty r.nest)) r  -- JrNEN
    else (if c == 0x30 then Decided (is_empty r.links) r  -- JrEJ
    else (if c == 0x31 then Decided (not (is_empty r.links)) r  -- JrNEJ
    else Undecided Liv)))))))))))))))))))

-- a jump that was decided so
abbrev pub jumps_so : ℕ → Decision → Change
jumps_so target (Undecided kind) = Refused kind
jumps_so target (Decided jumps after) = Going (goes after jumps target)

-- The jumps.
abbrev pub jump_row : Registers → ℕ → ℕ → Change
jump_row r c target = jumps_so target (decision r c)

-- EXIT: a link is popped, and it goes on three times n syllables after
unfoldable pub exit_row : Registers → ℕ → List ℕ → Change
exit_row r n [] = Refused Nouv
exit_row r n (link ∷ links) =
    if nat_lt (link / 8192) 6
    then Going (record r { links = links; at = syllable_after (6 * (link % 8192) + link / 8192) (3 * n) })
    else Refused Reset

-- ---- devices

-- an order of two syllables that sets TR
abbrev pub sets_tr : Registers → Bool → Registers
sets_tr r tr = with_nest 2 r.nest (with_tr tr r)

-- an order of two syllables that sets TR where its answer isn't 0
abbrev pub answered_in_tr : Registers → ℕ → Registers
answered_in_tr r a = sets_tr r (nat_lt 0 a)

-- Which transfer a code begins; of the skips, m is how many blocks they pass.
unfoldable pub transfer_of : ℕ → ℕ → Option TransferOrder
transfer_of code m =
    if code == 0x70 then Some Prq  -- PRQ
    else (if code == 0x71 then Some Preq  -- PREQ
    else (if code == 0x72 then Some Pwq  -- PWQ
    else (if code == 0x73 then Some Pweq  -- PWEQ
    else (if code == 0x74 then Some Crq  -- CRQ
    else (if code == 0x75 then Some Lpq  -- LPQ
    else (if code == 0x76 then Some Lpeq  -- LPEQ
    else (if code == 0x77 then Some Mfrq  -- MFRQ
    else (if code == 0x78 then Some Mbrq  -- MBRQ
    else (if code == 0x79 then Some Mwq  -- MWQ
    else (if code == 0x7A then Some Mlwq  -- MLWQ
    else (if code == 0x7B then Some Mrwdq  -- MRWDQ
    else (if code == 0x7C then Some (Mfskq m)  -- MFSKQ
    else (if code == 0x7D then Some (Mbskq m)  -- MBSKQ
    else None)))))))))))))

-- it begins on the device C, over the area from I to M
abbrev pub starts : Registers → Triple → Option TransferOrder → Effect
starts r t None = Failing Liv
starts r t (Some o) = Starting t.c o t.i t.m (with_nest 2 r.nest r)

-- A transfer order, t being the triple of its Q-store.
abbrev pub device_effect : Registers → ℕ → Triple → Effect
device_effect r code t = starts r t (transfer_of code t.m)

-- A test, t being the triple of its Q-store.
unfoldable pub query_effect : Registers → ℕ → Triple → Effect
query_effect r b t =
    if b == 0 then Asking (IsBusy t.c) (answered_in_tr r)  -- BUSYQ
    else (if b == 1 then Asking (IsOut t.i t.m) (answered_in_tr r)  -- TLOQ
    else (if b == 2 then Testing t.c Flag (sets_tr r)  -- PARQ
    else (if b == 3 then Testing t.c Start (sets_tr r)  -- MBTQ
    else (if b == 4 then Testing t.c Mark (sets_tr r)  -- MLBQ
    else (if b == 5 then Testing t.c Flag (λ is. with_nest 2 r.nest r)  -- INTQ
    else Failing Liv)))))

-- ---- any order

-- an area is in a store of this size, and not too long
abbrev pub is_area : ℕ → (first last : ℕ) → Bool
is_area size first last =
    nat_le first last && (nat_lt last size && nat_le last (first + 4095))

-- where it is such, else the order fails
abbrev pub if_area : ℕ → (first last : ℕ) → Effect → Effect
if_area size first last e = if is_area size first last then e else Failing Liv

-- where the device is claimed, or is one of a kind
abbrev pub if_claimed : Claims → ℕ → Effect → Effect
if_claimed c d e = if is_claimed c d then e else Failing Claim

abbrev pub if_claimed_as : Claims → Kind → ℕ → Effect → Effect
if_claimed_as c kind d e = if is_kind kind (claim c d) then e else Failing Claim

-- The checks of what an effect names: its device is claimed and of the right kind, and then
-- its address is below the size of the store, or its area is in it.
unfoldable pub guarded : Claims → Effect → Effect
guarded c (Fetching a after) = if nat_lt a c.size then Fetching a after else Failing Liv
guarded c (Keeping a w after) = if nat_lt a c.size then Keeping a w after else Failing Liv
guarded c (Testing d Flag after) = if_claimed c d (Testing d Flag after)
guarded c (Testing d what after) = if_claimed_as c Mt d (Testing d what after)
guarded c (Starting d o first last after) =
    if_claimed_as c (kind_of o) d
    (if has_area o
    then if_area c.size first last (Starting d o first last after)
    else Starting d o first last after)
guarded c (Asking (IsBusy d) after) = if_claimed c d (Asking (IsBusy d) after)
guarded c (Asking (IsOut first last) after) =
    if_area c.size first last (Asking (IsOut first last) after)
guarded c (Returning pooled d after) = if_claimed c d (Returning pooled d after)
guarded c (Spooling stream first last after) =
    if_area c.size first last (Spooling stream first last after)
guarded c e = e

-- what an order does that reads and changes registers alone
abbrev pub change_of : Registers → Order → Change
change_of r (order.Plain code) = plain_row r code
change_of r (order.Single code q) = single_row r code q (triple_at r.q q)
change_of r (order.Copies code q k) =
    changes_q r k (copied code (triple_at r.q q) (triple_at r.q k))
change_of r (order.Shift code by) =
    arith_changes 2 r (arith_result (arithmetic.Shift code (places_of r by)) r.nest r.flags)
change_of r (order.Jump c target) = jump_row r c target
change_of r (order.Exit n) = exit_row r n r.links
-- SET
change_of r (order.Set constant) = pushes r 3 (extended constant)
change_of r _ = Refused Liv

-- what any order does
abbrev pub effect : Claims → Registers → Order → Effect
effect c r (order.Plain code) =
    if code == 0x21 then guarded c (on_top (Failing Nouv) r.nest (out_effect c r))  -- OUT
    else of_change (plain_row r code)
effect c r (order.Indirect code k q) = guarded c (indirect_effect r code k q)
effect c r (order.Direct t u q a) = guarded c (direct_effect r t u q a)
effect c r (order.Device code q) = guarded c (device_effect r code (triple_at r.q q))
effect c r (order.Query b q) = guarded c (query_effect r b (triple_at r.q q))
effect c r o = of_change (change_of r o)
