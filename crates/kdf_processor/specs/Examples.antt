-- Registers and a store on which the rows of the table are worked.
use Rattle.std.specs.Prelude.{ℕ, ◌+◌, ◌-◌, ◌*◌, ◌^◌, List, [], ◌∷◌, ◌++◌, Bool, true, false, replicate, Option, Some, None}
use Rattle.kdf_qstore.specs.declared.triple.Triple.{Triple}
use Rattle.kdf_qstore.specs.Triples.{zero_triples, with_triple}
use Rattle.kdf_syllable.specs.declared.order.Order.{Order}
use Rattle.kdf_syllable.specs.declared.order.Order.TheVariants as order
use Rattle.kdf_journal.specs.declared.failure.Failure.{Failure}
use Rattle.kdf_journal.specs.declared.kind.Kind.{Kind}
use Rattle.kdf_journal.specs.declared.kind.Kind.TheVariants.{Tr, Tp, Cr, Lp, Mt}
use Rattle.kdf_transfer.specs.Devices.{Fixture, DeviceProgress, new_progress, test_of}
use Rattle.kdf_transfer.specs.Examples.{ab, paper}
use Rattle.kdf_transfer.specs.declared.order.TransferOrder.{TransferOrder}
use Rattle.kdf_processor.specs.declared.spooled.Spooled.{Spooled}
use Rattle.kdf_journal.specs.declared.need.Need.{Need}
use Rattle.kdf_processor.specs.declared.registers.Life.TheVariants.{Ended, Failed}
use Rattle.kdf_processor.specs.declared.registers.Registers.{Registers}
use Rattle.kdf_processor.specs.declared.step.Step.TheVariants.{Done, Ends, Fails}
use Rattle.kdf_processor.specs.Effect.{Change, Going, Act, Nothing, Starts}
use Rattle.kdf_processor.specs.Needs.{effect_needs}
use Rattle.kdf_processor.specs.Outcome.{Outcome, done}
use Rattle.kdf_processor.specs.State.{Claims, Stock, new_registers, unclaimed}
use Rattle.kdf_processor.specs.Table.{change_of, effect, with_tr}
use Rattle.kdf_processor.specs.View.{View}

-- a triple by its parts
abbrev pub parts : ℕ → ℕ → ℕ → Triple
parts c i m = record { c = c; i = i; m = m }

-- a nest, and links
abbrev pub linked : ℕ → List ℕ → List ℕ → Registers
linked at nest links = record new_registers { nest = nest; links = links; at = at }

-- a nest, and Q1
abbrev pub counted : ℕ → List ℕ → Triple → Registers
counted at nest t = record new_registers { nest = nest; q = with_triple zero_triples 1 t; at = at }

-- an order on Q1, at syllable 0 of word 10
abbrev pub single : ℕ → List ℕ → Triple → Change
single code nest t = change_of (counted 60 nest t) (order.Single code 1)

-- what such an order leaves
abbrev pub leaves : List ℕ → Triple → Change
leaves nest t = Going (counted 62 nest t)

-- a nest, an M1 of 5, and Q2
abbrev pub moving : ℕ → List ℕ → Triple → Registers
moving at nest t =
    record new_registers {
      nest = nest;
      q = with_triple (with_triple zero_triples 1 (parts 1 2 5)) 2 t;
      at = at;
    }

-- a copy from Q1 to a Q2 of other parts
abbrev pub copy : ℕ → Change
copy code = change_of (moving 60 [] (parts 3 4 6)) (order.Copies code 1 2)

-- what it makes of Q2
abbrev pub makes : Triple → Change
makes t = Going (moving 62 [] t)

-- a jump to syllable 2 of word 100
abbrev pub jump : ℕ → Registers → Change
jump c r = change_of r (order.Jump c (2 * 8192 + 100))

-- which is taken, or isn't
abbrev pub taken : Registers → Change
taken r = Going (record r { at = 602 })

abbrev pub passed : Registers → Change
passed r = Going (record r { at = r.at + 3 })

-- a store of 64 words: the first half of each is its address, and the other is 7
abbrev pub word : ℕ → ℕ
word a = 2 ^ 24 * a + 7

abbrev pub shown : View
shown =
    record {
      claims = record { size = 64; claimed = unclaimed; fixtures = []; pool = []; served = false };
      word = word;
      test = λ d what. false;
      answer = λ q. 0;
      is_out = λ _. false;
      is_busy = λ _. false;
      is_taken = λ _. false;
      mine = [];
    }

-- an order over it
abbrev pub obeyed : Registers → Order → Outcome
obeyed r o = done shown r (effect shown.claims r o)

-- how it goes, with the registers but for their count
abbrev pub does : Registers → Act → Outcome
does r act = record { step = Done; registers = record r { ran = r.ran + 1 }; act = act }

abbrev pub ends : Registers → Outcome
ends r = record { step = Ends; registers = record r { ran = r.ran + 1; state = Ended }; act = Nothing }

abbrev pub fails : Registers → Failure → Outcome
fails r kind =
    record { step = Fails kind; registers = record r { ran = r.ran + 1; state = Failed kind }; act = Nothing }

-- a device of a kind, and a tape with a label
abbrev pub fitted : Kind → Option Fixture
fitted kind = Some (record { kind = kind; label = 0; codes = []; cards = [] })

abbrev pub labelled : ℕ → Option Fixture
labelled label = Some (record { kind = Mt; label = label; codes = []; cards = [] })

-- the labels A, AB and B
abbrev pub label_a : ℕ
label_a = 0o4100000000000000

abbrev pub label_ab : ℕ
label_ab = 0o4142000000000000

abbrev pub label_b : ℕ
label_b = 0o4200000000000000

-- devices 0 to 10: a reader, a punch, cards, a printer, three tapes, and one more of each other kind
abbrev pub devices : List (Option Fixture)
devices =
    fitted Tr ∷ fitted Tp ∷ fitted Cr ∷ fitted Lp
    ∷ labelled label_a ∷ labelled label_ab ∷ labelled label_a
    ∷ fitted Tr ∷ fitted Tp ∷ fitted Cr ∷ fitted Lp ∷ replicate 5 None

-- a store of 8,192 words, and these devices, of which the first n are claimed
abbrev pub claiming : ℕ → Claims
claiming n =
    record {
      size = 8192;
      claimed = replicate n true ++ replicate (16 - n) false;
      fixtures = devices;
      pool = [];
      served = false;
    }

-- with devices that have come so far, and an answer to each question
abbrev pub equipped : ℕ → DeviceProgress → ℕ → View
equipped n progress answer =
    record {
      claims = claiming n;
      word = word;
      test = λ d what. test_of what progress;
      answer = λ q. answer;
      is_out = λ _. false;
      is_busy = λ _. false;
      is_taken = λ _. false;
      mine = [];
    }

-- an order over it
abbrev pub obeyed_over : View → Registers → Order → Outcome
obeyed_over v r o = done v r (effect v.claims r o)

-- an order on Q1 that begins a transfer, devices 0 to 5 being claimed
abbrev pub transfer : ℕ → Triple → Outcome
transfer code t = obeyed_over (equipped 6 new_progress 0) (counted 60 [] t) (order.Device code 1)

-- it begins over the area, or it fails
abbrev pub begins : Triple → TransferOrder → Outcome
begins t o = does (counted 62 [] t) (Starts t.c o t.i t.m)

abbrev pub refuses : Triple → Failure → Outcome
refuses t kind = fails (counted 60 [] t) kind

-- an order on Q1 that asks, after TR
abbrev pub asks : ℕ → Bool → ℕ → Triple → Outcome
asks b tr answer t =
    obeyed_over (equipped 6 new_progress answer) (with_tr tr (counted 60 [] t)) (order.Query b 1)

-- an order on Q1 that tests devices which have come so far, after TR
abbrev pub tests : ℕ → Bool → DeviceProgress → Triple → Outcome
tests b tr progress t =
    obeyed_over (equipped 6 progress 0) (with_tr tr (counted 60 [] t)) (order.Query b 1)

-- it sets TR
abbrev pub tells : Bool → Triple → Act → Outcome
tells tr t act = does (with_tr tr (counted 62 [] t)) act

-- a device at a place, with its flag and its mark
abbrev pub standing : ℕ → Bool → Bool → DeviceProgress
standing place flag mark = record new_progress { place = place; flag = flag; mark = mark }

-- OUT, the first n devices being claimed, the time being 2^50 + 9 and 41 orders obeyed
abbrev pub calling : List ℕ → Registers
calling nest = record (linked 60 nest []) { ran = 41 }

abbrev pub calls : ℕ → List ℕ → Outcome
calls n nest = obeyed_over (equipped n new_progress (2 ^ 50 + 9)) (calling nest) (order.Plain 0x21)

-- it leaves this nest, or it fails
abbrev pub replaces : List ℕ → Act → Outcome
replaces nest act = does (record (linked 61 nest []) { ran = 41 }) act

abbrev pub rejects : List ℕ → Failure → Outcome
rejects nest kind = fails (calling nest) kind

-- OUT of a program that is served, the answer to each question being 2^50 + 9
abbrev pub served : View
served =
    record (equipped 0 new_progress (2 ^ 50 + 9)) { claims = record (claiming 0) { served = true } }

abbrev pub calls_served : List ℕ → Outcome
calls_served nest = obeyed_over served (calling nest) (order.Plain 0x21)

-- what an order needs after the groups of its syllables, the program having transfers on devices 2 and 5
abbrev pub waits_for : Registers → Order → List Need
waits_for r o = effect_needs (2 ∷ 5 ∷ []) (effect (claiming 6) r o)

-- OUT ends the program, with this nest
abbrev pub ends_behind : List ℕ → Outcome
ends_behind nest = ends (record (linked 61 nest []) { ran = 41 })

-- what a program has whose device 0 is a paper tape of eight letters A and eight letters B, and whose store has four words
abbrev pub kept : List Bool → List Spooled → ℕ → List ℕ → DeviceProgress → Stock
kept claimed spooled asked store progress =
    record {
      claims = record { size = 4; claimed = claimed; fixtures = Some (paper ab) ∷ []; pool = []; served = false };
      spooled = spooled;
      asked = asked;
      stints = [];
      store = store;
      devices = progress ∷ [];
    }
