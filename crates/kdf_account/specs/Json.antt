-- What is written as JSON.
use Rattle.std.specs.Prelude.{ℕ, List, [], ◌∷◌, ◌++◌, codes, decimal}
use Rattle.std.specs.List.{flat_map}
use Rattle.kdf_journal.specs.Failures.{name_of}
use Rattle.kdf_journal.specs.Kinds.{kind_name}
use Rattle.kdf_journal.specs.declared.entry.Entry.{Entry}
use Rattle.kdf_journal.specs.declared.entry.Entry.TheVariants.{Ran, Start, Answer, Take, Give, Fail, Ended, Lov, Busy, Wait, Idle, Move, End, Clock, Swap}
use Rattle.kdf_account.specs.Lanes.{lane_of}
use Rattle.kdf_account.specs.declared.moment.Free.{Free}
use Rattle.kdf_account.specs.declared.moment.Moment.{Moment}
use Rattle.kdf_account.specs.declared.tally.Tally.{Tally}

-- a number between what stands before it and what stands after it
abbrev pub number : (front : List ℕ) → ℕ → (rest : List ℕ) → List ℕ
number front n rest = front ++ (decimal n ++ rest)

-- an entry of one number, and of two
abbrev pub one_json : List ℕ → ℕ → List ℕ
one_json front n = front ++ decimal n

abbrev pub two_json : List ℕ → ℕ → List ℕ → ℕ → List ℕ
two_json front p middle n = number front p (middle ++ decimal n)

-- an entry that tells how a program failed, or for which kind of device it waits
abbrev pub kind_json : List ℕ → ℕ → List ℕ → List ℕ
kind_json name p kind =
    codes ",\"entry\":\"" ++ name ++ codes "\",\"slot\":" ++ decimal p ++ codes ",\"kind\":\"" ++ kind ++ codes "\""

-- the begin of a transfer
abbrev pub start_json : ℕ → ℕ → ℕ → List ℕ
start_json p d k =
    number (codes ",\"entry\":\"START\",\"slot\":") p (number (codes ",\"device\":") d (codes ",\"order\":" ++ decimal k))

-- the name of an entry, and its members
abbrev pub entry_json : Entry → List ℕ
entry_json (Ran p n) = two_json (codes ",\"entry\":\"RAN\",\"slot\":") p (codes ",\"orders\":") n
entry_json (Start p d k) = start_json p d k
entry_json (Answer p v) = two_json (codes ",\"entry\":\"ANSWER\",\"slot\":") p (codes ",\"answer\":") v
entry_json (Take p d) = two_json (codes ",\"entry\":\"TAKE\",\"slot\":") p (codes ",\"device\":") d
entry_json (Give p d) = two_json (codes ",\"entry\":\"GIVE\",\"slot\":") p (codes ",\"device\":") d
entry_json (Fail p kind) = kind_json (codes "FAIL") p (name_of kind)
entry_json (Ended p) = one_json (codes ",\"entry\":\"ENDED\",\"slot\":") p
entry_json (Lov p group) = two_json (codes ",\"entry\":\"LOV\",\"slot\":") p (codes ",\"group\":") group
entry_json (Busy p d) = two_json (codes ",\"entry\":\"BUSY\",\"slot\":") p (codes ",\"device\":") d
entry_json (Wait p kind) = kind_json (codes "WAIT") p (kind_name kind)
entry_json (Idle n) = one_json (codes ",\"entry\":\"IDLE\",\"calls\":") n
entry_json (Move d n) = two_json (codes ",\"entry\":\"MOVE\",\"device\":") d (codes ",\"words\":") n
entry_json (End d) = one_json (codes ",\"entry\":\"END\",\"device\":") d
entry_json (Clock t) = one_json (codes ",\"entry\":\"CLOCK\",\"time\":") t
entry_json (Swap p q) = two_json (codes ",\"entry\":\"SWAP\",\"slot\":") p (codes ",\"other\":") q

-- a moment: how many calls were before it, after what stands before that, and its entry
abbrev pub moment_json : List ℕ → Moment → List ℕ
moment_json front m = front ++ decimal m.call ++ entry_json m.entry ++ codes "}"

-- moments after others
abbrev pub rest_json : List Moment → List ℕ
rest_json ms = flat_map (moment_json (codes ",\n{\"call\":")) ms

-- the moments of a run, with a comma between each two
abbrev pub moments_json : List Moment → List ℕ
moments_json [] = []
moments_json (m ∷ ms) = moment_json (codes "{\"call\":") m ++ rest_json ms

-- how many calls a program ran and was ready, how many it was held, by what, and how many it was over
unfoldable pub times_json : ℕ → ℕ → List ℕ
times_json running ready = number (codes "{\"running\":") running (codes ",\"ready\":" ++ decimal ready)

unfoldable pub held_json : ℕ → ℕ → ℕ → List ℕ
held_json group device pool =
    number (codes ",\"held\":{\"group\":") group (number (codes ",\"device\":") device (codes ",\"pool\":" ++ decimal pool))

unfoldable pub over_json : ℕ → List ℕ
over_json over = number (codes "},\"over\":") over (codes "}")

-- what became of the calls of a run for a program
abbrev pub tally_json : Tally → List ℕ
tally_json t = times_json t.running t.ready ++ held_json t.group t.device t.pool ++ over_json t.over

-- what stands before it
unfoldable pub slot_json : ℕ → List ℕ
slot_json p = number (codes "{\"slot\":") p (codes ",\"calls\":")

-- what became of the calls for the program of a slot, where the pool began with these devices
abbrev pub slot_calls_json : Free → List Moment → ℕ → List ℕ
slot_calls_json free ms p = slot_json p ++ tally_json (lane_of p free ms).tally ++ codes "}"

-- slots after others
abbrev pub rest_calls_json : Free → List Moment → List ℕ → List ℕ
rest_calls_json free ms ps = flat_map (λ p. codes ",\n" ++ slot_calls_json free ms p) ps

-- with a comma between each two
abbrev pub calls_json : Free → List Moment → List ℕ → List ℕ
calls_json free ms [] = []
calls_json free ms (p ∷ ps) = slot_calls_json free ms p ++ rest_calls_json free ms ps
