-- The faults of names, each at the place of its statement.
use Rattle.std.specs.Prelude.{ℕ, ◌+◌, ◌*◌, ◌/◌, ◌==◌, is_some, List, [], ◌∷◌, ◌++◌, map, Some, None, Result, Ok, Err, if◌then◌else◌}
use Rattle.kdf_usercode.specs.declared.fault.DeckFault.{DeckFault}
use Rattle.kdf_usercode.specs.declared.fault.DeckFault.TheVariants.{ReferenceTwice, PartTwice, VRange, ShortLoopFar}
use Rattle.kdf_usercode.specs.declared.statement.Item.{Item}
use Rattle.kdf_usercode.specs.declared.statement.Item.TheVariants.{Bits, Address}
use Rattle.kdf_usercode.specs.declared.statement.Statement.{Statement}
use Rattle.kdf_usercode.specs.declared.statement.Value.{Value}
use Rattle.kdf_usercode.specs.declared.statement.Value.TheVariants.{Number, Triple}
use Rattle.kdf_usercode.specs.declared.statement.What.{What}
use Rattle.kdf_usercode.specs.declared.statement.What.TheVariants.{Constant, Fetch, Keep, Go, Short, SetAddress}
use Rattle.kdf_usercode.specs.Faults.{FoundFault, found}
use Rattle.kdf_place.specs.declared.here.Here.{Here}
use Rattle.kdf_place.specs.declared.here.Section.{Section}
use Rattle.kdf_place.specs.declared.names.Entry.{Entry}
use Rattle.kdf_place.specs.Layout.{after, front}
use Rattle.kdf_place.specs.Names.{first, openings, labels, constants, Names, names, v_store, store_address, syllable_of}

-- the entries whose number stood before in their section
abbrev pub twice : {T : Type 0} → DeckFault → List (Entry T) → List (Entry T) → List FoundFault
twice fault before [] = []
twice fault before (e ∷ es) =
    (if is_some (first e.section e.number before) then found fault e.place ∷ [] else [])
    ++ twice fault (before ++ e ∷ []) es

abbrev pub fault_in : Result ℕ DeckFault → List DeckFault
fault_in (Ok at) = []
fault_in (Err fault) = fault ∷ []

abbrev pub item_faults : Names → Section → Item → List DeckFault
item_faults names section (Bits bits) = []
item_faults names section (Address place) = fault_in (store_address names section place)

abbrev pub value_faults : Names → Section → Value → List DeckFault
value_faults names section (Number word) = []
value_faults names section (Triple c i m) =
    item_faults names section c ++ item_faults names section i ++ item_faults names section m

-- a short loop goes to the begin of the word before its own
abbrev pub loop_faults : ℕ → Result ℕ DeckFault → List DeckFault
loop_faults at (Err fault) = fault ∷ []
loop_faults at (Ok target) = if target + 6 == 6 * (at / 6) then [] else ShortLoopFar ∷ []

-- what is wrong with the names of a statement that stands here
abbrev pub wrong : Names → Here → What → List DeckFault
wrong names here (Constant n value) =
    fault_in (v_store (Some here.section) n) ++ value_faults names here.section value
wrong names here (Fetch place q u) = fault_in (store_address names here.section place)
wrong names here (Keep place q u) = fault_in (store_address names here.section place)
wrong names here (SetAddress place) = fault_in (store_address names here.section place)
wrong names here (Go c target) = fault_in (syllable_of names here.section target)
wrong names here (Short r q) =
    loop_faults here.at (syllable_of names here.section (record { r = Some r; p = None }))
wrong names here what = []

abbrev pub wrongs : Names → Here → List Statement → List FoundFault
wrongs names here [] = []
wrongs names here (s ∷ ss) =
    map (λ fault. found fault s.place) (wrong names here s.what) ++ wrongs names (after here s) ss

-- all faults of a deck but its size
abbrev pub late_faults : List Statement → List FoundFault
late_faults ss =
    twice PartTwice [] (openings front ss) ++ twice ReferenceTwice [] (labels front ss)
    ++ twice VRange [] (constants front ss)
    ++ wrongs (names ss) front ss
