-- What parts, references and stores mean: the first statement that says so.
use Rattle.std.specs.Prelude.{ℕ, ◌+◌, ◌==◌, ◌&&◌, nat_lt, List, [], ◌∷◌, ◌++◌, get_or, set, replicate, take, sum, Option, Some, None, Result, Ok, Err}
use Rattle.std.specs.Prelude.{if◌then◌else◌}
use Rattle.kdf_usercode.specs.declared.fault.DeckFault.{DeckFault}
use Rattle.kdf_usercode.specs.declared.fault.DeckFault.TheVariants.{ReferenceMissing, PartMissing, VRange, YRange}
use Rattle.kdf_usercode.specs.declared.statement.Named.{Named}
use Rattle.kdf_usercode.specs.declared.statement.Named.TheVariants.{Y, V, E}
use Rattle.kdf_usercode.specs.declared.statement.Statement.{Statement}
use Rattle.kdf_usercode.specs.declared.statement.Target.{Target}
use Rattle.kdf_usercode.specs.declared.statement.What.{What}
use Rattle.kdf_usercode.specs.declared.statement.What.TheVariants.{Declare, Program, Part, Constant, Reference}
use Rattle.kdf_place.specs.declared.here.Here.{Here}
use Rattle.kdf_place.specs.declared.here.Section.{Section}
use Rattle.kdf_place.specs.declared.names.Entry.{Entry}
use Rattle.kdf_place.specs.declared.names.Mark.{Mark}
use Rattle.kdf_place.specs.declared.names.Opening.{Opening}
use Rattle.kdf_place.specs.Layout.{words_for, after, next_order, end_of, front}

-- what a number means in a section: the first entry counts
abbrev pub first : {T : Type 0} → ℕ → ℕ → List (Entry T) → Option T
first section number [] = None
first section number (e ∷ es) =
    if e.section == section && e.number == number then Some e.means else first section number es

-- ---- parts

abbrev pub part_opened : What → Option ℕ
part_opened (Program v) = Some 0
part_opened (Part p v) = Some p
part_opened what = None

abbrev pub opening : Option ℕ → Section → ℕ → ℕ → List (Entry Opening)
opening None section first place = []
opening (Some p) section first place =
    let means : Opening = record { section = section; first = first } in
    record { section = 0; number = p; means = means; place = place } ∷ []

-- the parts by their numbers, in the order of the deck, each with its first order
abbrev pub openings : Here → List Statement → List (Entry Opening)
openings here [] = []
openings here (s ∷ ss) =
    opening (part_opened s.what) (after here s).section (next_order (after here s).at ss) s.place
    ++ openings (after here s) ss

-- ---- references

abbrev pub label_at : What → Section → ℕ → ℕ → List (Entry Mark)
label_at (Reference r) section at place =
    let means : Mark = record { part = section.part; at = at } in
    record { section = section.opened; number = r; means = means; place = place } ∷ []
label_at what section at place = []

-- the references, each with the next order of its part
abbrev pub labels : Here → List Statement → List (Entry Mark)
labels here [] = []
labels here (s ∷ ss) =
    label_at s.what here.section (next_order (after here s).at ss) s.place ++ labels (after here s) ss

-- ---- constants

abbrev pub constant_at : What → Section → ℕ → List (Entry (Unit {0}))
constant_at (Constant n value) section place =
    record { section = section.opened; number = n; means = tt; place = place } ∷ []
constant_at what section place = []

-- the V-stores that have a constant
abbrev pub constants : Here → List Statement → List (Entry (Unit {0}))
constants here [] = []
constants here (s ∷ ss) = constant_at s.what here.section s.place ++ constants (after here s) ss

-- ---- groups

-- how many words each group has, with this statement
abbrev pub with_group : List ℕ → What → List ℕ
with_group groups (Declare group n) = set groups group (n + 1)
with_group groups what = groups

abbrev pub groups_from : List ℕ → List Statement → List ℕ
groups_from groups [] = groups
groups_from groups (s ∷ ss) = groups_from (with_group groups s.what) ss

-- the words of the groups Y, YA, .. YZ
abbrev pub groups : List Statement → List ℕ
groups ss = groups_from (replicate 27 0) ss

-- ---- all names

pub record Names : Type 0 where
  pub parts : ℕ → Option Opening
  pub labels : ℕ → ℕ → Option Mark
  pub groups : List ℕ
  -- the address of the first Y-store: they stand after all parts
  pub behind : ℕ

abbrev pub names : List Statement → Names
names ss = record {
  parts = λ p. first 0 p (openings front ss);
  labels = λ section r. first section r (labels front ss);
  groups = groups ss;
  behind = words_for (end_of front ss);
}

abbrev pub section_of : Option Opening → Option Section
section_of None = None
section_of (Some opening) = Some opening.section

-- this part, or the first that bears the number
abbrev pub section_named : Names → Section → Option ℕ → Option Section
section_named names section None = Some section
section_named names section (Some p) = section_of (names.parts p)

-- store n of so many, the first of which has the address `base`
abbrev pub store_at : ℕ → ℕ → DeckFault → ℕ → Result ℕ DeckFault
store_at base count fault n = if nat_lt n count then Ok (base + n) else Err fault

abbrev pub v_store : Option Section → ℕ → Result ℕ DeckFault
v_store None n = Err PartMissing
v_store (Some section) n = store_at section.base section.stores VRange n

-- the stores of a group stand after those of all groups before it
abbrev pub y_store : Names → ℕ → ℕ → Result ℕ DeckFault
y_store names group n =
    let base = names.behind + sum (take group names.groups) in
    store_at base (get_or names.groups group 0) YRange n

-- the address that a store has in this part
abbrev pub store_address : Names → Section → Named → Result ℕ DeckFault
store_address names section (Y group n) = y_store names group n
store_address names section (V n p) = v_store (section_named names section p) n
store_address names section (E n) = Ok n

abbrev pub found_mark : Option Mark → Result ℕ DeckFault
found_mark None = Err ReferenceMissing
found_mark (Some mark) = Ok mark.at

abbrev pub reference : Names → Option Section → ℕ → Result ℕ DeckFault
reference names None r = Err PartMissing
reference names (Some section) r = found_mark (names.labels section.opened r)

abbrev pub found_first : Option Opening → Result ℕ DeckFault
found_first None = Err PartMissing
found_first (Some opening) = Ok opening.first

-- the first order of the part that bears the number
abbrev pub first_order : Names → ℕ → Result ℕ DeckFault
first_order names p = found_first (names.parts p)

-- a reference of this part or of one that is named, or a part's first order; each target has one
abbrev pub meant : Names → Section → Option ℕ → Option ℕ → Result ℕ DeckFault
meant names section (Some r) p = reference names (section_named names section p) r
meant names section None (Some p) = first_order names p
meant names section None None = Err PartMissing

-- the syllable that a target means in this part
abbrev pub syllable_of : Names → Section → Target → Result ℕ DeckFault
syllable_of names section target = meant names section target.r target.p
