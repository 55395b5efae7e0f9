-- Well-formed decks: what every deck is that was read.
use Rattle.std.specs.Prelude.{◌≡◌, ◌≢◌, ℕ, ◌<◌, ◌≤◌, ◌^◌, true, List, [], ◌∷◌, Option, Some, None}
use Rattle.std.specs.Int.{IsInRange}
use Rattle.kdf_syllable.specs.declared.order.Order.{Order}
use Rattle.kdf_syllable.specs.declared.order.Order.TheVariants as orders
use Rattle.kdf_syllable.specs.Spelling.{IsOrder, IsQ}
use Rattle.kdf_usercode.specs.declared.phase.Stage.{Stage}
use Rattle.kdf_usercode.specs.declared.phase.Stage.TheVariants.{Heading, Constants, Body, Ended}
use Rattle.kdf_usercode.specs.declared.statement.Deck.{Deck}
use Rattle.kdf_usercode.specs.declared.statement.Item.{Item}
use Rattle.kdf_usercode.specs.declared.statement.Item.TheVariants.{Bits, Address}
use Rattle.kdf_usercode.specs.declared.statement.Named.{Named}
use Rattle.kdf_usercode.specs.declared.statement.Named.TheVariants.{Y, V, E}
use Rattle.kdf_usercode.specs.declared.statement.Statement.{Statement}
use Rattle.kdf_usercode.specs.declared.statement.Value.{Value}
use Rattle.kdf_usercode.specs.declared.statement.Value.TheVariants.{Number, Triple}
use Rattle.kdf_usercode.specs.declared.statement.What.{What}
use Rattle.kdf_usercode.specs.declared.statement.What.TheVariants.{Declare, Program, Part, Constant, Reference, Star, Plain, Fetch, Keep, Go, Short, SetAddress}
use Rattle.kdf_usercode.specs.declared.statement.What.TheVariants.{Finish}
use Rattle.kdf_usercode.specs.Phase.{ends}
use Rattle.kdf_usercode.specs.Rising.{Rises}

-- ---- the fields of a statement

-- a number, where there is one, is at most this
abbrev pub IsUpTo : ℕ → Option ℕ → Type 0
IsUpTo high None = Unit {0}
IsUpTo high (Some n) = n ≤ high

-- the number of a store
abbrev pub IsStore : ℕ → Type 0
IsStore n = n ≤ 32767

-- Y is group 0, and YA to YZ are 1 to 26
abbrev pub IsGroup : ℕ → Type 0
IsGroup group = group ≤ 26

abbrev pub IsReference : ℕ → Type 0
IsReference r = IsInRange 1 9999 r

abbrev pub IsNamed : Named → Type 0
IsNamed (Y group n) = IsGroup group × IsStore n
IsNamed (V n p) = IsStore n × IsUpTo 999 p
IsNamed (E n) = IsStore n

-- a store whose address may be taken: any but an E
abbrev pub IsAddressed : Named → Type 0
IsAddressed (E n) = ⊥
IsAddressed place = IsNamed place

abbrev pub IsItem : Item → Type 0
IsItem (Bits bits) = bits < 2 ^ 16
IsItem (Address place) = IsAddressed place

abbrev pub IsValue : Value → Type 0
IsValue (Number word) = word < 2 ^ 48
IsValue (Triple c i m) = IsItem c × IsItem i × IsItem m

-- a target has a reference, or a part, or both
abbrev pub IsTarget : Option ℕ → Option ℕ → Type 0
IsTarget None None = ⊥
IsTarget None (Some p) = p ≤ 999
IsTarget (Some r) p = IsReference r × IsUpTo 999 p

-- an order that stands for itself: it has no target and no store
abbrev pub StandsAlone : Order → Type 0
StandsAlone (orders.Single code q) = code ≢ 0x6f
StandsAlone (orders.Jump c target) = ⊥
StandsAlone (orders.Direct t u q a) = ⊥
StandsAlone order = Unit {0}

-- each field of a statement is in its range
abbrev pub IsWhat : What → Type 0
IsWhat (Declare group n) = IsGroup group × IsStore n
IsWhat (Program v) = IsUpTo 32767 v
IsWhat (Part p v) = IsInRange 1 999 p × IsUpTo 32767 v
IsWhat (Constant n value) = IsStore n × IsValue value
IsWhat (Reference r) = IsReference r
IsWhat Star = Unit {0}
IsWhat (Plain order) = IsOrder order × StandsAlone order
IsWhat (Fetch place q u) = IsNamed place × IsQ q
IsWhat (Keep place q u) = IsNamed place × IsQ q
IsWhat (Go c target) = (c ≤ 0x31) × IsTarget target.r target.p
IsWhat (Short r q) = IsReference r × IsQ q
IsWhat (SetAddress place) = IsAddressed place
IsWhat Finish = Unit {0}

abbrev pub AreInRange : List Statement → Type 0
AreInRange [] = Unit {0}
AreInRange (s ∷ ss) = IsWhat s.what × AreInRange ss

-- ---- the sequence of the statements

-- The stage after a statement, where it stands in its place. Headings come first, then PROGRAM; after
-- PROGRAM and after the opening of a part its constants; then what else the part has; FINISH ends the
-- last part.
abbrev pub follows : Stage → What → Option Stage
follows Ended what = None
follows Heading (Declare group n) = Some Heading
follows Heading (Program v) = Some Constants
follows Heading what = None
follows stage (Declare group n) = None
follows stage (Program v) = None
follows stage (Part p v) = Some Constants
follows stage Finish = Some Ended
follows Constants (Constant n value) = Some Constants
follows stage (Constant n value) = None
follows stage what = Some Body

-- the statements from a stage on stand in their places, and FINISH is the last
abbrev pub IsSequence : Stage → List Statement → Type 0
IsSequence stage [] = ends stage ≡ true
IsSequence stage (s ∷ ss) =
    (next : Stage) × (follows stage s.what ≡ Some next) × IsSequence next ss

-- the group that a statement declares
abbrev pub group_of : What → Option ℕ
group_of (Declare group n) = Some group
group_of what = None

abbrev pub NoneDeclares : Option ℕ → List Statement → Type 0
NoneDeclares None ss = Unit {0}
NoneDeclares group [] = Unit {0}
NoneDeclares group (s ∷ ss) = (group_of s.what ≢ group) × NoneDeclares group ss

-- no group is declared twice
abbrev pub DeclareOnce : List Statement → Type 0
DeclareOnce [] = Unit {0}
DeclareOnce (s ∷ ss) = NoneDeclares (group_of s.what) ss × DeclareOnce ss

-- ---- the deck

-- the statements of a well-formed deck of this length
pub record AreWellFormed (ss : List Statement) (len : ℕ) : Type 0 where
  pub short : len ≤ 268435456
  pub rises : Rises 0 ss len
  pub in_range : AreInRange ss
  pub sequence : IsSequence Heading ss
  pub once : DeclareOnce ss

abbrev pub IsWellFormed : Deck → Type 0
IsWellFormed d = AreWellFormed d.statements.items d.length
