-- The order of a deck's faults: the least place, and at one place the least number.
use Rattle.std.specs.Prelude.{ℕ, List, Option, map}
use lib.Chars.{codes}
use Rattle.kdf_fault.specs.declared.found.Found.{Found}
use Rattle.kdf_fault.specs.Faults as faults_in
use Rattle.kdf_usercode.specs.declared.fault.DeckFault.{DeckFault}
use Rattle.kdf_usercode.specs.declared.fault.DeckFault.TheVariants.{BadByte, CommentOpen, NoSemicolon, UnknownOrder, Floating, BadNumber, QRange, ConstantRange}
use Rattle.kdf_usercode.specs.declared.fault.DeckFault.TheVariants.{BadHeading, NoFinish, AfterFinish, ReferenceTwice, ReferenceMissing, PartTwice, PartMissing}
use Rattle.kdf_usercode.specs.declared.fault.DeckFault.TheVariants.{VRange, YRange, ShortLoopFar, TooLarge}

-- a fault of a deck at its place
abbrev pub FoundFault : Type 0
FoundFault = Found DeckFault

-- At one place the least number comes first.
abbrev pub number_of : DeckFault → ℕ
number_of BadByte = 1
number_of CommentOpen = 2
number_of NoSemicolon = 3
number_of UnknownOrder = 4
number_of Floating = 5
number_of BadNumber = 6
number_of QRange = 7
number_of ConstantRange = 8
number_of BadHeading = 9
number_of NoFinish = 10
number_of AfterFinish = 11
number_of ReferenceTwice = 12
number_of ReferenceMissing = 13
number_of PartTwice = 14
number_of PartMissing = 15
number_of VRange = 16
number_of YRange = 17
number_of ShortLoopFar = 18
number_of TooLarge = 19

-- as it is printed
abbrev pub deck_fault_name : DeckFault → List ℕ
deck_fault_name BadByte = codes "BadByte"
deck_fault_name CommentOpen = codes "CommentOpen"
deck_fault_name NoSemicolon = codes "NoSemicolon"
deck_fault_name UnknownOrder = codes "UnknownOrder"
deck_fault_name Floating = codes "Floating"
deck_fault_name BadNumber = codes "BadNumber"
deck_fault_name QRange = codes "QRange"
deck_fault_name ConstantRange = codes "ConstantRange"
deck_fault_name BadHeading = codes "BadHeading"
deck_fault_name NoFinish = codes "NoFinish"
deck_fault_name AfterFinish = codes "AfterFinish"
deck_fault_name ReferenceTwice = codes "ReferenceTwice"
deck_fault_name ReferenceMissing = codes "ReferenceMissing"
deck_fault_name PartTwice = codes "PartTwice"
deck_fault_name PartMissing = codes "PartMissing"
deck_fault_name VRange = codes "VRange"
deck_fault_name YRange = codes "YRange"
deck_fault_name ShortLoopFar = codes "ShortLoopFar"
deck_fault_name TooLarge = codes "TooLarge"

-- the earlier of two, where there are any
abbrev pub lesser : Option FoundFault → Option FoundFault → Option FoundFault
lesser x y = faults_in.lesser number_of x y

-- the first of the faults
abbrev pub least : List FoundFault → Option FoundFault
least fs = faults_in.least number_of fs

-- a fault at a place
abbrev pub found : DeckFault → ℕ → FoundFault
found fault place = record { fault = fault; place = place }

-- these faults at one place
abbrev pub founds : ℕ → List DeckFault → List FoundFault
founds place fs = map (λ f. record { fault = f; place = place }) fs
