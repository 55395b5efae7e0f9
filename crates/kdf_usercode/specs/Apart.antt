-- Each fault of a deck has a number of its own, as `Numbered` wants it shown.
use Rattle.std.proofs.Common.{◌≡◌, ℕ, List, [], ◌∷◌, get_or, refl, sym, ap, ◌∙◌}
use Rattle.kdf_usercode.specs.declared.fault.DeckFault.{DeckFault}
use Rattle.kdf_usercode.specs.declared.fault.DeckFault.TheVariants.{BadByte, CommentOpen, NoSemicolon, UnknownOrder, Floating, BadNumber, QRange, ConstantRange}
use Rattle.kdf_usercode.specs.declared.fault.DeckFault.TheVariants.{BadHeading, NoFinish, AfterFinish, ReferenceTwice, ReferenceMissing, PartTwice, PartMissing}
use Rattle.kdf_usercode.specs.declared.fault.DeckFault.TheVariants.{VRange, YRange, ShortLoopFar, TooLarge}
use Rattle.kdf_usercode.specs.Faults.{number_of}

-- the faults in the order of their numbers
abbrev all_faults : List DeckFault
all_faults =
    BadByte ∷ CommentOpen ∷ NoSemicolon ∷ UnknownOrder ∷ Floating ∷ BadNumber ∷ QRange ∷ ConstantRange ∷
    BadHeading ∷ NoFinish ∷ AfterFinish ∷ ReferenceTwice ∷ ReferenceMissing ∷
    PartTwice ∷ PartMissing ∷ VRange ∷ YRange ∷ ShortLoopFar ∷ TooLarge ∷ []

-- the fault of a number
abbrev fault_at : ℕ → DeckFault
fault_at n = get_or (BadByte ∷ all_faults) n TooLarge

fault_at-number_of : (f : DeckFault) → fault_at (number_of f) ≡ f
fault_at-number_of BadByte = refl
fault_at-number_of CommentOpen = refl
fault_at-number_of NoSemicolon = refl
fault_at-number_of UnknownOrder = refl
fault_at-number_of Floating = refl
fault_at-number_of BadNumber = refl
fault_at-number_of QRange = refl
fault_at-number_of ConstantRange = refl
fault_at-number_of BadHeading = refl
fault_at-number_of NoFinish = refl
fault_at-number_of AfterFinish = refl
fault_at-number_of ReferenceTwice = refl
fault_at-number_of ReferenceMissing = refl
fault_at-number_of PartTwice = refl
fault_at-number_of PartMissing = refl
fault_at-number_of VRange = refl
fault_at-number_of YRange = refl
fault_at-number_of ShortLoopFar = refl
fault_at-number_of TooLarge = refl

pub apart : (x y : DeckFault) → number_of x ≡ number_of y → x ≡ y
apart x y e = sym (fault_at-number_of x) ∙ ap fault_at e ∙ fault_at-number_of y
