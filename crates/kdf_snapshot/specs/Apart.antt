-- Each fault of a snapshot has a number of its own, as `Numbered` wants it shown.
use Rattle.std.proofs.Common.{◌≡◌, ℕ, [], ◌∷◌, get_or, refl, sym, ap, ◌∙◌}
use Rattle.kdf_snapshot.specs.declared.fault.SnapshotFault.{SnapshotFault}
use Rattle.kdf_snapshot.specs.declared.fault.SnapshotFault.TheVariants.{NoJournal, BadEntry, NoEnd, JournalDiffers, SealDiffers}
use Rattle.kdf_snapshot.specs.Faults.{number_of}

-- the fault of a number
abbrev fault_at : ℕ → SnapshotFault
fault_at n = get_or (NoJournal ∷ NoJournal ∷ BadEntry ∷ NoEnd ∷ JournalDiffers ∷ []) n SealDiffers

fault_at-number_of : (f : SnapshotFault) → fault_at (number_of f) ≡ f
fault_at-number_of NoJournal = refl
fault_at-number_of BadEntry = refl
fault_at-number_of NoEnd = refl
fault_at-number_of JournalDiffers = refl
fault_at-number_of SealDiffers = refl

pub apart : (x y : SnapshotFault) → number_of x ≡ number_of y → x ≡ y
apart x y e = sym (fault_at-number_of x) ∙ ap fault_at e ∙ fault_at-number_of y
