-- The slots that are worked out are such as can be loaded.
use Rattle.std.proofs.Common.{◌≡◌, ◌≢◌, ◌<◌, ◌≤◌, ℕ, zero, suc, [], ◌∷◌, get_or, Option, Some, None, inr, refl, ◌∙◌, ⊎_elim, arith}
use Rattle.std.specs.Prelude.{replicate}
use Rattle.std.specs.List.{AllPairs}
use Rattle.std.proofs.lemmas.Bool.{cases_lt}
use Rattle.std.proofs.lemmas.List.{get_or-replicate, get_or_past, length-replicate, length-set}
use Rattle.std.proofs.lemmas.List.Elements.{All-cons, All-nil}
use Rattle.kdf_transfer.specs.Devices.{Fixture, new_progress}
use Rattle.kdf_transfer.specs.Slots.{Slot}
use Rattle.kdf_transfer.specs.ByNumber.{device_count}
use Rattle.kdf_theory.specs.Slots.{AreSlots, HaveOwnDevices, IsSlot}
use Rattle.kdf_director.specs.Worked.{loops, no_devices, reads, tape}

-- what holds of two holds of each pair of them
pair : (R : Slot → Slot → Type 0) (a b : Slot) → R a b → AllPairs R (a ∷ b ∷ [])
pair R a b r zero zero d lt below = absurd (omega arith)
pair R a b r zero (suc zero) d lt below = r
pair R a b r zero (suc (suc j)) d lt below = absurd (omega arith)
pair R a b r (suc i) zero d lt below = absurd (omega arith)
pair R a b r (suc i) (suc zero) d lt below = absurd (omega arith)
pair R a b r (suc i) (suc (suc j)) d lt below = absurd (omega arith)

no_device_at : (n d : ℕ) → get_or (replicate {A = Option Fixture} n None) d None ≡ None
no_device_at n d =
    ⊎_elim
    (λ (lt : d < n). get_or-replicate {A = Option Fixture} n d None None lt)
    (λ (past : n ≤ d). get_or_past (replicate {A = Option Fixture} n None) d None (omega (arith, length-replicate {A = Option Fixture} n None)))
    (cases_lt d n)

reads_slot : IsSlot reads
reads_slot = record {
  fits = omega arith;
  fixtures = length-set no_devices 3 (Some tape) ∙ length-replicate {A = Option Fixture} device_count None;
  devices = length-replicate device_count new_progress;
  few = λ d pooled. cc;
  apart = λ d. inr refl;
}

loops_slot : IsSlot loops
loops_slot = record {
  fits = omega arith;
  fixtures = length-replicate {A = Option Fixture} device_count None;
  devices = length-replicate device_count new_progress;
  few = λ d pooled. cc;
  apart = λ d. inr refl;
}

pub worked_slots : AreSlots (reads ∷ loops ∷ [])
worked_slots = record {
  each = All-cons IsSlot reads (loops ∷ []) reads_slot (All-cons IsSlot loops [] loops_slot (All-nil IsSlot));
  numbers = pair (λ (a b : Slot). a.p ≢ b.p) reads loops (λ same. absurd (omega (arith, same)));
  devices = pair HaveOwnDevices reads loops (λ d. inr (no_device_at device_count d));
  pool = pair (λ (a b : Slot). a.pool ≡ b.pool) reads loops refl;
}
