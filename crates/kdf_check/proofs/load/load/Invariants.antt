use Rattle.std.proofs.Common.{◌≡◌, ◌≤◌, ℕ, [], drop, length, map}
use Rattle.kdf_job.specs.Shows.{shown_slot}
use Rattle.kdf_place.specs.declared.image.Image.{Image}
use Rattle.kdf_theory.specs.Loading.{slots_of}
use Rattle.kdf_check.specs.Keeps.{place_at, IsKeptAt}
use Rattle.kdf_check.proofs.load.load.Given as goal

abbrev pub invariant-loop-i : goal.invariant-loop-i
invariant-loop-i l = record {
  each : (p : ℕ) → IsKeptAt (slots_of (drop l.i (map shown_slot l.slots)) (drop l.i (map (λ (x : Image). x.words.items) l.images))) [] p
      (place_at l.programs.items p);
  four : length l.programs.items ≡ 4;
  below : l.i ≤ length l.slots;
}
