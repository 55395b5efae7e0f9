use Rattle.std.proofs.Common.{◌≡◌, ◌++◌, ◌*◌, ◌≤◌, string_bytes}
use Rattle.std.specs.List.{flat_map, range_with_len}
use Rattle.kdf_text.specs.Text.{text}
use Rattle.kdf_job.specs.Made.{after_steps, made_slot}
use Rattle.kdf_job.proofs.made.write_slots.Given as goal

abbrev pub invariant-loop-p : goal.invariant-loop-p
invariant-loop-p l = record {
  written : string_bytes l.out ≡ string_bytes l.fn.out ++ text (flat_map (made_slot l.fn.letters.x) (range_with_len 0 l.p));
  next : l.letters.x ≡ after_steps l.fn.letters.x (3200 * l.p);
  few : l.p ≤ 4;
}
