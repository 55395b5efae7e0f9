-- The next order of a program over a port that shows its state in a world.
use Rattle.std.proofs.Common.{◌≡◌, ℕ, Bool, List, find, refl, ap, ap₂}
use Rattle.std.proofs.Math.Path.{fun_ext}
use Rattle.kdf_processor.specs.declared.registers.Registers.{Registers}
use Rattle.kdf_journal.specs.declared.need.Need.{Need}
use Rattle.kdf_journal.specs.declared.need.Need.TheVariants.{Group, Device, Pool}
use Rattle.kdf_processor.specs.Effect.{Question, Effect, Failing, Ending, Changing, Fetching, Keeping, Testing, Starting, Asking, Claiming, Returning, Spooling}
use Rattle.kdf_processor.specs.Needs.{needs, next_effect}
use Rattle.kdf_processor.specs.Outcome.{done, held_or, outcome}
use Rattle.kdf_processor.specs.Row.{next_of}
use Rattle.kdf_processor.specs.View.{by_itself, first_pending, is_pending}
use Rattle.kdf_theory.specs.World.{World, first_need}
use Rattle.kdf_check.specs.Watching.{view_in}

-- an effect comes to the same by what is shown and by the state alone
done-same : (w : World) (answer : Question → ℕ) (p : ℕ) (r : Registers) (e : Effect)
    → done (view_in w answer p) r e ≡ done (by_itself answer (w.state p).stock) r e
done-same w answer p r (Failing kind) = refl
done-same w answer p r (Ending after) = refl
done-same w answer p r (Changing after) = refl
done-same w answer p r (Fetching a after) = refl
done-same w answer p r (Keeping a word after) = refl
done-same w answer p r (Testing d what after) = refl
done-same w answer p r (Starting d o first last after) = refl
done-same w answer p r (Asking q after) = refl
done-same w answer p r (Claiming d after) = refl
done-same w answer p r (Returning pooled d after) = refl
done-same w answer p r (Spooling stream first last after) = refl

pub pending-one : (w : World) (answer : Question → ℕ) (p : ℕ) (need : Need) → is_pending (view_in w answer p) need ≡ w.pending p need
pending-one w answer p (Group g) = refl
pending-one w answer p (Device d) = refl
pending-one w answer p (Pool kind) = refl

pending-same : (w : World) (answer : Question → ℕ) (p : ℕ) (ns : List Need) → first_pending (view_in w answer p) ns ≡ find (w.pending p) ns
pending-same w answer p ns = ap (λ (f : Need → Bool). find f ns) (fun_ext (pending-one w answer p))

-- it is held by the first of its needs that is pending, or comes to what it comes to by itself
pub tried_lem : (w : World) (answer : Question → ℕ) (p : ℕ) → outcome (view_in w answer p) (w.state p).registers ≡ held_or (w.state p).registers
    (first_need w p) (next_of (w.state p) answer)
unfolding first_need
tried_lem w answer p =
    ap₂ (held_or (w.state p).registers) (pending-same w answer p (needs (w.state p) (w.mine p)))
    (done-same w answer p (w.state p).registers (next_effect (w.state p)))
