-- What an order that asks is truly answered.
use Rattle.std.specs.Prelude.{ℕ, List, Bool, Option, if◌then◌else◌, unwrap_or}
use Rattle.std.specs.List.{list_any}
use Rattle.kdf_journal.specs.declared.entry.Entry.{Entry}
use Rattle.kdf_journal.specs.declared.kind.Kind.{Kind}
use Rattle.kdf_journal.specs.Counts.{clock}
use Rattle.kdf_journal.specs.declared.need.Need.{Need}
use Rattle.kdf_journal.specs.declared.need.Need.TheVariants.{Group, Device}
use Rattle.kdf_processor.specs.Effect.{Question, IsBusy, IsOut, Time, FreeOf, OfService}
use Rattle.kdf_processor.specs.View.{groups_of}
use Rattle.kdf_theory.specs.World.{World}

-- 1 exactly where it is so
abbrev pub one_if : Bool → ℕ
one_if is = if is then 1 else 0

-- whether the device has a transfer, whether a group of the area is locked out, the time, the least device of the kind
-- in the pool that is free, and what was heard of the service
abbrev pub known : (pending : Need → Bool) (time : ℕ) (free : Kind → Option ℕ) (heard : ℕ) → Question → ℕ
known pending time free heard (IsBusy d) = one_if (pending (Device d))
known pending time free heard (IsOut first last) = one_if (list_any (λ g. pending (Group g)) (groups_of first last))
known pending time free heard Time = time
known pending time free heard (FreeOf kind) = unwrap_or (free kind) 0
known pending time free heard (OfService word) = heard

-- what program p is truly answered in this world, after the journal J: what of it is pending, the time that was set
-- last, what is free of the pool, and what was heard of the service, if the order asks it
abbrev pub truth : World → List Entry → ℕ → (heard : ℕ) → Question → ℕ
truth w J p heard = known (w.pending p) (clock J) (w.free p) heard
