-- Entries whose numbers fit their types, and what steps make of them.
use Rattle.std.proofs.Common.{◌≡◌, ℕ, zero, suc, ◌+◌, ◌<◌, ◌^◌, Bool, true, false, cond, eqb, List, [], ◌∷◌, Option, Some, None, is_some, All, arith, refl}
use Rattle.std.specs.Prelude.{fold}
use Rattle.std.proofs.lemmas.Bool.{eqb-true}
use Rattle.std.proofs.lemmas.List.Sums.{sum_by-cons}
use Rattle.kdf_journal.specs.declared.need.Need.{Need}
use Rattle.kdf_journal.specs.declared.need.Need.TheVariants.{Group, Device, Pool}
use Rattle.kdf_journal.specs.declared.entry.Entry.{Entry}
use Rattle.kdf_journal.specs.declared.entry.Entry.TheVariants.{Ran, Start, Answer, Take, Give, Fail, Ended, Lov, Busy, Wait, Idle, Move, End, Clock, Swap}
use Rattle.kdf_journal.specs.Counts.{calls, calls_in, clock, clock_after, pending, pending_after}
use Rattle.kdf_journal.specs.Joined.{joined, pushed}
use Rattle.kdf_journal.specs.Printed.{IsEntry}
use Rattle.kdf_journal.specs.Steps.{Note, Quiet, Began, Answered, Took, Gave, Failed, Finished, JournalStep, Obeys, Holds, Waits, Moves, Ends, Sets, Swaps}
use Rattle.kdf_journal.specs.Steps.{added}
use Rattle.kdf_journal.specs.Steps.{noted}

-- the numbers of an entry are those of its type, but for what it counts
abbrev pub IsSmall : Entry → Type 0
IsSmall (Ran p n) = p < 2 ^ 8
IsSmall (Idle n) = Unit {0}
IsSmall e = IsEntry e

abbrev pub AreSmall : List Entry → Type 0
AreSmall [] = Unit {0}
AreSmall (e ∷ es) = IsSmall e × AreSmall es

abbrev pub IsSmallNote : Note → Type 0
IsSmallNote (Began d k) = (d < 2 ^ 8) × (k < 2 ^ 32)
IsSmallNote (Answered v) = v < 2 ^ 64
IsSmallNote (Took d) = d < 2 ^ 8
IsSmallNote (Gave d) = d < 2 ^ 8
IsSmallNote note = Unit {0}

abbrev pub IsSmallHold : Need → Type 0
IsSmallHold (Group group) = group < 2 ^ 16
IsSmallHold (Device d) = d < 2 ^ 8
IsSmallHold (Pool kind) = Unit {0}

abbrev pub IsSmallStep : JournalStep → Type 0
IsSmallStep (Obeys p note) = (p < 2 ^ 8) × IsSmallNote note
IsSmallStep (Holds p by) = (p < 2 ^ 8) × IsSmallHold by
IsSmallStep Waits = Unit {0}
IsSmallStep (Moves d n) = (d < 2 ^ 8) × (n < 2 ^ 16)
IsSmallStep (Ends d) = d < 2 ^ 8
IsSmallStep (Sets t) = t < 2 ^ 64
IsSmallStep (Swaps p q) = (p < 2 ^ 8) × (q < 2 ^ 8)

-- ---- an entry more

one_ran : (b : Bool) (p q n m : ℕ) → p < 2 ^ 8 → q < 2 ^ 8 → AreSmall (cond b (Ran p (n + m) ∷ []) (Ran p n ∷ Ran q m ∷ []))
one_ran true p q n m first second = (first, tt)
one_ran false p q n m first second = (first, (second, tt))

joined_small : (x y : Entry) → IsSmall x → IsSmall y → AreSmall (joined x y)
joined_small (Ran p n) (Ran q m) first second = one_ran (eqb p q) p q n m first second
joined_small (Idle n) (Idle m) first second = (tt, tt)
joined_small x y first second = (first, (second, tt))

pushed_small : (J : List Entry) (e : Entry) → AreSmall J → IsSmall e → AreSmall (pushed J e)
pushed_small [] e was more = (more, tt)
pushed_small (x ∷ []) e was more = joined_small x e was.0 more
pushed_small (x ∷ y ∷ es) e was more = (was.0, pushed_small (y ∷ es) e was.1 more)

noted_small : (J : List Entry) (p : ℕ) (note : Note) → AreSmall J → p < 2 ^ 8 → IsSmallNote note → AreSmall (noted J p note)
noted_small J p Quiet was few small = was
noted_small J p (Began d k) was few small = pushed_small J (Start p d k) was (few, small.0, small.1)
noted_small J p (Answered v) was few small = pushed_small J (Answer p v) was (few, small)
noted_small J p (Took d) was few small = pushed_small J (Take p d) was (few, small)
noted_small J p (Gave d) was few small = pushed_small J (Give p d) was (few, small)
noted_small J p (Failed kind) was few small = pushed_small J (Fail p kind) was few
noted_small J p Finished was few small = pushed_small J (Ended p) was few

pub added_small : (J : List Entry) (s : JournalStep) → AreSmall J → IsSmallStep s → AreSmall (added J s)
added_small J (Obeys p note) was small = noted_small (pushed J (Ran p 1)) p note (pushed_small J (Ran p 1) was small.0) small.0 small.1
added_small J (Holds p (Group group)) was small = pushed_small J (Lov p group) was (small.0, small.1)
added_small J (Holds p (Device d)) was small = pushed_small J (Busy p d) was (small.0, small.1)
added_small J (Holds p (Pool kind)) was small = pushed_small J (Wait p kind) was small.0
added_small J Waits was small = pushed_small J (Idle 1) was tt
added_small J (Moves d n) was small = pushed_small J (Move d n) was (small.0, small.1)
added_small J (Ends d) was small = pushed_small J (End d) was small
added_small J (Sets t) was small = pushed_small J (Clock t) was small
added_small J (Swaps p q) was small = pushed_small J (Swap p q) was (small.0, small.1)

-- ---- what is told by such entries

some_device : (b : Bool) (d e p k : ℕ) (o : Option (ℕ × ℕ)) → eqb e d ≡ b → e < 2 ^ 8 → (is_some o ≡ true → d < 2 ^ 8)
    → is_some (cond b (Some (p, k)) o) ≡ true → d < 2 ^ 8
some_device true d e p k o same small was some = omega (arith, eqb-true e d same)
some_device false d e p k o same small was some = was some

no_device : (b : Bool) (d : ℕ) (o : Option (ℕ × ℕ)) → (is_some o ≡ true → d < 2 ^ 8) → is_some (cond b None o) ≡ true → d < 2 ^ 8
no_device true d o was some = absurd cc
no_device false d o was some = was some

one_pending : (d : ℕ) (o : Option (ℕ × ℕ)) (e : Entry) → IsSmall e → (is_some o ≡ true → d < 2 ^ 8) → is_some (pending_after d o e) ≡ true → d < 2 ^ 8
one_pending d o (Start p e k) small was some = some_device (eqb e d) d e p k o refl small.1 was some
one_pending d o (End e) small was some = no_device (eqb e d) d o was some
one_pending d o e small was some = was some

pending_from : (d : ℕ) (o : Option (ℕ × ℕ)) (J : List Entry) → AreSmall J → (is_some o ≡ true → d < 2 ^ 8) → is_some (fold (pending_after d) o J) ≡ true
    → d < 2 ^ 8
pending_from d o [] are was some = was some
pending_from d o (e ∷ J) are was some = pending_from d (pending_after d o e) J are.1 (one_pending d o e are.0 was) some

-- a device that has a transfer
pub pending_small : (d : ℕ) (J : List Entry) → AreSmall J → is_some (pending d J) ≡ true → d < 2 ^ 8
pending_small d J are some = pending_from d None J are (λ e. absurd cc) some

one_clock : (t : ℕ) (e : Entry) → IsSmall e → t < 2 ^ 64 → clock_after t e < 2 ^ 64
one_clock t (Clock u) small was = small
one_clock t e small was = was

clock_from : (t : ℕ) (J : List Entry) → AreSmall J → t < 2 ^ 64 → fold clock_after t J < 2 ^ 64
clock_from t [] are was = was
clock_from t (e ∷ J) are was = clock_from (clock_after t e) J are.1 (one_clock t e are.0 was)

-- the time
pub clock_small : (J : List Entry) → AreSmall J → clock J < 2 ^ 64
clock_small J are = clock_from 0 J are (omega arith)

-- ---- with what they count

entry_fits : (e : Entry) → IsSmall e → calls_in e < 2 ^ 32 → IsEntry e
entry_fits (Ran p n) small few = (small, few)
entry_fits (Idle n) small few = few
entry_fits e small few = small

pub entries_fit : (J : List Entry) → AreSmall J → calls J < 2 ^ 32 → All IsEntry J
entries_fit [] are few k d lt = absurd (omega arith)
entries_fit (e ∷ J) are few zero d lt = entry_fits e are.0 (omega (arith, sum_by-cons calls_in e J))
entries_fit (e ∷ J) are few (suc k) d lt = entries_fit J are.1 (omega (arith, sum_by-cons calls_in e J)) k d (omega arith)
