-- What is kept of a well-formed deck is well formed.
use Rattle.std.proofs.Common.{◌≡◌, ℕ, ◌+◌, ◌≤◌, true, false, cond, List, [], ◌∷◌, ◌++◌, Option, Some, None, subst, arith}
use Rattle.kdf_usercode.specs.declared.phase.Stage.{Stage}
use Rattle.kdf_usercode.specs.declared.phase.Stage.TheVariants.{Heading, Constants, Body, Ended}
use Rattle.kdf_usercode.specs.declared.stars.Stars.{Stars}
use Rattle.kdf_usercode.specs.declared.stars.Stars.TheVariants.{Every, AfterStar, AfterOther}
use Rattle.kdf_usercode.specs.declared.statement.Statement.{Statement}
use Rattle.kdf_usercode.specs.declared.statement.What.{What}
use Rattle.kdf_usercode.specs.declared.statement.What.TheVariants.{Star}
use Rattle.kdf_usercode.specs.Rising.{Rises}
use Rattle.kdf_usercode.specs.Thinned.{keeps, stars_after, thinned}
use Rattle.kdf_usercode.specs.WellFormed.{AreInRange, follows, IsSequence, group_of, NoneDeclares, DeclareOnce, AreWellFormed}
use Rattle.kdf_usercode.proofs.Rises.{rises-lower}

thinned-rises : (stars : Stars) (low high : ℕ) (ss : List Statement) → Rises low ss high → Rises low (thinned stars ss) high
thinned-rises stars low high [] h = tt
thinned-rises stars low high (s ∷ ss) h =
    let next = stars_after stars s.what in
    let later = thinned next ss in
    let rest = thinned-rises next (s.place + 1) high ss h.2 in
    elim (keeps stars s.what) as (λ b. Rises low (cond b (s ∷ []) [] ++ later) high)
    [ true ↦ (h.0, h.1, rest) | false ↦ rises-lower (s.place + 1) low high later (omega (arith, h.0)) rest ]

thinned-in_range : (stars : Stars) (ss : List Statement) → AreInRange ss → AreInRange (thinned stars ss)
thinned-in_range stars [] h = tt
thinned-in_range stars (s ∷ ss) h =
    let next = stars_after stars s.what in
    let rest = thinned-in_range next ss h.1 in
    elim (keeps stars s.what) as (λ b. AreInRange (cond b (s ∷ []) [] ++ thinned next ss)) [ true ↦ (h.0, rest) | false ↦ rest ]

-- ---- the sequence

-- after a `*` the constants of a part are over
abbrev IsAfter : Stars → Stage → Type 0
IsAfter AfterStar Body = Unit {0}
IsAfter AfterStar stage = ⊥
IsAfter stars stage = Unit {0}

is-after : (stars : Stars) (stage next : Stage) (what : What) → follows stage what ≡ Some next → IsAfter (stars_after stars what) next
is-after Every stage next what e = tt
is-after stars Ended next Star e = absurd cc
is-after stars Heading next Star e = absurd cc
is-after AfterStar Constants next Star e = let same : Body ≡ next = cc in subst (λ (n : Stage). IsAfter AfterStar n) same tt
is-after AfterOther Constants next Star e = let same : Body ≡ next = cc in subst (λ (n : Stage). IsAfter AfterStar n) same tt
is-after AfterStar Body next Star e = let same : Body ≡ next = cc in subst (λ (n : Stage). IsAfter AfterStar n) same tt
is-after AfterOther Body next Star e = let same : Body ≡ next = cc in subst (λ (n : Stage). IsAfter AfterStar n) same tt
is-after stars stage next what e = tt

sequence-step : (stars : Stars) (stage next : Stage) (place : ℕ) (what : What) (later : List Statement) → IsAfter stars stage
    → follows stage what ≡ Some next → IsSequence next later
    → IsSequence stage (cond (keeps stars what) (record { place = place; what = what } ∷ []) [] ++ later)
sequence-step AfterStar Body next place Star later after e rest = let same : next ≡ Body = cc in subst (λ (n : Stage). IsSequence n later) same rest
sequence-step AfterStar Heading next place Star later after e rest = absurd after
sequence-step AfterStar Constants next place Star later after e rest = absurd after
sequence-step AfterStar Ended next place Star later after e rest = absurd after
sequence-step stars stage next place what later after e rest = (next, e, rest)

thinned-sequence : (stars : Stars) (stage : Stage) (ss : List Statement) → IsAfter stars stage → IsSequence stage ss → IsSequence stage (thinned stars ss)
thinned-sequence stars stage [] after h = h
thinned-sequence stars stage (s ∷ ss) after h =
    let next = stars_after stars s.what in
    let rest = thinned-sequence next h.0 ss (is-after stars stage h.0 s.what h.1) h.2 in
    sequence-step stars stage h.0 s.place s.what (thinned next ss) after h.1 rest

-- ---- the groups

thinned-undeclared : (stars : Stars) (group : Option ℕ) (ss : List Statement) → NoneDeclares group ss → NoneDeclares group (thinned stars ss)
thinned-undeclared stars None ss h = tt
thinned-undeclared stars (Some g) [] h = tt
thinned-undeclared stars (Some g) (s ∷ ss) h =
    let next = stars_after stars s.what in
    let rest = thinned-undeclared next (Some g) ss h.1 in
    elim (keeps stars s.what) as (λ b. NoneDeclares (Some g) (cond b (s ∷ []) [] ++ thinned next ss)) [ true ↦ (h.0, rest) | false ↦ rest ]

thinned-once : (stars : Stars) (ss : List Statement) → DeclareOnce ss → DeclareOnce (thinned stars ss)
thinned-once stars [] h = tt
thinned-once stars (s ∷ ss) h =
    let next = stars_after stars s.what in
    let rest = thinned-once next ss h.1 in
    elim (keeps stars s.what) as (λ b. DeclareOnce (cond b (s ∷ []) [] ++ thinned next ss))
    [ true ↦ (thinned-undeclared next (group_of s.what) ss h.0, rest) | false ↦ rest ]

pub thinned-formed : (ss : List Statement) (len : ℕ) → AreWellFormed ss len → AreWellFormed (thinned AfterOther ss) len
thinned-formed ss len h = record {
  short = h.short;
  rises = thinned-rises AfterOther 0 len ss h.rises;
  in_range = thinned-in_range AfterOther ss h.in_range;
  sequence = thinned-sequence AfterOther Heading ss tt h.sequence;
  once = thinned-once AfterOther ss h.once;
}
