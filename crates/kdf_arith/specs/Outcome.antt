-- How an order comes out: it leaves what its row says, or it is refused and nothing has changed.
use Rattle.std.specs.Prelude.{ℕ, ◌-◌, ◌≡◌, ◌<◌, ◌≤◌, Bool, false, List, ◌++◌, length, Option, Some, None, Result, MatchResult}
use Rattle.kdf_arith.specs.declared.flags.Flags.{Flags}
use Rattle.kdf_arith.specs.declared.nouv.Nouv.{Nouv}
use Rattle.kdf_arith.specs.Rows.{After}
use Rattle.kdf_arith.specs.Arith.{Arith}

-- So many words are taken off a nest, the top first; or it has fewer.
abbrev pub Takes : {W : Type 0} → ℕ → (W → List ℕ) → (old new : List ℕ) → Result W Nouv → Type 0
Takes count words old new result =
    MatchResult result
    (λ taken. (old ≡ words taken ++ new) × (length new ≤ 16 - count))
    (λ _. (length old < count) × (new ≡ old))

-- A row that sets no V makes this nest.
abbrev pub Leaves : Option After → (old new : List ℕ) → Result (Unit {0}) Nouv → Type 0
Leaves row old new result =
    MatchResult result
    (λ _. row ≡ Some (record { nest = new; sets_v = false }))
    (λ _. (row ≡ None) × (new ≡ old))

-- A row makes this nest, and it is told whether it sets V.
abbrev pub Makes : Option After → (old new : List ℕ) → Result Bool Nouv → Type 0
Makes row old new result =
    MatchResult result
    (λ v. row ≡ Some (record { nest = new; sets_v = v }))
    (λ _. (row ≡ None) × (new ≡ old))

-- An order makes this nest and these flags.
abbrev pub Obeys : (List ℕ → Flags → Option Arith) → List ℕ → Flags → List ℕ → Flags →
    Result (Unit {0}) Nouv → Type 0
Obeys order old_nest old_flags nest flags result =
    MatchResult result
    (λ _. order old_nest old_flags ≡ Some (record { nest = nest; flags = flags }))
    (λ _. (order old_nest old_flags ≡ None) × (nest ≡ old_nest) × (flags ≡ old_flags))
