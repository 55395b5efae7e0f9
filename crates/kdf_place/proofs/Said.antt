-- What an entry says of a number.
use Rattle.std.proofs.Common.{◌≡◌, ℕ, Bool, true, false, ◌&&◌, eqb, refl}
use Rattle.kdf_place.specs.declared.names.Entry.{Entry}

-- it says what number n of section p means
abbrev pub says : {T : Type 0} → ℕ → ℕ → Entry T → Bool
says p n e = eqb e.section p && eqb e.number n

pub both-true : (a b : Bool) → (a && b) ≡ true → (a ≡ true) × (b ≡ true)
both-true true b e = (refl, e)
both-true false b e = absurd cc
