-- Places of which one is another that shows the same.
use Rattle.std.proofs.Common.{◌≡◌, ◌≢◌, ℕ, ◌<◌, ◌≤◌, List, length, set, sym, ap, ◌∙◌, ⊎_elim, arith}
use Rattle.std.proofs.lemmas.Bool.{cases_eq, cases_lt}
use Rattle.std.proofs.lemmas.List.{get_or-set_same, get_or-set_other, get_or_past, length-set}
use Rattle.kdf_yard.specs.Fields.Keeping.{IsKept}
use Rattle.kdf_yard.specs.Fields.Parts.{Part}
use Rattle.kdf_places.specs.Shared.{Shared}
use Rattle.kdf_places.specs.Spots.{Spot, no_spot, spot_at}

-- what is the same of the new place and the old is the same of each place
pub same_at : {X : Type 0} (f : Spot → X) (spots : List Spot) (d e : ℕ) (y : Spot) → f y ≡ f (spot_at spots d)
    → f (spot_at (set spots d y) e) ≡ f (spot_at spots e)
same_at f spots d e y same =
    ⊎_elim
    (λ (is : e ≡ d).
    ⊎_elim
    (λ (lt : d < length spots).
    ap (λ k. f (spot_at (set spots d y) k)) is
    ∙ ap f (get_or-set_same spots d y no_spot lt)
    ∙ same
    ∙ ap (λ k. f (spot_at spots k)) (sym is))
    (λ (past : length spots ≤ d).
    ap f (get_or_past (set spots d y) e no_spot (omega (arith, length-set spots d y, is)))
    ∙ sym (ap f (get_or_past spots e no_spot (omega (arith, is)))))
    (cases_lt d (length spots)))
    (λ (ne : e ≢ d). ap f (get_or-set_other spots d e y no_spot ne))
    (cases_eq e d)

-- a program keeps what it has where each place has the device that it had
pub kept_by : (q : Part) (s s' : Shared) → IsKept q s → ((d : ℕ) → (spot_at s'.spots d).fixture ≡ (spot_at s.spots d).fixture) → IsKept q s'
kept_by q s s' kept fixtures =
    record {
      few = kept.few;
      apart = kept.apart;
      there = λ d k is. fixtures d ∙ kept.there d k is;
      pooled = kept.pooled;
      kinds = kept.kinds;
      one = kept.one;
    }
