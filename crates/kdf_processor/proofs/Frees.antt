-- A pool without devices: nothing can be taken from it.
use Rattle.std.proofs.Common.{◌≡◌, ℕ, Bool, false, List, [], ◌∷◌, Option, Some, None, cond, get_or, refl, ap, ◌∙◌}
use Rattle.std.specs.Prelude.{find, ◌&&◌}
use Rattle.kdf_journal.specs.declared.kind.Kind.{Kind}
use Rattle.kdf_journal.specs.declared.kind.Kind.TheVariants.{Tr, Tp, Cr, Lp, Mt}
use Rattle.kdf_transfer.specs.Devices.{is_kind}

-- a pool without devices has none of a kind
pub none_of_kind : (k : Kind) → is_kind k None ≡ false
none_of_kind Tr = refl
none_of_kind Tp = refl
none_of_kind Cr = refl
none_of_kind Lp = refl
none_of_kind Mt = refl

pub none_of_pool : (k : Kind) (pool : List (Option Kind)) (test : ℕ → Bool) → pool ≡ [] → (ds : List ℕ)
    → find (λ d. is_kind k (get_or pool d None) && test d) ds ≡ None
none_of_pool k pool test none [] = refl
none_of_pool k pool test none (d ∷ ds) =
    ap (λ b. cond (b && test d) (Some d) (find (λ x. is_kind k (get_or pool x None) && test x) ds))
    (ap (λ (ps : List (Option Kind)). is_kind k (get_or ps d None)) none ∙ none_of_kind k)
    ∙ none_of_pool k pool test none ds
