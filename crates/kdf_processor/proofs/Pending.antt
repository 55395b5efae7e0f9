-- What is pending among the groups of an area.
use Rattle.std.proofs.Common.{◌≡◌, ℕ, Bool, true, false, cond, Option, Some, None, List, [], ◌∷◌, refl, sym, ap, ◌∙◌, map}
use Rattle.std.specs.Prelude.{find, MatchOption, IsSomeAnd}
use Rattle.std.specs.Option.{option_map}
use Rattle.kdf_journal.specs.declared.need.Need.{Need}
use Rattle.kdf_journal.specs.declared.need.Need.TheVariants.{Group, Device}
use Rattle.kdf_processor.specs.View.{View, first_pending}

map_cond : (b : Bool) (g : ℕ) (o : Option ℕ) → cond b (Some (Group g)) (option_map Group o) ≡ option_map Group (cond b (Some g) o)
map_cond true g o = refl
map_cond false g o = refl

-- of some groups the first that is pending is the first that is out
pub pending_groups : (v : View) (gs : List ℕ) → first_pending v (map Group gs) ≡ option_map Group (find v.is_out gs)
pending_groups v [] = refl
pending_groups v (g ∷ gs) =
    ap (cond (v.is_out g) (Some (Group g))) (pending_groups v gs) ∙ map_cond (v.is_out g) g (find v.is_out gs)

map_none : (o : Option ℕ) → option_map Group o ≡ None → o ≡ None
map_none None e = refl
map_none (Some g) e = cc

-- where none is pending, none is out
pub none_out : (v : View) (gs : List ℕ) → first_pending v (map Group gs) ≡ None → find v.is_out gs ≡ None
none_out v gs e = map_none (find v.is_out gs) (sym (pending_groups v gs) ∙ e)

behind : (b : Bool) (n : Need) (o : Option Need) → cond b (Some n) o ≡ None → o ≡ None
behind true n o e = cc
behind false n o e = e

-- nor where neither they are nor a device before them
pub none_out_behind : (v : View) (d : ℕ) (gs : List ℕ) → first_pending v (Device d ∷ map Group gs) ≡ None → find v.is_out gs ≡ None
none_out_behind v d gs e =
    none_out v gs (behind (v.is_busy d) (Device d) (first_pending v (map Group gs)) e)

not_first : (b : Bool) (n : Need) (o : Option Need) → cond b (Some n) o ≡ None → b ≡ false
not_first true n o e = cc
not_first false n o e = refl

-- a device is not busy that is the first of needs none of which is pending
pub idle_behind : (v : View) (d : ℕ) (ns : List Need) → first_pending v (Device d ∷ ns) ≡ None → v.is_busy d ≡ false
idle_behind v d ns e = not_first (v.is_busy d) (Device d) (first_pending v ns) e

-- nor is a group out that is the only one
pub free_group : (v : View) (g : ℕ) → first_pending v (Group g ∷ []) ≡ None → v.is_out g ≡ false
free_group v g e = not_first (v.is_out g) (Group g) None e

-- an option that is another with each group named as a need
pub mapped : (o : Option ℕ) (n : Option Need) → MatchOption o (n ≡ None) (λ g. IsSomeAnd n (λ x. x ≡ Group g)) → n ≡ option_map Group o
mapped None n h = h
mapped (Some g) None h = absurd h
mapped (Some g) (Some x) h = ap Some h
