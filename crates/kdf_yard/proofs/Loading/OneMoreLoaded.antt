-- One slot or word more is loaded.
use Rattle.std.proofs.Common.{◌≡◌, ℕ, suc, ◌+◌, ◌<◌, List, [], ◌∷◌, ◌++◌, length, get_or, map, take, drop, sym, ap, ap₂, ◌∙◌, append_assoc, arith}
use Rattle.std.proofs.Math.Seq.{drop-cons}
use Rattle.std.proofs.lemmas.List.{map_more, map_push}
use Rattle.kdf_job.specs.declared.job.SlotJob.{SlotJob}
use Rattle.kdf_job.specs.Shows.{shown_slot}
use Rattle.kdf_place.specs.declared.image.Image.{Image}
use Rattle.kdf_yard.specs.declared.slot.Loaded.{Loaded}
use Rattle.kdf_theory.specs.Loading.{SlotLoad, load_of, loads}
use Rattle.kdf_yard.specs.Fields.Filled.{loaded}

-- what is left begins with the element that is next
drop_at : {X : Type 0} (xs : List X) (i : ℕ) (x : X) → i < length xs → x ≡ get_or xs i x → drop i xs ≡ x ∷ drop (i + 1) xs
drop_at xs i x lt here =
    drop-cons xs i x lt
    ∙ ap₂ (λ y n. y ∷ drop n xs) (sym here) (let e : suc i ≡ i + 1 = omega arith in e)

-- one more of a list that is made element by element
pub take_more : {X Y Z : Type 0} (f : X → Z) (g : Y → Z) (xs ys : List X) (x : X) (all : List Y) (i : ℕ) (y : Y) → i < length all → y ≡ get_or all i y
    → ys ≡ xs ++ x ∷ [] → f x ≡ g y → map f xs ≡ map g (take i all) → map f ys ≡ map g (take (i + 1) all)
take_more f g xs ys x all i y lt here push is before =
    ap (map f) push ∙ map_push f xs x ∙ ap₂ (λ a b. a ++ b ∷ []) before (is ∙ ap g here) ∙ sym (map_more g all i y lt)

-- the slots from the i-th on
abbrev rest : List SlotJob → List Image → ℕ → List SlotLoad
rest jobs images i = loads (map shown_slot (drop i jobs)) (map (λ (x : Image). x.words.items) (drop i images))

pub loads_more : (jobs : List SlotJob) (images : List Image) (i : ℕ) (s : SlotJob) (image : Image) (before after : List Loaded) (x : Loaded)
    (all : List SlotLoad) → i < length jobs → i < length images → s ≡ get_or jobs i s → image ≡ get_or images i image → after ≡ before ++ x ∷ []
    → loaded x ≡ load_of (shown_slot s) image.words.items → map loaded before ++ rest jobs images i ≡ all → map loaded after ++ rest jobs images (i + 1) ≡ all
loads_more jobs images i s image before after x all lt lt' here there push is so =
    ap (λ ys. map loaded ys ++ rest jobs images (i + 1)) push
    ∙ ap (λ ys. ys ++ rest jobs images (i + 1)) (map_push loaded before x)
    ∙ append_assoc (map loaded before) (loaded x ∷ []) (rest jobs images (i + 1))
    ∙ ap (λ ys. map loaded before ++ ys)
    (ap (λ l. l ∷ rest jobs images (i + 1)) is
    ∙ sym (ap₂ (λ js ms. loads (map shown_slot js) (map (λ (m : Image). m.words.items) ms)) (drop_at jobs i s lt here) (drop_at images i image lt' there)))
    ∙ so
