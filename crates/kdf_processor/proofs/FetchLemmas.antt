-- What comes of the next order, by what its fetch gave.
use Rattle.std.proofs.Common.{◌≡◌, Bool, true, false, cond, List, [], ◌∷◌, ◌++◌, Option, Some, None, ℕ, refl, sym, ap, ◌∙◌}
use Rattle.std.specs.Prelude.{find}
use Rattle.kdf_syllable.specs.declared.order.Order.{Order}
use Rattle.kdf_processor.specs.declared.registers.Registers.{Registers}
use Rattle.kdf_journal.specs.declared.need.Need.TheVariants.{Group}
use Rattle.kdf_processor.specs.Needs.{effect_at, effect_needs, effect_or_liv, fetch_needs, order_at}
use Rattle.kdf_processor.specs.Outcome.{done, held, held_or, outcome, try_effect}
use Rattle.kdf_processor.specs.Plan.{try_decoded}
use Rattle.kdf_processor.specs.View.{View, first_pending, is_pending}

found_front : {X : Type 0} (p : X → Bool) (xs ys : List X) (x y : X) (b : Bool) → (find p xs ≡ Some x → find p (xs ++ ys) ≡ Some x)
    → cond b (Some y) (find p xs) ≡ Some x → cond b (Some y) (find p (xs ++ ys)) ≡ Some x
found_front p xs ys x y true rest e = e
found_front p xs ys x y false rest e = rest e

-- what is found in a list is found in a longer one
pub found_more : {X : Type 0} (p : X → Bool) (xs ys : List X) (x : X) → find p xs ≡ Some x → find p (xs ++ ys) ≡ Some x
found_more p [] ys x e = cc
found_more p (y ∷ xs) ys x e = found_front p xs ys x y (p y) (found_more p xs ys x) e

later_front : {X : Type 0} (b : Bool) (x : X) (first all rest : Option X) → (first ≡ None → all ≡ rest) → cond b (Some x) first ≡ None
    → cond b (Some x) all ≡ rest
later_front true x first all rest f e = cc
later_front false x first all rest f e = f e

-- where none of some passes, the first is among the others
found_later : {X : Type 0} (p : X → Bool) (xs ys : List X) → find p xs ≡ None → find p (xs ++ ys) ≡ find p ys
found_later p [] ys e = refl
found_later p (x ∷ xs) ys e = later_front (p x) x (find p xs) (find p (xs ++ ys)) (find p ys) (found_later p xs ys) e

-- where the fetch isn't held up, the order is tried that is there, or the lack of one
pub outcome_there : (v : View) (r : Registers) (o : Option Order) → None ≡ first_pending v (fetch_needs v.claims.size v.word r.at)
    → order_at v.claims.size v.word r.at ≡ o → outcome v r ≡ try_decoded v r o
outcome_there v r o none is =
    let e = effect_at v.claims v.word r in
    ap (λ n. held_or r n (done v r e)) (found_later (is_pending v) (fetch_needs v.claims.size v.word r.at) (effect_needs v.mine e) (sym none))
    ∙ ap (λ o1. try_effect v r (effect_or_liv v.claims r o1)) is

-- where it is, nothing is done
pub outcome_held : (v : View) (r : Registers) (g : ℕ) → Some (Group g) ≡ first_pending v (fetch_needs v.claims.size v.word r.at)
    → outcome v r ≡ held r (Group g)
outcome_held v r g is =
    let e = effect_at v.claims v.word r in
    ap (λ n. held_or r n (done v r e)) (found_more (is_pending v) (fetch_needs v.claims.size v.word r.at) (effect_needs v.mine e) (Group g) (sym is))
