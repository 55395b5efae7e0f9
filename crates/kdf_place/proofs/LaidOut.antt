-- The image of a deck without faults is laid out.
use Rattle.std.proofs.Common.{◌≡◌, ℕ, Bool, true, false, cond, ltb, ◌+◌, List, [], ◌∷◌, ◌++◌, length, get_or, Option, Some, None, Result, Ok, Err, refl, sym}
use Rattle.std.proofs.Common.{ap, subst, ◌∙◌}
use Rattle.kdf_syllable.specs.Spelling.{spelling}
use Rattle.kdf_usercode.specs.declared.fault.DeckFault.TheVariants.{PartTwice, ReferenceTwice, VRange, TooLarge}
use Rattle.kdf_usercode.specs.declared.statement.Statement.{Statement}
use Rattle.kdf_usercode.specs.Faults.{FoundFault, found, least}
use Rattle.kdf_usercode.specs.WellFormed.{AreInRange, AreWellFormed}
use Rattle.kdf_usercode.proofs.Least.{least-none}
use Rattle.kdf_place.specs.Layout.{walked, front}
use Rattle.kdf_place.specs.Names.{names, openings, labels, constants}
use Rattle.kdf_place.specs.Late.{twice, wrong, wrongs, late_faults}
use Rattle.kdf_place.specs.Placement.{Picture, value, words, picture_of, sized, verdict, placed}
use Rattle.kdf_place.specs.Stands.{Stand, IsFilled, IsLaidOut}
use Rattle.kdf_place.proofs.Laid.{stand-order, stand-filling, stand-last, stand-start}
use Rattle.kdf_place.proofs.Meant.{reference-means, first-means}
use Rattle.kdf_place.proofs.Stores.{stand-constant, stand-store}
use Rattle.kdf_place.proofs.Walks.{nil-both, nil-founds, wrongs-append}

verdict-ok : (o : Option FoundFault) (rest : Result Picture FoundFault) (image : Picture) → verdict o rest ≡ Ok image → (o ≡ None) × (rest ≡ Ok image)
verdict-ok None rest image e = (refl, e)
verdict-ok (Some f) rest image e = absurd cc

roomy : (b : Bool) (f : FoundFault) (picture image : Picture) (answer : Result Picture FoundFault) → answer ≡ cond b (Err f) (Ok picture) → answer ≡ Ok image
    → picture ≡ image
roomy true f picture image answer is e = absurd cc
roomy false f picture image answer is e = cc

-- an image that is answered is that of the deck, which has no late fault
pub placed-ok : (ss : List Statement) (len size : ℕ) (image : Picture) → placed ss len size ≡ Ok image → (late_faults ss ≡ []) × (picture_of ss ≡ image)
unfolding placed
placed-ok ss len size image e =
    let both = verdict-ok (least (late_faults ss)) (sized (picture_of ss) len size) image e in (
      least-none (late_faults ss) both.0,
      roomy (ltb size (length (picture_of ss).words)) (found TooLarge len) (picture_of ss) image
          (sized (picture_of ss) len size) refl both.1,
    )

late-none : (ss : List Statement) → late_faults ss ≡ []
    → (twice PartTwice [] (openings front ss) ≡ []) × (twice ReferenceTwice [] (labels front ss) ≡ []) × (wrongs (names ss) front ss ≡ [])
    × (twice VRange [] (constants front ss) ≡ [])
late-none ss none =
    let parts = twice PartTwice [] (openings front ss) in
    let references = twice ReferenceTwice [] (labels front ss) in
    let stores = twice VRange [] (constants front ss) in
    let all = nil-both (parts ++ references ++ stores) (wrongs (names ss) front ss) none in
    let three = nil-both (parts ++ references) stores all.0 in
    let two = nil-both parts references three.0 in
    (two.0, two.1, all.1, three.1)

named-each : (ss before behind : List Statement) (s : Statement) → wrongs (names ss) front ss ≡ [] → ss ≡ before ++ s ∷ behind
    → wrong (names ss) (walked front before) s.what ≡ []
named-each ss before behind s ok e =
    let m = names ss in
    let here = walked front before in
    let split : wrongs m front before ++ wrongs m here (s ∷ behind) ≡ [] = sym (wrongs-append m front before (s ∷ behind)) ∙ ap (wrongs m front) (sym e) ∙ ok in
    let founds : wrongs m here (s ∷ []) ++ _ ≡ [] = sym (wrongs-append m here (s ∷ []) behind)
    ∙ (nil-both (wrongs m front before) (wrongs m here (s ∷ behind)) split).1 in
    nil-founds s.place (wrong m here s.what) (nil-both _ [] (nil-both (wrongs m here (s ∷ [])) _ founds).0).0

laid-out : (ss : List Statement) → AreInRange ss → late_faults ss ≡ [] → IsLaidOut ss (picture_of ss)
laid-out ss are none =
    let m = names ss in
    let no = late-none ss none in
    record {
      orders =
          λ before behind s order e is.
          let P : List Statement → Type 0 = λ xs. AreInRange xs → wrongs m front xs ≡ [] → Stand (words m xs) (walked front before).at (spelling order) in
          subst P (sym e) (λ are' ok. stand-order m before behind s order are' ok is) are no.2;
      named = λ before behind s e. named-each ss before behind s no.2 e;
      filled =
          λ before behind s e begins.
          let P : List Statement → Type 0 = λ xs. AreInRange xs → wrongs m front xs ≡ [] → IsFilled (words m xs) (walked front before).at in
          subst P (sym e) (λ are' ok. stand-filling m before behind s are' ok begins) are no.2;
      filled_last = stand-last m ss are no.2;
      references = λ before between behind s r e what passed ends. reference-means ss before between behind s r no.1 e what passed ends;
      firsts = λ before between behind s p e what passed ends. first-means ss before between behind s p no.0 e what passed ends;
      constants =
          λ before behind s n constant e what.
          let P : List Statement → Type 0 =
          λ xs. wrong m (walked front before) s.what ≡ [] → twice VRange [] (constants front xs) ≡ []
          → get_or (words m xs) ((walked front before).section.base + n) 0 ≡ value m (walked front before).section constant in
          subst P (sym e) (λ ok once. stand-constant m before behind s n constant ok once what) (named-each ss before behind s no.2 e) no.3;
      stores = λ before behind place a e other is. stand-store ss before behind place a e other is;
      start = stand-start m ss are no.2;
    }

pub image-laid-out : (ss : List Statement) (len size : ℕ) (image : Picture) → AreWellFormed ss len → placed ss len size ≡ Ok image → IsLaidOut ss image
image-laid-out ss len size image w e =
    let both = placed-ok ss len size image e in
    subst (λ (p : Picture). IsLaidOut ss p) both.1 (laid-out ss w.in_range both.0)
