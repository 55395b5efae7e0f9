-- The answer for a deck as a whole.
use Rattle.std.proofs.Common.{◌≡◌, ℕ, ◌+◌, ◌<◌, ◌≤◌, length, map, sum, List, [], ◌∷◌, ◌++◌, Option, Some, None, Ok, Err, refl, sym, ap, ◌∙◌, arith}
use Rattle.std.proofs.lemmas.Bool.{lt-ltb, le-ltb}
use Rattle.kdf_usercode.specs.declared.fault.DeckFault.TheVariants.{PartTwice, ReferenceTwice, VRange, TooLarge}
use Rattle.kdf_usercode.specs.declared.statement.Statement.{Statement}
use Rattle.kdf_usercode.specs.Faults.{FoundFault, found, lesser, least}
use Rattle.kdf_usercode.specs.Rising.{Rises}
use Rattle.kdf_usercode.specs.WellFormed.{AreWellFormed}
use Rattle.kdf_usercode.proofs.Least.{least-append}
use Rattle.kdf_place.specs.declared.image.Image.{Image}
use Rattle.kdf_place.specs.declared.image.Label.{Label}
use Rattle.kdf_place.specs.declared.names.Meanings.{Meanings}
use Rattle.kdf_place.specs.Layout.{front}
use Rattle.kdf_place.specs.Names.{Names, names, openings, labels, constants}
use Rattle.kdf_place.specs.Late.{twice, wrongs, late_faults}
use Rattle.kdf_place.specs.Placement.{Picture, shown_image, label_of, start_of, words, picture_of, sized, verdict, placed}
use Rattle.kdf_place.specs.Tables.{meaning}
use Rattle.kdf_place.proofs.Lengths.{words-length}

-- there are no more statements than places
rises-length : (low high : ℕ) (ss : List Statement) → low ≤ high → Rises low ss high → low + length ss ≤ high
rises-length low high [] le r = omega arith
rises-length low high (s ∷ ss) le r = omega (arith, r.0, r.1, rises-length (s.place + 1) high ss (omega (arith, r.1)) r.2)

pub few : (ss : List Statement) (len : ℕ) → AreWellFormed ss len → length ss < 1099511627776
few ss len w = omega (arith, w.short, rises-length 0 len ss (omega arith) w.rises)

-- the first of all late faults
pub first-late : (ss ss' : List Statement) (meant : Names) (first result : Option FoundFault) → ss' ≡ ss → meant ≡ names ss
    → first ≡ least (twice PartTwice [] (openings front ss) ++ twice ReferenceTwice [] (labels front ss) ++ twice VRange [] (constants front ss))
    → result ≡ lesser first (least (wrongs meant front ss')) → result ≡ least (late_faults ss)
first-late ss ss' meant first result s m f e =
    let before = twice PartTwice [] (openings front ss) ++ twice ReferenceTwice [] (labels front ss) ++ twice VRange [] (constants front ss) in
    e ∙ ap (λ o. lesser o (least (wrongs meant front ss'))) f ∙ ap (λ ns. lesser (least before) (least (wrongs ns front ss'))) m
    ∙ ap (λ x. lesser (least before) (least (wrongs (names ss) front x))) s
    ∙ sym (least-append before (wrongs (names ss) front ss))

-- how many words the image has
total : (m : Meanings) (ss : List Statement) → meaning m ≡ names ss → m.behind + sum m.groups ≡ length (picture_of ss).words
total m ss e = ap (λ (ns : Names). ns.behind + sum ns.groups) e ∙ sym (words-length ss)

pub too-large : (m : Meanings) (ss : List Statement) (y len size : ℕ) → meaning m ≡ names ss → y ≡ sum m.groups → size < m.behind + y
    → sized (picture_of ss) len size ≡ Err (found TooLarge len)
too-large m ss y len size e ye lt = rw (← total m ss e, ← ye, lt-ltb size (m.behind + y) lt) refl

has-room : (m : Meanings) (ss : List Statement) (y size : ℕ) → meaning m ≡ names ss → y ≡ sum m.groups → m.behind + y ≤ size
    → length (picture_of ss).words ≤ size
has-room m ss y size e ye le = rw (← total m ss e, ← ye) le

same-picture : (ss ss' : List Statement) (meant : Names) (refs : List Label) (image : Image) → ss' ≡ ss → meant ≡ names ss
    → refs ≡ map label_of (labels front ss)
    → image.words.items ≡ words meant ss' → image.start ≡ start_of meant → image.labels.items ≡ refs
    → picture_of ss ≡ shown_image image
same-picture ss ss' meant refs image s m l w f r =
    let made : List ℕ → ℕ → List Label → Picture = λ a b c. record { words = a; start = b; labels = c } in
    sym (ap (λ a. made a image.start image.labels.items) (w ∙ ap (λ ns. words ns ss') m ∙ ap (λ x. words (names ss) x) s)
    ∙ ap (λ b. made (words (names ss) ss) b image.labels.items) (f ∙ ap start_of m)
    ∙ ap (λ c. made (words (names ss) ss) (start_of (names ss)) c) (r ∙ l))

pub with-room : (m : Meanings) (ss ss' : List Statement) (refs : List Label) (image : Image) (y len size : ℕ) → ss' ≡ ss → meaning m ≡ names ss
    → refs ≡ map label_of (labels front ss)
    → image.words.items ≡ words (meaning m) ss' → image.start ≡ start_of (meaning m) → image.labels.items ≡ refs
    → y ≡ sum m.groups → m.behind + y ≤ size
    → (sized (picture_of ss) len size ≡ Ok (shown_image image)) × (length image.words.items ≤ size)
with-room m ss ss' refs image y len size s e l w f r ye le =
    let room = has-room m ss y size e ye le in
    let same = same-picture ss ss' (meaning m) refs image s e l w f r in (
      rw (le-ltb size (length (picture_of ss).words) room) (ap (λ (p : Picture). Ok p) same),
      omega (arith, ap (λ (p : Picture). length p.words) same, room),
    )

pub placed-fault : (ss : List Statement) (len size : ℕ) (f : FoundFault) → least (late_faults ss) ≡ Some f → placed ss len size ≡ Err f
unfolding placed
placed-fault ss len size f e = ap (λ o. verdict o (sized (picture_of ss) len size)) e

pub placed-sized : (ss : List Statement) (len size : ℕ) → least (late_faults ss) ≡ None → placed ss len size ≡ sized (picture_of ss) len size
unfolding placed
placed-sized ss len size e = ap (λ o. verdict o (sized (picture_of ss) len size)) e
