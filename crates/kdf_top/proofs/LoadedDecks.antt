-- The decks of a job: what its slots are loaded with, and the first that has a fault.
use Rattle.std.proofs.Common.{◌≡◌, ℕ, zero, suc, ◌+◌, ◌<◌, ◌≤◌, List, [], ◌∷◌, ◌++◌, length, map, take, drop, get_or, Some, None, Result, Ok, Err, All, refl}
use Rattle.std.proofs.Common.{sym, ap, subst, ◌∙◌, arith}
use Rattle.std.proofs.lemmas.List.{at_drop_all, at_drop_more, get_or-map, length-map, take_more, map-append}
use Rattle.std.proofs.lemmas.List.Elements.{All-push}
use Rattle.kdf_usercode.specs.Faults.{FoundFault}
use Rattle.kdf_place.specs.declared.image.Image.{Image}
use Rattle.kdf_place.specs.Placement.{Picture}
use Rattle.kdf_job.specs.declared.job.Job.{Job}
use Rattle.kdf_job.specs.declared.job.SlotJob.{SlotJob}
use Rattle.kdf_job.specs.Shows.{shown_job, shown_slot}
use Rattle.kdf_job.specs.WellFormed.{IsJob, IsSlot}
use Rattle.kdf_theory.specs.Loading.{HaveImages}
use Rattle.kdf_place.specs.Assembled.{assembled, image_words, words_or_none}
use Rattle.kdf_top.specs.Deck.{first_of, deck_fault, IsDeck}
use Rattle.kdf_top.specs.Loaded.{HasImages, images_of, pictures_of}
use Rattle.kdf_place.specs.Placement.{shown_image}

-- what a slot's deck comes to
abbrev pub picture_due : SlotJob → Result Picture FoundFault
picture_due slot = assembled slot.size slot.deck.items

abbrev pub words_due : SlotJob → List ℕ
words_due slot = image_words slot.size slot.deck.items

abbrev pub Fitting : SlotJob → Type 0
Fitting slot = length (words_due slot) ≤ slot.size

abbrev pub pictured : Image → Result Picture FoundFault
pictured image = Ok (shown_image image)

pub same_pictures : (slots : List SlotJob) → map picture_due slots ≡ pictures_of (map shown_slot slots)
same_pictures [] = refl
same_pictures (s ∷ slots) = ap (λ (later : List (Result Picture FoundFault)). picture_due s ∷ later) (same_pictures slots)

have_images : (slots : List SlotJob) → All Fitting slots → HaveImages (map shown_slot slots) (images_of (map shown_slot slots))
have_images [] fits = tt
have_images (s ∷ slots) fits = (fits 0 s (omega arith), have_images slots (λ k d lt. fits (suc k) d (omega arith)))

-- all of a list is taken
pub all_taken : {X : Type 0} (xs : List X) (k : ℕ) → length xs ≤ k → take k xs ≡ xs
all_taken [] zero long = refl
all_taken [] (suc k) long = refl
all_taken (x ∷ xs) zero long = absurd (omega arith)
all_taken (x ∷ xs) (suc k) long = ap (λ (ys : List _). x ∷ ys) (all_taken xs k (omega arith))

pub has_images : (slots : List SlotJob) (images : List Image) → map pictured images ≡ map picture_due slots → All Fitting slots
    → HasImages (map shown_slot slots) images
has_images slots images made fits = record { pictures = made ∙ same_pictures slots; fits = have_images slots fits }

-- the words of these images are those that the decks come to
words_of_pictures : (slots : List SlotJob) (images : List Image) → map pictured images ≡ map picture_due slots
    → map (λ (image : Image). image.words.items) images ≡ images_of (map shown_slot slots)
words_of_pictures [] [] e = refl
words_of_pictures [] (image ∷ images) e = cc
words_of_pictures (s ∷ slots) [] e = cc
words_of_pictures (s ∷ slots) (image ∷ images) e =
    let first : pictured image ≡ picture_due s = cc in
    let others : map pictured images ≡ map picture_due slots = cc in
    let words : image.words.items ≡ words_due s = ap words_or_none first in
    let later = words_of_pictures slots images others in
    cc

pub same_words : (slots : List SlotJob) (images : List Image) → HasImages (map shown_slot slots) images
    → map (λ (image : Image). image.words.items) images ≡ images_of (map shown_slot slots)
same_words slots images have = words_of_pictures slots images (have.pictures ∙ sym (same_pictures slots))

pub fitting_images : (slots : List SlotJob) (images : List Image) → HasImages (map shown_slot slots) images
    → HaveImages (map shown_slot slots) (map (λ (image : Image). image.words.items) images)
fitting_images slots images have =
    subst (λ (xs : List (List ℕ)). HaveImages (map shown_slot slots) xs) (sym (same_words slots images have)) have.fits

pub all_decks : (j : Job) → IsJob (shown_job j) → All IsDeck j.slots.items
all_decks j well k d lt =
    let inside : k < length (map shown_slot j.slots.items) = omega (arith, length-map j.slots.items shown_slot) in
    let at : get_or (map shown_slot j.slots.items) k (shown_slot d) ≡ shown_slot (get_or j.slots.items k d) =
    get_or-map shown_slot j.slots.items k d (shown_slot d) lt in
    let slot = subst IsSlot at (well.slots.each k (shown_slot d) inside) in
    (slot.most, slot.deck)

-- the image of one deck more
module _ (slots : List SlotJob) (i : ℕ) (d slot : SlotJob) (lt : i < length slots) (is : get_or slots i d ≡ slot) (image : Image)
    (made : picture_due slot ≡ pictured image) where
  pub first-on : deck_fault (map shown_slot (drop i slots)) ≡ deck_fault (map shown_slot (drop (i + 1) slots))
  first-on =
      let later = deck_fault (map shown_slot (drop (i + 1) slots)) in
      at_drop_more (λ (xs : List SlotJob). deck_fault (map shown_slot xs)) slots i d lt
      ∙ ap (λ (s : SlotJob). first_of s.p (picture_due s) later) is
      ∙ ap (λ (m : Result Picture FoundFault). first_of slot.p m later) made

  take_one : take (i + 1) slots ≡ take i slots ++ slot ∷ []
  take_one = take_more slots i d lt ∙ ap (λ (s : SlotJob). take i slots ++ s ∷ []) is

  pub pictures-on : (images : List Image) → map pictured images ≡ map picture_due (take i slots)
      → map pictured (images ++ image ∷ []) ≡ map picture_due (take (i + 1) slots)
  pictures-on images e =
      map-append pictured images (image ∷ []) ∙ ap (λ (ps : List (Result Picture FoundFault)). ps ++ pictured image ∷ []) e
      ∙ ap (λ (p : Result Picture FoundFault). map picture_due (take i slots) ++ p ∷ []) (sym made)
      ∙ sym (ap (map picture_due) take_one ∙ map-append picture_due (take i slots) (slot ∷ []))

  pub fits-on : length image.words.items ≤ slot.size → All Fitting (take i slots) → All Fitting (take (i + 1) slots)
  fits-on fits all =
      let same : image.words.items ≡ words_due slot = sym (ap words_or_none made) in
      subst (λ (xs : List SlotJob). All Fitting xs) (sym take_one)
      (All-push Fitting (take i slots) slot all (subst (λ (words : List ℕ). length words ≤ slot.size) same fits))

-- the deck in front has this fault
pub first-here : (slots : List SlotJob) (i : ℕ) (d slot : SlotJob) (fault : FoundFault) → i < length slots → get_or slots i d ≡ slot
    → picture_due slot ≡ Err fault
    → deck_fault (map shown_slot (drop i slots)) ≡ Some (slot.p, fault)
first-here slots i d slot fault lt is made =
    let later = deck_fault (map shown_slot (drop (i + 1) slots)) in
    at_drop_more (λ (xs : List SlotJob). deck_fault (map shown_slot xs)) slots i d lt
    ∙ ap (λ (s : SlotJob). first_of s.p (picture_due s) later) is
    ∙ ap (λ m. first_of slot.p m later) made

-- no deck is left
pub none-left : (slots : List SlotJob) (i : ℕ) → length slots ≤ i → deck_fault (map shown_slot (drop i slots)) ≡ None
none-left slots i past = at_drop_all (λ (xs : List SlotJob). deck_fault (map shown_slot xs)) slots i past
