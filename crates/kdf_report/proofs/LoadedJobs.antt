-- What is loaded of a job without a fault are slots.
use Rattle.std.proofs.Common.{◌≡◌, ℕ, ◌≤◌, Bool, true, false, cond, List, [], ◌∷◌, length, map, Option, Some, None, Result, Ok, Err, refl, ap, subst, arith}
use Rattle.std.specs.Prelude.{nat_lt}
use Rattle.std.proofs.lemmas.Bool.Decides.{nat_tests}
use Rattle.kdf_usercode.specs.declared.statement.Statement.{Statement}
use Rattle.kdf_usercode.specs.Faults.{FoundFault, least}
use Rattle.kdf_usercode.specs.Grammar.{deck}
use Rattle.kdf_place.specs.Assembled.{assembled, image_words, placed_if_read, words_or_none}
use Rattle.kdf_place.specs.Late.{late_faults}
use Rattle.kdf_place.specs.Placement.{Picture, picture_of, placed, sized, verdict}
use Rattle.kdf_job.specs.Job.{ShownSlot}
use Rattle.kdf_job.specs.Reading.{job, job_fault}
use Rattle.kdf_job.specs.WellFormed.{AreSlots}
use Rattle.kdf_theory.specs.Loading as loading
use Rattle.kdf_theory.specs.Loading.{HaveImages, SlotLoad, load_of, loads}
use Rattle.kdf_theory.specs.Slots as director
use Rattle.kdf_theory.proofs.JobsLoaded.{are_loads, are_slots}
use Rattle.kdf_report.specs.Loaded.{images_of, slots_of}
use Rattle.kdf_report.proofs.FaultlessJobs.{bare, faultless}

-- ---- an image fits its store

if_fits : (large : Bool) (fault : FoundFault) (picture : Picture) (size : ℕ) → (large ≡ false → length picture.words ≤ size)
    → length (words_or_none (cond large (Err fault) (Ok picture))) ≤ size
if_fits true fault picture size fits = omega arith
if_fits false fault picture size fits = fits refl

not_large : (size n : ℕ) → nat_lt size n ≡ false → n ≤ size
not_large size n small = grind (arith, nat_tests)

sized_fits : (picture : Picture) (len size : ℕ) → length (words_or_none (sized picture len size)) ≤ size
sized_fits picture len size = if_fits (nat_lt size (length picture.words)) _ picture size (λ small. not_large size (length picture.words) small)

verdict_fits : (o : Option FoundFault) (rest : Result Picture FoundFault) (size : ℕ) → length (words_or_none rest) ≤ size
    → length (words_or_none (verdict o rest)) ≤ size
verdict_fits None rest size fits = fits
verdict_fits (Some fault) rest size fits = omega arith

placed_fits : (ss : List Statement) (len size : ℕ) → length (words_or_none (placed ss len size)) ≤ size
unfolding placed
placed_fits ss len size = verdict_fits (least (late_faults ss)) (sized (picture_of ss) len size) size (sized_fits (picture_of ss) len size)

read_fits : (r : Result (List Statement) FoundFault) (len size : ℕ) → length (words_or_none (placed_if_read r len size)) ≤ size
read_fits (Ok ss) len size = placed_fits ss len size
read_fits (Err early) len size = omega arith

image_fits : (size : ℕ) (text : List ℕ) → length (image_words size text) ≤ size
unfolding assembled
image_fits size text = read_fits (deck text) (length text) size

pub have_images : (slots : List ShownSlot) → HaveImages slots (images_of slots)
have_images [] = tt
have_images (s ∷ slots) = (image_fits s.size s.deck, have_images slots)

-- ---- no deck is loaded, and nothing of what is to be shown

loads_bare : (slots : List ShownSlot) (images : List (List ℕ)) → loads (map bare slots) images ≡ loads slots images
loads_bare [] images = refl
loads_bare (s ∷ slots) [] = refl
loads_bare (s ∷ slots) (words ∷ images) = ap (λ (later : List SlotLoad). load_of s words ∷ later) (loads_bare slots images)

have_bare : (slots : List ShownSlot) (images : List (List ℕ)) → HaveImages slots images → HaveImages (map bare slots) images
have_bare [] images have = have
have_bare (s ∷ slots) [] have = have
have_bare (s ∷ slots) (words ∷ images) have = (have.0, have_bare slots images have.1)

-- slots that are well formed but for their decks
bare_slots : (slots : List ShownSlot) (images : List (List ℕ)) → AreSlots (map bare slots) → HaveImages slots images
    → director.AreSlots (loading.slots_of slots images)
bare_slots slots images are have =
    subst (λ (xs : List SlotLoad). director.AreSlots (map loading.loaded_slot xs)) (loads_bare slots images)
    (are_slots (loads (map bare slots) images) (are_loads (map bare slots) images are (have_bare slots images have)))

pub loaded_slots : (bytes : List ℕ) → job_fault bytes ≡ None → director.AreSlots (slots_of (job bytes))
loaded_slots bytes free = bare_slots (job bytes).slots (images_of (job bytes).slots) (faultless bytes free) (have_images (job bytes).slots)
