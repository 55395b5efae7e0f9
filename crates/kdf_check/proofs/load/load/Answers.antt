use Rattle.std.proofs.Common.{◌≡◌, ◌-◌, ◌<◌, ◌≤◌, ℕ, List, [], Option, Some, drop, length, map, set, get_or, sym, ap, ◌∙◌, subst, arith}
use Rattle.std.proofs.Math.ListN.{get_or-map}
use Rattle.std.proofs.lemmas.List.{length-map, length-set}
use Rattle.kdf_job.specs.Job.{ShownSlot}
use Rattle.kdf_job.specs.Shows.{shown_slot}
use Rattle.kdf_job.specs.WellFormed.{AreSlots}
use Rattle.kdf_job.specs.declared.job.SlotJob.{SlotJob}
use Rattle.kdf_place.specs.declared.image.Image.{Image}
use Rattle.kdf_alone.specs.Program.{IsApart}
use Rattle.kdf_alone.proofs.Apart.{slot_apart}
use Rattle.kdf_theory.specs.Loading.{HaveImages, load_of, loaded_slot, slots_of}
use Rattle.kdf_check.specs.declared.program.Program.{Program}
use Rattle.kdf_check.specs.Begun.{IsBegun}
use Rattle.kdf_check.specs.Keeps.{place_at, IsKeptAt}
use Rattle.kdf_check.proofs.Loaded.{fits_at, loaded-more, same_count}
use Rattle.kdf_check.proofs.load.load.Goals as goal

abbrev words_in : Image → List ℕ
words_in x = x.words.items

module _ (slots : List SlotJob) (images : List Image) (i : ℕ) (r : SlotJob) (q : Image) (are : AreSlots (map shown_slot slots))
    (have : HaveImages (map shown_slot slots) (map words_in images)) (lt : i < length slots) (is : r ≡ get_or slots i r) (is' : q ≡ get_or images i q) where
  jobs : List ShownSlot
  jobs = map shown_slot slots

  at : shown_slot r ≡ get_or (map shown_slot slots) i (shown_slot r)
  at = ap shown_slot is ∙ sym (get_or-map shown_slot slots i r)

  at' : words_in q ≡ get_or (map words_in images) i (words_in q)
  at' = ap words_in is' ∙ sym (get_or-map words_in images i q)

  inside : i < length (map shown_slot slots)
  inside = subst (λ n. i < n) (sym (length-map slots shown_slot)) lt

  number : r.p < 4
  number = subst (λ (s : ShownSlot). s.p < 4) (sym at) (are.each i (shown_slot r) inside).number

  fits : length (words_in q) ≤ r.size
  fits = subst (λ (s : ShownSlot). length (words_in q) ≤ s.size) (sym at)
      (subst (λ (w : List ℕ). length w ≤ (get_or (map shown_slot slots) i (shown_slot r)).size) (sym at')
      (fits_at (map shown_slot slots) (map words_in images) i (shown_slot r) (words_in q) have inside))

  apart : IsApart (shown_slot r)
  apart = subst IsApart (sym at) (slot_apart (map shown_slot slots) i (shown_slot r) inside are)

there : (slots : List SlotJob) (images : List Image) (i : ℕ) → HaveImages (map shown_slot slots) (map words_in images) → i < length slots → i < length images
there slots images i have lt = omega (
  arith,
  same_count (map shown_slot slots) (map words_in images) have,
  length-map slots shown_slot,
  length-map images words_in,
  lt,
)

-- a slot more
module _ (slots : List SlotJob) (images : List Image) (i n : ℕ) (r : SlotJob) (q : Image) (are : AreSlots (map shown_slot slots))
    (have : HaveImages (map shown_slot slots) (map words_in images)) (some : 0 < i) (le : i ≤ length slots)
    (is : r ≡ get_or slots (i - 1) r) (is' : q ≡ get_or images (i - 1) q) (programs : List (Option Program)) (four : length programs ≡ 4) (at-n : n ≡ r.p) where
  lt : i - 1 < length slots
  lt = omega arith

  placed : n < length programs
  placed = omega (arith, four, at-n, number slots images (i - 1) r q are have lt is is')

  more : (x : Program) → IsBegun (loaded_slot (load_of (shown_slot r) (words_in q))) x
      → ((p : ℕ) → IsKeptAt (slots_of (drop i (map shown_slot slots)) (drop i (map words_in images))) [] p (place_at programs p))
      → (p : ℕ) → IsKeptAt (slots_of (drop (i - 1) (map shown_slot slots)) (drop (i - 1) (map words_in images))) [] p (place_at (set programs n (Some x)) p)
  more x begun each =
      subst (λ (m : ℕ). (p : ℕ) → IsKeptAt (slots_of (drop (i - 1) (map shown_slot slots)) (drop (i - 1) (map words_in images))) [] p
      (place_at (set programs m (Some x)) p)) (sym at-n)
      (loaded-more (map shown_slot slots) (map words_in images) (same_count (map shown_slot slots) (map words_in images) have) i programs (shown_slot r)
      (words_in q) x some
      (subst (λ m. i ≤ m) (sym (length-map slots shown_slot)) le) (at slots images (i - 1) r q are have lt is is')
      (at' slots images (i - 1) r q are have lt is is') each begun
      (subst (λ m. m < length programs) at-n placed))

pub bounds-images-i : goal.bounds-images-i
bounds-images-i c = there c.args.slots.now c.args.images.now (c.loop-i.i - 1) c.requires.images (omega (arith, c.loop-i.invariant.below, c.loop-i-test.true))

pub first-requires-clause-fits : goal.first-requires-clause-fits
first-requires-clause-fits c = fits c.args.slots.now c.args.images.now (c.loop-i.i - 1) c.index-slots-i.result c.index-images-i.result c.requires.slots
    c.requires.images (omega (arith, c.loop-i.invariant.below, c.loop-i-test.true)) c.index-slots-i.is c.index-images-i.is

pub first-requires-clause-apart : goal.first-requires-clause-apart
first-requires-clause-apart c = apart c.args.slots.now c.args.images.now (c.loop-i.i - 1) c.index-slots-i.result c.index-images-i.result c.requires.slots
    c.requires.images (omega (arith, c.loop-i.invariant.below, c.loop-i-test.true)) c.index-slots-i.is c.index-images-i.is

pub index_mut-requires : goal.index_mut-requires
index_mut-requires c = let within = placed c.args.slots.now c.args.images.now c.loop-i.i c.from.result c.index-slots-i.result c.index-images-i.result
    c.requires.slots c.requires.images c.loop-i-test.true c.loop-i.invariant.below c.index-slots-i.is c.index-images-i.is c.loop-i.programs.items
    c.loop-i.invariant.four c.from.ensures in omega (arith, within, c.loop-i.programs.ok.0)

pub loop-i-preserved-in_ok-program : goal.loop-i-preserved-in_ok-program
loop-i-preserved-in_ok-program c = record {
  each = more c.args.slots.now c.args.images.now c.loop-i.i c.from.result c.index-slots-i.result c.index-images-i.result c.requires.slots c.requires.images
      c.loop-i-test.true c.loop-i.invariant.below c.index-slots-i.is c.index-images-i.is c.loop-i.programs.items c.loop-i.invariant.four c.from.ensures
      c.in_ok-program.program c.in_ok-program.ensures c.loop-i.invariant.each;
  four = length-set c.loop-i.programs.items c.from.result (Some c.in_ok-program.program) ∙ c.loop-i.invariant.four;
  below = omega (arith, c.loop-i.invariant.below);
}

pub loop-i-preserved : goal.loop-i-preserved
loop-i-preserved c = record {
  each = more c.args.slots.now c.args.images.now c.loop-i.i c.from.result c.index-slots-i.result c.index-images-i.result c.requires.slots c.requires.images
      c.loop-i-test.true c.loop-i.invariant.below c.index-slots-i.is c.index-images-i.is c.loop-i.programs.items c.loop-i.invariant.four c.from.ensures
      c.in_ok-program.program c.in_ok-program.ensures c.loop-i.invariant.each;
  four = length-set c.loop-i.programs.items c.from.result (Some c.in_ok-program.program) ∙ c.loop-i.invariant.four;
  below = omega (arith, c.loop-i.invariant.below);
}
