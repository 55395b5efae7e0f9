-- The slots of a job, each with its pool.
use Rattle.std.proofs.Common.{◌≡◌, ℕ, ◌+◌, List, [], ◌∷◌, ◌++◌, map, refl, sym, ap, subst, ◌∙◌, arith}
use Rattle.std.specs.Prelude.{fold, nat_eq}
use Rattle.std.specs.List.{All, IsDistinct, flat_map}
use Rattle.std.proofs.lemmas.List.Elements.{All-map}
use Rattle.kdf_journal.specs.declared.kind.Kind.{Kind}
use Rattle.kdf_job.specs.Job.{JobDevice, ShownSlot}
use Rattle.kdf_job.specs.Draft.{pool_numbers, numbers_of, with_pool, words_in}
use Rattle.kdf_job.specs.Kept.{AreTold}
use Rattle.kdf_job.specs.WellFormed.{AreRising, AreSlots, IsLent, IsSlot}
use Rattle.kdf_job.proofs.Slots.{ds, ps}

-- the pool changes nothing else of a slot
same_devices : (pool : List (ℕ × Kind)) (slots : List ShownSlot) → flat_map (λ (s : ShownSlot). s.devices) (map (with_pool pool) slots)
    ≡ flat_map (λ (s : ShownSlot). s.devices) slots
same_devices pool [] = refl
same_devices pool (s ∷ slots) = ap (λ (xs : List JobDevice). s.devices ++ xs) (same_devices pool slots)

same_numbers : (pool : List (ℕ × Kind)) (slots : List ShownSlot) → numbers_of (map (with_pool pool) slots) ≡ numbers_of slots
same_numbers pool slots = ap (λ (xs : List JobDevice). ds xs) (same_devices pool slots)

same_places : (pool : List (ℕ × Kind)) (slots : List ShownSlot) → ps (map (with_pool pool) slots) ≡ ps slots
same_places pool [] = refl
same_places pool (s ∷ slots) = ap (λ (xs : List ℕ). s.p ∷ xs) (same_places pool slots)

same_words : (pool : List (ℕ × Kind)) (n : ℕ) (slots : List ShownSlot) → fold (λ (a : ℕ) (s : ShownSlot). a + s.size) n (map (with_pool pool) slots)
    ≡ fold (λ (a : ℕ) (s : ShownSlot). a + s.size) n slots
same_words pool n [] = refl
same_words pool n (s ∷ slots) = same_words pool (n + s.size) slots

is_slot : (pool : List (ℕ × Kind)) (s : ShownSlot) → All (λ (x : ℕ × Kind). IsLent x) pool → IsSlot s → IsSlot (with_pool pool s)
is_slot pool s lent was = record {
  number = was.number;
  least = was.least;
  most = was.most;
  groups = was.groups;
  deck = was.deck;
  devices = was.devices;
  shows = was.shows;
  lent = lent;
}

pub shared : (pool : List (ℕ × Kind)) (slots : List ShownSlot) → All (λ (s : ShownSlot). s.pool ≡ pool) (map (with_pool pool) slots)
shared pool slots = All-map (λ (s : ShownSlot). s.pool ≡ pool) (with_pool pool) slots (λ k d lt. refl)

pub are_slots : (pool : List (ℕ × Kind)) (slots : List ShownSlot) → AreTold slots → All (λ (x : ℕ × Kind). IsLent x) pool
    → IsDistinct nat_eq (numbers_of slots ++ pool_numbers pool)
    → AreSlots (map (with_pool pool) slots)
are_slots pool slots told lent owned =
    let all = shared pool slots in
    let numbers = same_numbers pool slots in
    record {
      each = All-map IsSlot (with_pool pool) slots (λ k d lt. is_slot pool _ lent (told.each k d lt));
      rising = subst AreRising (sym (same_places pool slots)) told.rising;
      fits = let e : words_in (map (with_pool pool) slots) ≡ words_in slots = same_words pool 0 slots in let f = told.fits in omega arith;
      apart = subst (IsDistinct nat_eq) (sym numbers) told.apart;
      common = λ i j d lt within. all i d (omega arith) ∙ sym (all j d within);
      owned = λ k d lt. subst (λ (xs : List (ℕ × Kind)). IsDistinct nat_eq (numbers_of (map (with_pool pool) slots) ++ pool_numbers xs)) (sym (all k d lt))
          (subst (λ (ns : List ℕ). IsDistinct nat_eq (ns ++ pool_numbers pool)) (sym numbers) owned);
    }
