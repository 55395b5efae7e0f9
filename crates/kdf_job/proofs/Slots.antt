-- Slots with one more after them, and with another in place of the last.
use Rattle.std.proofs.Common.{◌≡◌, ℕ, ◌+◌, ◌<◌, ◌≤◌, false, List, [], ◌∷◌, ◌++◌, map, sym, ap, subst, ◌∙◌, arith, length-append, append_assoc, append-nil}
use Rattle.std.specs.Prelude.{nat_eq}
use Rattle.std.specs.List.{All, IsDistinct, flat_map, list_any}
use Rattle.std.proofs.lemmas.Cmp.{nat_eq_equiv}
use Rattle.std.proofs.lemmas.Grind.{flat_map-append}
use Rattle.std.proofs.lemmas.List.{get_or_append_left, map-append}
use Rattle.std.proofs.lemmas.List.Elements.{All-push}
use Rattle.std.proofs.lemmas.List.Sums.{sum_by-append}
use Rattle.std.proofs.lemmas.Map.Keys.{IsDistinct-push}
use Rattle.kdf_job.specs.Job.{JobDevice, ShownSlot}
use Rattle.kdf_job.specs.Draft.{numbers_of, words_in}
use Rattle.kdf_job.specs.Kept.{AreTold}
use Rattle.kdf_job.specs.WellFormed.{AreRising, IsSlot}
use Rattle.kdf_job.specs.Limits.{most_words_together}

abbrev pub ps : List ShownSlot → List ℕ
ps slots = map (λ (s : ShownSlot). s.p) slots

abbrev pub ds : List JobDevice → List ℕ
ds devices = map (λ (x : JobDevice). x.d) devices

pub numbers_last : (front : List ShownSlot) (s : ShownSlot) → numbers_of (front ++ s ∷ []) ≡ numbers_of front ++ ds s.devices
numbers_last front s =
    ap (λ (xs : List JobDevice). ds xs) (flat_map-append (λ (x : ShownSlot). x.devices) front (s ∷ [])
    ∙ ap (λ (xs : List JobDevice). flat_map (λ (x : ShownSlot). x.devices) front ++ xs) (append-nil s.devices))
    ∙ map-append (λ (x : JobDevice). x.d) (flat_map (λ (x : ShownSlot). x.devices) front) s.devices

pub words_last : (front : List ShownSlot) (s : ShownSlot) → words_in (front ++ s ∷ []) ≡ words_in front + s.size
words_last front s = let e = sum_by-append (λ (x : ShownSlot). x.size) front (s ∷ []) in omega arith

ps_last : (front : List ShownSlot) (s : ShownSlot) → ps (front ++ s ∷ []) ≡ ps front ++ s.p ∷ []
ps_last front s = map-append (λ (x : ShownSlot). x.p) front (s ∷ [])

-- what holds of each element of a list holds of each of its front, and of the last
all_front : {X : Type 0} (P : X → Type 0) (xs : List X) (x : X) → All P (xs ++ x ∷ []) → All P xs
all_front P xs x all = λ k d lt. subst P (get_or_append_left xs (x ∷ []) d k lt) (all k d (let n = length-append xs (x ∷ []) in omega arith))

-- another slot in place of the last
pub slots_changed : (front : List ShownSlot) (s t : ShownSlot) → AreTold (front ++ s ∷ []) → t.p ≡ s.p → t.size ≡ s.size → IsSlot t
    → IsDistinct nat_eq (numbers_of (front ++ t ∷ []))
    → AreTold (front ++ t ∷ [])
slots_changed front s t was p size slot apart = record {
  each = All-push IsSlot front t (all_front IsSlot front s was.each) slot;
  rising = subst AreRising (ps_last front s ∙ ap (λ (q : ℕ). ps front ++ q ∷ []) (sym p) ∙ sym (ps_last front t)) was.rising;
  fits = let e = words_last front s in let f = words_last front t in let g = was.fits in omega arith;
  apart = apart;
}

pub numbers_same : (front : List ShownSlot) (s t : ShownSlot) → ds t.devices ≡ ds s.devices → numbers_of (front ++ t ∷ []) ≡ numbers_of (front ++ s ∷ [])
numbers_same front s t e = numbers_last front t ∙ ap (λ (xs : List ℕ). numbers_of front ++ xs) e ∙ sym (numbers_last front s)

pub numbers_more : (front : List ShownSlot) (s t : ShownSlot) (n : ℕ) → ds t.devices ≡ ds s.devices ++ n ∷ []
    → numbers_of (front ++ t ∷ []) ≡ numbers_of (front ++ s ∷ []) ++ n ∷ []
numbers_more front s t n e =
    numbers_last front t ∙ ap (λ (xs : List ℕ). numbers_of front ++ xs) e ∙ sym (append_assoc (numbers_of front) (ds s.devices) (n ∷ []))
    ∙ ap (λ (xs : List ℕ). xs ++ n ∷ []) (sym (numbers_last front s))

pub apart_more : (numbers : List ℕ) (n : ℕ) → IsDistinct nat_eq numbers → list_any (nat_eq n) numbers ≡ false → IsDistinct nat_eq (numbers ++ n ∷ [])
apart_more numbers n was new = IsDistinct-push nat_eq_equiv numbers n was new

-- a slot without devices more
rising_push : (qs : List ℕ) (q p : ℕ) → AreRising (qs ++ q ∷ []) → q < p → AreRising ((qs ++ q ∷ []) ++ p ∷ [])
rising_push [] q p r lt = (lt, tt {0})
rising_push (a ∷ []) q p r lt = (r.0, (lt, tt {0}))
rising_push (a ∷ b ∷ qs) q p r lt = (r.0, rising_push (b ∷ qs) q p r.1 lt)

pub slots_first : (t : ShownSlot) → IsSlot t → t.devices ≡ [] → AreTold (t ∷ [])
unfolding IsDistinct
slots_first t slot none = record {
  each = All-push IsSlot [] t (λ k d lt. absurd (omega arith)) slot;
  rising = tt {0};
  fits = let most = slot.most in omega arith;
  apart = subst (IsDistinct nat_eq) (sym (numbers_last [] t ∙ ap (λ (xs : List JobDevice). ds xs) none)) (tt {0});
}

pub slots_more : (front : List ShownSlot) (s t : ShownSlot) → AreTold (front ++ s ∷ []) → s.p < t.p → IsSlot t → t.devices ≡ []
    → words_in (front ++ s ∷ []) + t.size ≤ most_words_together
    → AreTold ((front ++ s ∷ []) ++ t ∷ [])
slots_more front s t was p slot none fits =
    let all = front ++ s ∷ [] in
    record {
      each = All-push IsSlot all t was.each slot;
      rising =
          let r : AreRising (ps front ++ s.p ∷ []) = subst AreRising (ps_last front s) was.rising in
          subst AreRising (ap (λ (xs : List ℕ). xs ++ t.p ∷ []) (sym (ps_last front s)) ∙ sym (ps_last all t)) (rising_push (ps front) s.p t.p r p);
      fits = let e = words_last all t in omega arith;
      apart = subst (IsDistinct nat_eq) (sym (numbers_none all t none)) was.apart;
    }
  where
    numbers_none : (all : List ShownSlot) (t : ShownSlot) → t.devices ≡ [] → numbers_of (all ++ t ∷ []) ≡ numbers_of all
    numbers_none all t none = numbers_last all t ∙ ap (λ (xs : List JobDevice). numbers_of all ++ ds xs) none ∙ append-nil (numbers_of all)
