-- An order sees and changes only what it needs.
use Rattle.std.proofs.Common.{◌≡◌, ℕ, zero, suc, ◌+◌, ◌/◌, ◌%◌, ltb, Bool, true, false, List, [], ◌∷◌, ◌++◌, map, set, Option, Some, None, refl, sym, ap, ap₂}
use Rattle.std.proofs.Common.{◌∙◌, subst, ⊎_elim, cond}
use Rattle.std.specs.Prelude.{find}
use Rattle.std.specs.Option.{option_map}
use Rattle.std.specs.List.{list_any}
use Rattle.std.proofs.lemmas.Bool.{or_parts, cases_Bool, false_from_ne_true, true_from_ne_false, false≢true}
use Rattle.std.proofs.lemmas.List.{get_or-set_other, length-set}
use Rattle.std.proofs.lemmas.List.Folds.{list_any-append}
use Rattle.kdf_syllable.specs.Packing.{syllable}
use Rattle.kdf_syllable.specs.Spelling.{size_of_first}
use Rattle.kdf_word.specs.Characters.{codes_of_all}
use Rattle.kdf_media.specs.Media.{through_end}
use Rattle.kdf_transfer.specs.AtOnce.{order_words, device_after}
use Rattle.kdf_transfer.specs.Devices.{Fixture, new_progress, test_of}
use Rattle.kdf_transfer.specs.declared.order.TransferOrder.{TransferOrder}
use Rattle.kdf_processor.specs.declared.registers.Life.TheVariants.{Ended, Failed}
use Rattle.kdf_journal.specs.declared.need.Need.{Need}
use Rattle.kdf_journal.specs.declared.need.Need.TheVariants.{Group, Device}
use Rattle.kdf_processor.specs.declared.registers.Registers.{Registers}
use Rattle.kdf_processor.specs.declared.spooled.Spooled.{Spooled}
use Rattle.kdf_processor.specs.State.{State, Claims, StintState, word_at, device_at, fixture_at}
use Rattle.kdf_processor.specs.Claims.{taken_device}
use Rattle.kdf_processor.specs.Effect.{Question, FreeOf, Effect, Failing, Ending, Changing, Fetching, Keeping, Testing, Starting, Asking, Claiming, Returning}
use Rattle.kdf_processor.specs.Effect.{Spooling}
use Rattle.kdf_processor.specs.Table.{syllable_after}
use Rattle.kdf_processor.specs.Needs.{group_of, decoded_or_none, effect_or_liv, syllable_at, syllables, syllable_needs, count_at, fetch_needs, effect_at}
use Rattle.kdf_processor.specs.Needs.{effect_needs, next_effect, needs}
use Rattle.kdf_processor.specs.Outcome.{counted}
use Rattle.kdf_processor.specs.Row.{answered, handed, released, transferred, area_words, perform, row}
use Rattle.kdf_processor.specs.View.{order_groups}
use Rattle.kdf_processor.specs.Frame.{Agrees, Leaves, HidesNone}
use Rattle.kdf_processor.proofs.AreaLemmas.{WordsAgree, set_agree, area_agree, order_words_agree, length-stored, stored_agree, stored_apart}

words_agree : (hidden : Need → Bool) (s t : State) → Agrees hidden s t → WordsAgree hidden s.stock.store t.stock.store
words_agree hidden s t h = record { size = h.size; words = h.words }

-- a transfer leaves states that agree such, if neither its device nor a group of its area is hidden
transfer_agree : (hidden : Need → Bool) (d : ℕ) (o : TransferOrder) (first last : ℕ) (f : Option Fixture) (r r' : Registers) (s t : State) → r ≡ r'
    → Agrees hidden s t → HidesNone hidden (Device d ∷ map Group (order_groups o first last))
    → Agrees hidden (record { registers = r; stock = transferred d o first last f s.stock })
    (record { registers = r'; stock = transferred d o first last f t.stock })
transfer_agree hidden d o first last None r r' s t e h none =
    record {
      registers = e;
      claims = h.claims;
      spooled = h.spooled;
      asked = h.asked;
      stints = h.stints;
      size = h.size;
      number = h.number;
      words =
          h.words;
      devices = h.devices;
    }
transfer_agree hidden d o first last (Some f) r r' s t e h none =
    let parts = or_parts _ _ none in
    let device = h.devices d parts.0 in
    let words = order_words_agree hidden s.stock.store t.stock.store o first last (words_agree hidden s t h) parts.1 in
    let same : device_after o first last (order_words o first last s.stock.store) f (device_at s d) ≡ device_after o first last
    (order_words o first last t.stock.store) f (device_at t d) = ap₂ (λ ws p. device_after o first last ws f p) words device in
    record {
      registers = e;
      claims = h.claims;
      spooled = h.spooled;
      asked = h.asked;
      stints = h.stints;
      size = length-stored o first last f (device_at s d) s.stock.store ∙ h.size ∙ sym (length-stored o first last f (device_at t d) t.stock.store);
      number = simp (length-set, h.number);
      words = λ x free. rw device (stored_agree o first last f (device_at t d) hidden s.stock.store t.stock.store x (words_agree hidden s t h) parts.1 free);
      devices = λ x free. rw same (set_agree s.stock.devices t.stock.devices d _ new_progress x h.number (h.devices x free));
    }

-- and so does an answer
answered_agree : (hidden : Need → Bool) (question : Question) (a : ℕ) (r r' : Registers) (s t : State) → r ≡ r' → Agrees hidden s t
    → Agrees hidden (record { registers = r; stock = answered question a s.stock }) (record { registers = r'; stock = answered question a t.stock })
answered_agree hidden (FreeOf kind) a r r' s t e h =
    record {
      registers = e;
      claims = ap (λ (c : Claims). record c { claimed = set c.claimed (taken_device c kind a) true }) h.claims;
      spooled = h.spooled;
      asked = ap (λ n. n + 1) h.asked;
      stints = ap₂ (λ (c : Claims) (xs : List StintState). xs ++ record { device = taken_device c kind a; left = None } ∷ []) h.claims h.stints;
      size = h.size;
      number = h.number;
      words = h.words;
      devices = h.devices;
    }
answered_agree hidden question a r r' s t e h =
    record {
      registers = e;
      claims = h.claims;
      spooled = h.spooled;
      asked = ap (λ n. n + 1) h.asked;
      stints = h.stints;
      size = h.size;
      number =
          h.number;
      words = h.words;
      devices = h.devices;
    }

-- and a device that is given back, if it isn't hidden
released_agree : (hidden : Need → Bool) (pooled : Bool) (d : ℕ) (r r' : Registers) (s t : State) → r ≡ r' → Agrees hidden s t → hidden (Device d) ≡ false
    → Agrees hidden (record { registers = r; stock = released pooled d s.stock }) (record { registers = r'; stock = released pooled d t.stock })
released_agree hidden false d r r' s t e h free =
    record {
      registers = e;
      claims = ap (λ (c : Claims). record c { claimed = set c.claimed d false }) h.claims;
      spooled = h.spooled;
      asked = h.asked;
      stints = h.stints;
      size = h.size;
      number = h.number;
      words = h.words;
      devices = h.devices;
    }
released_agree hidden true d r r' s t e h free =
    record {
      registers = e;
      claims = ap (λ (c : Claims). record c { claimed = set c.claimed d false }) h.claims;
      spooled = h.spooled;
      asked = h.asked;
      stints = ap₂ (λ p (xs : List StintState). map (handed d p) xs) (h.devices d free) h.stints;
      size = h.size;
      number = simp (length-set, h.number);
      words = h.words;
      devices = λ x seen. set_agree s.stock.devices t.stock.devices d new_progress new_progress x h.number (h.devices x seen);
    }

-- an effect leaves states that agree such, if nothing that it needs is hidden
pub perform_agree : (hidden : Need → Bool) (mine : List ℕ) (answer : Question → ℕ) (e : Effect) (s t : State) → Agrees hidden s t
    → HidesNone hidden (effect_needs mine e) → Agrees hidden (perform answer e s) (perform answer e t)
perform_agree hidden mine answer (Failing kind) s t h none =
    record {
      registers = ap (λ (r : Registers). counted r (Failed kind) r) h.registers;
      claims = h.claims;
      spooled = h.spooled;
      asked = h.asked;
      stints =
          h.stints;
      size = h.size;
      number = h.number;
      words = h.words;
      devices = h.devices;
    }
perform_agree hidden mine answer (Ending after) s t h none =
    record {
      registers = ap (λ (r : Registers). counted r Ended after) h.registers;
      claims = h.claims;
      spooled = h.spooled;
      asked = h.asked;
      stints =
          h.stints;
      size = h.size;
      number = h.number;
      words = h.words;
      devices = h.devices;
    }
perform_agree hidden mine answer (Changing after) s t h none =
    record {
      registers = ap (λ (r : Registers). counted r r.state after) h.registers;
      claims = h.claims;
      spooled = h.spooled;
      asked = h.asked;
      stints =
          h.stints;
      size = h.size;
      number = h.number;
      words = h.words;
      devices = h.devices;
    }
perform_agree hidden mine answer (Fetching a after) s t h none =
    record {
      registers = ap₂ (λ (r : Registers) w. counted r r.state (after w)) h.registers (h.words a (or_parts _ _ none).0);
      claims = h.claims;
      spooled =
          h.spooled;
      asked = h.asked;
      stints = h.stints;
      size = h.size;
      number = h.number;
      words = h.words;
      devices = h.devices;
    }
perform_agree hidden mine answer (Keeping a w after) s t h none =
    let same : w (word_at s a) ≡ w (word_at t a) = ap w (h.words a (or_parts _ _ none).0) in
    record {
      registers = ap (λ (r : Registers). counted r r.state after) h.registers;
      claims = h.claims;
      spooled = h.spooled;
      asked = h.asked;
      stints = h.stints;
      size = simp (length-set, h.size);
      number = h.number;
      words = λ x free. rw same (set_agree s.stock.store t.stock.store a (w (word_at t a)) 0 x h.size (h.words x free));
      devices = h.devices;
    }
perform_agree hidden mine answer (Testing d what after) s t h none =
    record {
      registers = ap₂ (λ (r : Registers) p. counted r r.state (after (test_of what p))) h.registers (h.devices d (or_parts _ _ none).0);
      claims =
          h.claims;
      spooled = h.spooled;
      asked = h.asked;
      stints = h.stints;
      size = h.size;
      number = h.number;
      words = h.words;
      devices = h.devices;
    }
perform_agree hidden mine answer (Starting d o first last after) s t h none =
    let e : counted s.registers s.registers.state after ≡ counted t.registers t.registers.state after =
    ap (λ (r : Registers). counted r r.state after) h.registers in
    subst
    (λ (c : Claims). Agrees hidden (perform answer (Starting d o first last after) s)
    (record { registers = counted t.registers t.registers.state after; stock = transferred d o first last (fixture_at c d) t.stock }))
    h.claims
    (transfer_agree hidden d o first last (fixture_at s.stock.claims d) (counted s.registers s.registers.state after)
    (counted t.registers t.registers.state after) s t e h none)
perform_agree hidden mine answer (Asking question after) s t h none =
    answered_agree hidden question (answer question) (counted s.registers s.registers.state (after (answer question)))
    (counted t.registers t.registers.state (after (answer question))) s t (ap (λ (r : Registers). counted r r.state (after (answer question))) h.registers)
    h
perform_agree hidden mine answer (Claiming d after) s t h none =
    record {
      registers = ap (λ (r : Registers). counted r r.state after) h.registers;
      claims = ap (λ (c : Claims). record c { claimed = set c.claimed d true }) h.claims;
      spooled = h.spooled;
      asked = h.asked;
      stints = h.stints;
      size = h.size;
      number = h.number;
      words = h.words;
      devices = h.devices;
    }
perform_agree hidden mine answer (Returning pooled d after) s t h none =
    released_agree hidden pooled d (counted s.registers s.registers.state after) (counted t.registers t.registers.state after) s t
    (ap (λ (r : Registers). counted r r.state after) h.registers) h (or_parts _ _ none).0
perform_agree hidden mine answer (Spooling stream first last after) s t h none =
    let same : area_words first last s.stock ≡ area_words first last t.stock = area_agree hidden s.stock.store t.stock.store first last
    (words_agree hidden s t h) none in
    record {
      registers = ap (λ (r : Registers). counted r r.state after) h.registers;
      claims = h.claims;
      spooled = ap₂ (λ words (texts : List Spooled). texts ++ record { stream = stream; text = through_end (codes_of_all words) } ∷ []) same h.spooled;
      asked = h.asked;
      stints = h.stints;
      size = h.size;
      number = h.number;
      words = h.words;
      devices = h.devices;
    }

-- a transfer leaves what is hidden as it was, if neither its device nor a group of its area is hidden
transfer_leaves : (hidden : Need → Bool) (d : ℕ) (o : TransferOrder) (first last : ℕ) (f : Option Fixture) (r : Registers) (s : State)
    → HidesNone hidden (Device d ∷ map Group (order_groups o first last))
    → Leaves hidden s (record { registers = r; stock = transferred d o first last f s.stock })
transfer_leaves hidden d o first last None r s none =
    record { size = refl; number = refl; words = λ x is. refl; devices = λ x is. refl }
transfer_leaves hidden d o first last (Some f) r s none =
    let parts = or_parts _ _ none in
    record {
      size = sym (length-stored o first last f (device_at s d) s.stock.store);
      number = sym (length-set s.stock.devices d _);
      words = λ x is. stored_apart o first last f (device_at s d) hidden s.stock.store x parts.1 is;
      devices = λ x is. get_or-set_other s.stock.devices d x _ new_progress (λ e. false≢true (sym parts.0 ∙ (ap (λ y. hidden (Device y)) (sym e) ∙ is)));
    }

answered_leaves : (hidden : Need → Bool) (question : Question) (a : ℕ) (r : Registers) (s : State)
    → Leaves hidden s (record { registers = r; stock = answered question a s.stock })
answered_leaves hidden (FreeOf kind) a r s = record { size = refl; number = refl; words = λ x is. refl; devices = λ x is. refl }
answered_leaves hidden question a r s = record { size = refl; number = refl; words = λ x is. refl; devices = λ x is. refl }

released_leaves : (hidden : Need → Bool) (pooled : Bool) (d : ℕ) (r : Registers) (s : State) → hidden (Device d) ≡ false
    → Leaves hidden s (record { registers = r; stock = released pooled d s.stock })
released_leaves hidden false d r s free = record { size = refl; number = refl; words = λ x is. refl; devices = λ x is. refl }
released_leaves hidden true d r s free =
    record {
      size = refl;
      number = sym (length-set s.stock.devices d new_progress);
      words = λ x is. refl;
      devices = λ x is. get_or-set_other s.stock.devices d x new_progress new_progress
          (λ e. false≢true (sym free ∙ (ap (λ y. hidden (Device y)) (sym e) ∙ is)));
    }

-- an effect leaves what is hidden as it was, if nothing that it needs is hidden
pub perform_leaves : (hidden : Need → Bool) (mine : List ℕ) (answer : Question → ℕ) (e : Effect) (s : State) → HidesNone hidden (effect_needs mine e)
    → Leaves hidden s (perform answer e s)
perform_leaves hidden mine answer (Keeping a w after) s none =
    record {
      size = sym (length-set s.stock.store a (w (word_at s a)));
      number = refl;
      words = λ x is. get_or-set_other s.stock.store a x (w (word_at s a)) 0
          (λ e. false≢true (sym (or_parts _ _ none).0 ∙ (ap (λ y. hidden (Group (group_of y))) (sym e) ∙ is)));
      devices = λ d is. refl;
    }
perform_leaves hidden mine answer (Starting d o first last after) s none =
    transfer_leaves hidden d o first last (fixture_at s.stock.claims d) (counted s.registers s.registers.state after) s none
perform_leaves hidden mine answer (Asking question after) s none =
    answered_leaves hidden question (answer question) (counted s.registers s.registers.state (after (answer question))) s
perform_leaves hidden mine answer (Returning pooled d after) s none =
    released_leaves hidden pooled d (counted s.registers s.registers.state after) s (or_parts _ _ none).0
perform_leaves hidden mine answer e s none =
    record { size = refl; number = refl; words = λ a is. refl; devices = λ d is. refl }

-- the same syllables are read in two stores, if no group of theirs is hidden
module _ (hidden : Need → Bool) (s t : State) (h : Agrees hidden s t) where
  pub syllables_agree : (n size at : ℕ) → list_any hidden (syllable_needs n size at) ≡ false → syllables n size (word_at s) at ≡ syllables n size (word_at t) at
  syllables_agree zero size at none = refl
  syllables_agree (suc n) size at none =
      ⊎_elim
      (λ (inside : ltb (at / 6) size ≡ true).
      let parts =
      or_parts _ _ (subst (λ b. list_any hidden (cond b (Group (group_of (at / 6)) ∷ syllable_needs n size (syllable_after at 1)) []) ≡ false) inside none)
      in
      ap (λ b. cond b (option_map (λ rest. syllable_at (word_at s) at ∷ rest) (syllables n size (word_at s) (syllable_after at 1))) None) inside
      ∙ ap₂ (λ w rest. option_map (λ more. syllable w (at % 6) ∷ more) rest) (h.words (at / 6) parts.0) (syllables_agree n size (syllable_after at 1) parts.1)
      ∙ sym (ap (λ b. cond b (option_map (λ rest. syllable_at (word_at t) at ∷ rest) (syllables n size (word_at t) (syllable_after at 1))) None) inside))
      (λ (outside : ltb (at / 6) size ≡ false).
      ap (λ b. cond b (option_map (λ rest. syllable_at (word_at s) at ∷ rest) (syllables n size (word_at s) (syllable_after at 1))) None) outside
      ∙ sym (ap (λ b. cond b (option_map (λ rest. syllable_at (word_at t) at ∷ rest) (syllables n size (word_at t) (syllable_after at 1))) None) outside))
      (cases_Bool (ltb (at / 6) size))

  -- the same number of syllables
  pub count_agree : (size at : ℕ) → (ltb (at / 6) size ≡ true → hidden (Group (group_of (at / 6))) ≡ false)
      → count_at size (word_at s) at ≡ count_at size (word_at t) at
  count_agree size at free =
      ⊎_elim
      (λ (inside : ltb (at / 6) size ≡ true).
      ap (λ w. cond (ltb (at / 6) size) (size_of_first (syllable w (at % 6))) 1) (h.words (at / 6) (free inside)))
      (λ (outside : ltb (at / 6) size ≡ false).
      ap (λ b. cond b (size_of_first (syllable_at (word_at s) at)) 1) outside ∙ sym (ap (λ b. cond b (size_of_first (syllable_at (word_at t) at)) 1) outside))
      (cases_Bool (ltb (at / 6) size))

-- an order has a syllable
size_more : (x y : Bool) → (n : ℕ) × (cond x 1 (cond y 2 3) ≡ suc n)
size_more true y = (0, refl)
size_more false true = (1, refl)
size_more false false = (2, refl)

-- how many syllables an order inside the store has, less one
count_more : (size : ℕ) (word : ℕ → ℕ) (at : ℕ) → ltb (at / 6) size ≡ true → (n : ℕ) × (count_at size word at ≡ suc n)
count_more size word at inside =
    let n = size_more (ltb (syllable_at word at) 64) (ltb (syllable_at word at) 128) in
    (n.0, ap (λ b. cond b (size_of_first (syllable_at word at)) 1) inside ∙ n.1)

-- the group of the first syllable is among those of the order
first_apart : (hidden : Need → Bool) (size : ℕ) (word : ℕ → ℕ) (at : ℕ) → ltb (at / 6) size ≡ true → HidesNone hidden (fetch_needs size word at)
    → hidden (Group (group_of (at / 6))) ≡ false
first_apart hidden size word at inside none =
    let n = count_more size word at inside in
    let by_count = subst (λ k. HidesNone hidden (syllable_needs k size at)) n.1 none in
    (or_parts _ _ (subst (λ b. HidesNone hidden (cond b (Group (group_of (at / 6)) ∷ syllable_needs n.0 size (syllable_after at 1)) [])) inside by_count)).0

-- the next orders of two states that agree have the same syllables, and do the same
module _ (hidden : Need → Bool) (s t : State) (h : Agrees hidden s t) (none : HidesNone hidden (fetch_needs s.stock.claims.size (word_at s) s.registers.at))
  where
    counts_agree : count_at s.stock.claims.size (word_at s) s.registers.at ≡ count_at s.stock.claims.size (word_at t) s.registers.at
    counts_agree = count_agree hidden s t h s.stock.claims.size s.registers.at
        (λ inside. first_apart hidden s.stock.claims.size (word_at s) s.registers.at inside none)

    bytes_agree : syllables (count_at s.stock.claims.size (word_at s) s.registers.at) s.stock.claims.size (word_at s) s.registers.at
        ≡ syllables (count_at s.stock.claims.size (word_at t) s.registers.at) s.stock.claims.size (word_at t) s.registers.at
    bytes_agree =
        syllables_agree hidden s t h (count_at s.stock.claims.size (word_at s) s.registers.at) s.stock.claims.size s.registers.at none
        ∙ ap (λ n. syllables n s.stock.claims.size (word_at t) s.registers.at) counts_agree

    pub effect_agree : next_effect s ≡ next_effect t
    effect_agree =
        ap (λ spelt. effect_or_liv s.stock.claims s.registers (decoded_or_none spelt)) bytes_agree
        ∙ ap₂ (λ (c : Claims) (r : Registers). effect_at c (word_at t) r) h.claims h.registers

    pub fetch_agree : fetch_needs s.stock.claims.size (word_at s) s.registers.at ≡ fetch_needs t.stock.claims.size (word_at t) t.registers.at
    fetch_agree =
        ap (λ n. syllable_needs n s.stock.claims.size s.registers.at) counts_agree
        ∙ ap₂ (λ (c : Claims) (r : Registers). fetch_needs c.size (word_at t) r.at) h.claims h.registers

abbrev fetch_of : State → List Need
fetch_of s = fetch_needs s.stock.claims.size (word_at s) s.registers.at

-- the first part of the law
module _ (hidden : Need → Bool) (mine : List ℕ) (s t : State) (h : Agrees hidden s t) (none : HidesNone hidden (needs s mine)) where
  parts : HidesNone hidden (fetch_of s) × HidesNone hidden (effect_needs mine (next_effect s))
  parts = or_parts _ _ (sym (list_any-append hidden (fetch_of s) (effect_needs mine (next_effect s))) ∙ none)

  same_effect : next_effect s ≡ next_effect t
  same_effect = effect_agree hidden s t h parts.0

  pub needs_agree : needs t mine ≡ needs s mine
  needs_agree = sym (ap₂ (λ xs e. xs ++ effect_needs mine e) (fetch_agree hidden s t h parts.0) same_effect)

  pub row_agree : (answer : Question → ℕ) → Agrees hidden (row s answer) (row t answer)
  row_agree answer = subst (λ e. Agrees hidden (row s answer) (perform answer e t)) same_effect (perform_agree hidden mine answer (next_effect s) s t h parts.1)

pub row_leaves : (hidden : Need → Bool) (mine : List ℕ) (answer : Question → ℕ) (s : State) → HidesNone hidden (needs s mine) → Leaves hidden s (row s answer)
row_leaves hidden mine answer s none =
    perform_leaves hidden mine answer (next_effect s) s (or_parts _ _ (sym (list_any-append hidden (fetch_of s) (effect_needs mine (next_effect s))) ∙ none)).1

-- hiding less is agreeing in more
pub agree_under : (hidden wanted : Need → Bool) (s t : State) → ((n : Need) → hidden n ≡ true → wanted n ≡ true) → Agrees hidden s t → Agrees wanted s t
agree_under hidden wanted s t more h =
    record {
      registers = h.registers;
      claims = h.claims;
      spooled = h.spooled;
      asked = h.asked;
      stints = h.stints;
      size = h.size;
      number = h.number;
      words = λ a free. h.words a (false_from_ne_true _ (λ is. false≢true (sym free ∙ more (Group (group_of a)) is)));
      devices = λ d free. h.devices d (false_from_ne_true _ (λ is. false≢true (sym free ∙ more (Device d) is)));
    }

-- what is found in a list is found in a longer one
find_front : {X : Type 0} (p : X → Bool) (xs ys zs : List X) → list_any p xs ≡ true → find p (xs ++ ys) ≡ find p (xs ++ zs)
find_front p [] ys zs any = cc
find_front p (x ∷ xs) ys zs any =
    ⊎_elim
    (λ (is : p x ≡ true). rw is refl)
    (λ (not : p x ≡ false). let later : list_any p xs ≡ true = rw not at any in rw not (find_front p xs ys zs later))
    (cases_Bool (p x))

-- the first syllable's group comes first
found_first : (wanted : Need → Bool) (size : ℕ) (word : ℕ → ℕ) (at : ℕ) (rest : List Need) → ltb (at / 6) size ≡ true
    → wanted (Group (group_of (at / 6))) ≡ true → find wanted (fetch_needs size word at ++ rest) ≡ Some (Group (group_of (at / 6)))
found_first wanted size word at rest inside is =
    let n = count_more size word at inside in
    ap (λ k. find wanted (syllable_needs k size at ++ rest)) n.1
    ∙ ap (λ b. find wanted (cond b (Group (group_of (at / 6)) ∷ syllable_needs n.0 size (syllable_after at 1)) [] ++ rest)) inside
    ∙ ap (λ b. cond b (Some (Group (group_of (at / 6)))) (find wanted (syllable_needs n.0 size (syllable_after at 1) ++ rest))) is

none_outside : (wanted : Need → Bool) (size : ℕ) (word : ℕ → ℕ) (at : ℕ) → ltb (at / 6) size ≡ false → list_any wanted (fetch_needs size word at) ≡ false
none_outside wanted size word at outside =
    ap (λ b. list_any wanted (syllable_needs (cond b (size_of_first (syllable_at word at)) 1) size at)) outside
    ∙ ap (λ b. list_any wanted (cond b (Group (group_of (at / 6)) ∷ []) [])) outside

-- the second part of the law
pub first_agree : (wanted : Need → Bool) (mine : List ℕ) (s t : State) → Agrees wanted s t → find wanted (needs s mine) ≡ find wanted (needs t mine)
first_agree wanted mine s t h =
    ⊎_elim
    (λ (is : list_any wanted (fetch_of s) ≡ true). first_among is)
    (λ (none : list_any wanted (fetch_of s) ≡ false).
    ap₂ (λ xs e. find wanted (xs ++ effect_needs mine e)) (fetch_agree wanted s t h none) (effect_agree wanted s t h none))
    (cases_Bool (list_any wanted (fetch_of s)))
  where
    first_among : list_any wanted (fetch_of s) ≡ true → find wanted (needs s mine) ≡ find wanted (needs t mine)
    first_among is =
        ⊎_elim
        (λ (locked : wanted (Group (group_of (s.registers.at / 6))) ≡ true).
        let inside : ltb (s.registers.at / 6) s.stock.claims.size ≡ true =
        true_from_ne_false _ (λ outside. false≢true (sym (none_outside wanted s.stock.claims.size (word_at s) s.registers.at outside) ∙ is)) in
        found_first wanted s.stock.claims.size (word_at s) s.registers.at (effect_needs mine (next_effect s)) inside locked
        ∙ sym (found_first wanted s.stock.claims.size (word_at t) s.registers.at (effect_needs mine (next_effect t)) inside locked)
        ∙ ap₂ (λ (c : Claims) (r : Registers). find wanted (fetch_needs c.size (word_at t) r.at ++ effect_needs mine (next_effect t))) h.claims h.registers)
        (λ (free : wanted (Group (group_of (s.registers.at / 6))) ≡ false).
        let counts = count_agree wanted s t h s.stock.claims.size s.registers.at (λ _. free) in
        let same : fetch_of s ≡ fetch_of t = ap (λ n. syllable_needs n s.stock.claims.size s.registers.at) counts
        ∙ ap₂ (λ (c : Claims) (r : Registers). fetch_needs c.size (word_at t) r.at) h.claims h.registers in
        find_front wanted (fetch_of s) (effect_needs mine (next_effect s)) (effect_needs mine (next_effect t)) is
        ∙ ap (λ xs. find wanted (xs ++ effect_needs mine (next_effect t))) same)
        (cases_Bool (wanted (Group (group_of (s.registers.at / 6)))))
