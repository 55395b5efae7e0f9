-- What is kept stays true with a line of each form that tells of a slot.
use Rattle.std.proofs.Common.{◌≡◌, ℕ, ◌+◌, ◌<◌, ◌≤◌, ◌%◌, Bool, true, false, cond, List, [], ◌∷◌, ◌++◌, length, Option, Some, None, Result, Ok, Err, refl, sym}
use Rattle.std.proofs.Common.{ap, subst, ◌∙◌, arith, length-append}
use Rattle.std.specs.Prelude.{codes, is_none, is_some, nat_eq}
use Rattle.std.specs.Option.{option_map, option_to_list}
use Rattle.std.specs.List.{All, list_any}
use Rattle.std.proofs.lemmas.List.{length_push, map-append}
use Rattle.std.proofs.lemmas.List.Elements.{All-push}
use Rattle.std.proofs.lemmas.Bool.Decides.{nat_tests}
use Rattle.kdf_code.specs.Code.{code_of}
use Rattle.kdf_text.specs.Lines.{is_text}
use Rattle.kdf_tape.specs.Tape.{Recorded}
use Rattle.kdf_word.specs.Characters.{words_of}
use Rattle.kdf_journal.specs.declared.kind.Kind.{Kind}
use Rattle.kdf_journal.specs.declared.kind.Kind.TheVariants.{Tr, Tp, Cr, Lp, Mt}
use Rattle.kdf_job.specs.declared.draft.Draft.{Draft}
use Rattle.kdf_job.specs.declared.fault.JobFault.TheVariants.{BadMedium}
use Rattle.kdf_job.specs.declared.line_error.LineError.{LineError}
use Rattle.kdf_job.specs.declared.line_error.LineError.TheVariants.{Fault, Memory}
use Rattle.kdf_job.specs.declared.line_place.LinePlace.{LinePlace}
use Rattle.kdf_job.specs.declared.line_place.LinePlace.TheVariants.{BehindSlot, InDeck}
use Rattle.kdf_job.specs.Adding.{IsChecked}
use Rattle.kdf_job.specs.Draft.{ShownSlotDraft, ShownDraft, all_devices, device_fault, fault_of, medium_fault, new_slot, number_at, numbers_told, show_fault}
use Rattle.kdf_job.specs.Draft.{slots_told}
use Rattle.kdf_job.specs.Draft.{store_fault, tells, with_line, with_line_of_medium, words_in}
use Rattle.kdf_job.specs.Forms.{Form, ADeckLine, ADevice, AMedium, AService, AShow, AStore, told_at}
use Rattle.kdf_job.specs.Job.{JobDevice, ShownSlot}
use Rattle.kdf_job.specs.Kept.{IsKept, IsPlaced, IsUntold}
use Rattle.kdf_job.specs.Lengths.{device_length, kept_length, medium_length, slot_length, spared, weight}
use Rattle.kdf_media.specs.Media.{card_of}
use Rattle.kdf_job.specs.Media.{added, codes_in, filled, fits, new_device, with_code, with_codes, with_medium, word_of_text}
use Rattle.kdf_job.specs.Reading.{or_fault}
use Rattle.kdf_job.specs.Shows.{shown_draft}
use Rattle.kdf_job.specs.Taking.{IsSound, Taken, Takes}
use Rattle.kdf_job.specs.WellFormed.{IsShow}
use Rattle.kdf_job.proofs.Slots.{ds}
use Rattle.kdf_job.proofs.Steps.{current_slot, device_told, slot_told, store_told, told_alone}
use Rattle.kdf_job.specs.Limits.{most_words, most_words_together}

-- a form without a fault
pub taken : (form : Form) (room : ℕ) (old new : Draft) → fault_of form (shown_draft old) ≡ None → shown_draft new ≡ with_line form (shown_draft old)
    → IsKept new.words new.numbers.items (with_line form (shown_draft old)) → weight (with_line form (shown_draft old)) ≤ weight (shown_draft old) + room
    → Taken (Ok form) room old new
taken form room old new faultless is kept grown = record {
  is = ap (or_fault form (shown_draft old)) faultless ∙ ap Ok (sym is);
  sound = subst (IsKept new.words new.numbers.items) (sym is) kept;
  grown = let e = ap weight is in omega arith;
}

pub some_slot : (o : Option ShownSlotDraft) → is_some o ≡ true → (s : ShownSlotDraft) × (o ≡ Some s)
some_slot None h = absurd cc
some_slot (Some s) h = (s, refl)

-- ---- `SHOW a b`
show_kept : (words : ℕ) (numbers : List ℕ) (d : ShownDraft) (s : ShownSlotDraft) (a b : ℕ) → IsKept words numbers d → d.pool ≡ [] → d.slot ≡ Some s
    → show_fault a b s.size ≡ None → IsKept words numbers (with_line (AShow a b) d)
show_kept words numbers d s a b was none is faultless =
    let now = current_slot words numbers d s was is in
    let range : IsShow s.size (a, b) = show_range a b s.size faultless in
    slot_told words numbers d (with_line (AShow a b) d) s (tells (AShow a b) s) was none none refl is (ap (option_map (tells (AShow a b))) is) refl refl refl
    refl
    (record {
      number = now.number;
      least = now.least;
      most = now.most;
      groups = now.groups;
      deck = now.deck;
      devices = now.devices;
      shows = All-push (IsShow s.size) s.shows (a, b) now.shows range;
      lent = now.lent;
    })
    (rw is refl)
  where
    show_range : (a b size : ℕ) → show_fault a b size ≡ None → IsShow size (a, b)
    show_range a b size h = grind (arith, nat_tests)

pub show_takes : (a b : ℕ) (old new : Draft) → IsSound old → (shown_draft old).pool ≡ [] → is_some (shown_draft old).slot ≡ true
    → fault_of (AShow a b) (shown_draft old) ≡ None
    → shown_draft new ≡ with_line (AShow a b) (shown_draft old) → new.words ≡ old.words → new.numbers.items ≡ old.numbers.items
    → Taken (Ok (AShow a b)) 1 old new
show_takes a b old new sound none there faultless shown words numbers =
    let s = some_slot (shown_draft old).slot there in
    taken (AShow a b) 1 old new faultless shown
    (rw (words, numbers) (show_kept old.words old.numbers.items (shown_draft old) s.0 a b sound none s.1 (rw s.1 at faultless)))
    (let e = ap kept_length s.1 in let f = ap kept_length (ap (option_map (tells (AShow a b))) s.1) in omega arith)

-- ---- a line of a deck
deck_kept : (words : ℕ) (numbers : List ℕ) (d : ShownDraft) (s : ShownSlotDraft) (line : List ℕ) → IsKept words numbers d → d.pool ≡ [] → d.slot ≡ Some s
    → length s.deck + length line + 1 ≤ 268435456
    → IsKept words numbers (with_line (ADeckLine line) d)
deck_kept words numbers d s line was none is fits =
    let now = current_slot words numbers d s was is in
    slot_told words numbers d (with_line (ADeckLine line) d) s (tells (ADeckLine line) s) was none none refl is (ap (option_map (tells (ADeckLine line))) is)
    refl refl refl refl
    (record {
      number = now.number;
      least = now.least;
      most = now.most;
      groups = now.groups;
      deck = let m = length-append (s.deck ++ line) (10 ∷ []) in let n = length-append s.deck line in omega arith;
      devices = now.devices;
      shows = now.shows;
      lent = now.lent;
    })
    (rw is refl)

pub deck_told : (line : List ℕ) → is_text (codes "ENDDECK") line ≡ false → told_at InDeck line ≡ Ok (ADeckLine line)
deck_told line e = rw e refl

pub deck_takes : (line : List ℕ) (old new : Draft) → IsSound old → old.place ≡ InDeck → weight (shown_draft old) + length line ≤ 268435456
    → shown_draft new ≡ with_line (ADeckLine line) (shown_draft old) → new.words ≡ old.words → new.numbers.items ≡ old.numbers.items
    → Taken (Ok (ADeckLine line)) (length line + 1) old new
deck_takes line old new sound place fits shown words numbers =
    let there : IsPlaced InDeck (shown_draft old).slot = subst (λ (x : LinePlace). IsPlaced x (shown_draft old).slot) place sound.placed in
    let none : (shown_draft old).pool ≡ [] = subst (λ (x : LinePlace). IsUntold x (shown_draft old).pool) place sound.untold in
    let s = some_slot (shown_draft old).slot there in
    let one : spared old.place ≡ 1 = ap spared place in
    let e : kept_length (shown_draft old).slot ≡ slot_length s.0 = ap kept_length s.1 in
    let f = ap kept_length (ap (option_map (tells (ADeckLine line))) s.1) in
    let m = length-append (s.0.deck ++ line) (10 ∷ []) in
    let n = length-append s.0.deck line in
    taken (ADeckLine line) (length line + 1) old new refl shown
    (rw (words, numbers) (deck_kept old.words old.numbers.items (shown_draft old) s.0 line sound none s.1 (omega arith)))
    (omega arith)

-- ---- `SERVICE`
service_kept : (words : ℕ) (numbers : List ℕ) (d : ShownDraft) (s : ShownSlotDraft) → IsKept words numbers d → d.pool ≡ [] → d.slot ≡ Some s
    → IsKept words numbers (with_line AService d)
service_kept words numbers d s was none is =
    let now = current_slot words numbers d s was is in
    slot_told words numbers d (with_line AService d) s (tells AService s) was none none refl is (ap (option_map (tells AService)) is) refl refl refl refl
    (record {
      number = now.number;
      least = now.least;
      most = now.most;
      groups = now.groups;
      deck = now.deck;
      devices = now.devices;
      shows = now.shows;
      lent = now.lent;
    })
    (rw is refl)

pub service_takes : (old new : Draft) → IsSound old → (shown_draft old).pool ≡ [] → is_some (shown_draft old).slot ≡ true
    → shown_draft new ≡ with_line AService (shown_draft old)
    → new.words ≡ old.words → new.numbers.items ≡ old.numbers.items → Taken (Ok AService) 1 old new
service_takes old new sound none there shown words numbers =
    let s = some_slot (shown_draft old).slot there in
    taken AService 1 old new refl shown
    (rw (words, numbers) (service_kept old.words old.numbers.items (shown_draft old) s.0 sound none s.1))
    (let e = ap kept_length s.1 in let f = ap kept_length (ap (option_map (tells AService)) s.1) in omega arith)

-- ---- `DEVICE d k`
device_kept : (words : ℕ) (numbers : List ℕ) (d : ShownDraft) (s : ShownSlotDraft) (n : ℕ) (kind : Kind) (label : List ℕ) → IsKept words numbers d → d.pool ≡ []
    → d.slot ≡ Some s → n ≤ 15
    → list_any (nat_eq n) (numbers_told d) ≡ false → IsKept words (numbers ++ n ∷ []) (with_line (ADevice n kind label) d)
device_kept words numbers d s n kind label was none is few free =
    let now = current_slot words numbers d s was is in
    let form = ADevice n kind label in
    let more : ds (all_devices (tells (ADevice n kind label) s)) ≡ ds (all_devices s) ++ n ∷ [] =
    map-append (λ (x : JobDevice). x.d) (all_devices s) (new_device n kind (word_of_text label) ∷ []) in
    device_told words n numbers d (with_line form d) s (tells form s) was none none refl is (ap (option_map (tells form)) is) refl refl refl more
    (subst (λ (ns : List ℕ). list_any (nat_eq n) ns ≡ false) (told_alone d none) free)
    (record {
      number = now.number;
      least = now.least;
      most = now.most;
      groups = now.groups;
      deck = now.deck;
      devices = subst (All (λ (x : ℕ). x < 16)) (sym more) (All-push (λ (x : ℕ). x < 16) (ds (all_devices s)) n now.devices (omega arith));
      shows = now.shows;
      lent = now.lent;
    })
    (rw is refl)

device_free : (n : ℕ) (kind : Kind) (label : List ℕ) (d : ShownDraft) → device_fault n kind label d ≡ None → list_any (nat_eq n) (numbers_told d) ≡ false
device_free n kind label d h = grind arith

pub device_takes : (n : ℕ) (kind : Kind) (label : List ℕ) (old new : Draft) → IsSound old → (shown_draft old).pool ≡ []
    → is_some (shown_draft old).slot ≡ true → n ≤ 15
    → fault_of (ADevice n kind label) (shown_draft old) ≡ None → shown_draft new ≡ with_line (ADevice n kind label) (shown_draft old) → new.words ≡ old.words
    → new.numbers.items ≡ old.numbers.items ++ n ∷ [] → Taken (Ok (ADevice n kind label)) 1 old new
device_takes n kind label old new sound none there few faultless shown words numbers =
    let s = some_slot (shown_draft old).slot there in
    taken (ADevice n kind label) 1 old new faultless shown
    (rw (words, numbers) (device_kept old.words old.numbers.items (shown_draft old) s.0 n kind label sound none s.1 few
    (device_free n kind label (shown_draft old) faultless)))
    (let e = ap kept_length s.1 in let f = ap kept_length (ap (option_map (tells (ADevice n kind label))) s.1) in omega arith)

-- ---- a line of a medium
codes_length : (text found : List ℕ) → codes_in text ≡ Some found → length found ≡ length text
unfolding codes_in
codes_length [] found e = let f : found ≡ [] = cc in rw f refl
codes_length (byte ∷ text) found e = longer (code_of byte) (codes_in text) found (codes_length text) e
  where
    longer : (code : Option ℕ) (more : Option (List ℕ)) (found : List ℕ) → ((cs : List ℕ) → more ≡ Some cs → length cs ≡ length text)
        → with_code code more ≡ Some found → length found ≡ length (byte ∷ text)
    longer None more found rest e = absurd cc
    longer (Some code) None found rest e = absurd cc
    longer (Some code) (Some cs) found rest e =
        let f : found ≡ code ∷ cs = cc in
        let n = rest cs refl in
        rw f (omega arith)

-- a line adds no more than its characters, or one card or one block, to the device that it is told of
pub record IsLonger (x y : JobDevice) (n : ℕ) : Type 0 where
  pub same : y.d ≡ x.d
  pub little : medium_length y ≤ medium_length x + n + 1

added_longer : (kind : Kind) (marked : Bool) (codes : List ℕ) (x : JobDevice) → IsLonger x (added kind marked codes x) (length codes)
added_longer Tr marked codes x = record { same = refl; little = let n = length-append x.fixture.codes codes in omega arith }
added_longer Tp marked codes x = record { same = refl; little = omega arith }
added_longer Cr marked codes x = record { same = refl; little = let n = length_push x.fixture.cards (card_of codes) in omega arith }
added_longer Lp marked codes x = record { same = refl; little = omega arith }
added_longer Mt marked codes x = record {
  same = refl;
  little =
      let block : Recorded = record { words = words_of (filled codes); mark = marked } in
      let n = length_push x.progress.recorded block in
      omega arith;
}

codes_longer : (marked : Bool) (o : Option (List ℕ)) (x y : JobDevice) (n : ℕ) → ((codes : List ℕ) → o ≡ Some codes → length codes ≡ n)
    → with_codes marked o x ≡ Some y → IsLonger x y n
codes_longer marked None x y n many e = absurd cc
codes_longer marked (Some codes) x y n many e =
    let what = added x.fixture.kind marked codes x in
    chosen (fits x.fixture.kind marked (length codes)) what (subst (IsLonger x what) (many codes refl) (added_longer x.fixture.kind marked codes x)) e
  where
    chosen : (may : Bool) (what : JobDevice) → IsLonger x what n → cond may (Some what) None ≡ Some y → IsLonger x y n
    chosen true what h e = let is : what ≡ y = cc in subst (λ (z : JobDevice). IsLonger x z n) is h
    chosen false what h e = absurd cc

medium_longer : (marked : Bool) (text : List ℕ) (x y : JobDevice) → with_medium marked text x ≡ Some y → IsLonger x y (length text)
medium_longer marked text x y e = codes_longer marked (codes_in text) x y (length text) (codes_length text) e

same_numbers : (marked : Bool) (text : List ℕ) (front : List JobDevice) (o : Option JobDevice) → is_none (with_line_of_medium marked text o) ≡ false
    → ds (front ++ option_to_list (with_line_of_medium marked text o)) ≡ ds (front ++ option_to_list o)
same_numbers marked text front None some = absurd cc
same_numbers marked text front (Some x) some = found (with_medium marked text x) refl some
  where
    found : (r : Option JobDevice) → with_medium marked text x ≡ r → is_none r ≡ false → ds (front ++ option_to_list r) ≡ ds (front ++ x ∷ [])
    found None e some = absurd cc
    found (Some y) e some =
        let h = medium_longer marked text x y e in
        map-append (λ (z : JobDevice). z.d) front (y ∷ []) ∙ ap (λ (n : ℕ). ds front ++ n ∷ []) h.same
        ∙ sym (map-append (λ (z : JobDevice). z.d) front (x ∷ []))

little_longer : (marked : Bool) (text : List ℕ) (o : Option JobDevice) → is_none (with_line_of_medium marked text o) ≡ false
    → device_length (with_line_of_medium marked text o) ≤ device_length o + length text + 1
little_longer marked text None some = absurd cc
little_longer marked text (Some x) some = found (with_medium marked text x) refl some
  where
    found : (r : Option JobDevice) → with_medium marked text x ≡ r → is_none r ≡ false → device_length r ≤ medium_length x + length text + 1
    found None e some = absurd cc
    found (Some y) e some = (medium_longer marked text x y e).little

is_medium : (b : Bool) → cond b (Some BadMedium) None ≡ None → b ≡ false
is_medium true h = absurd cc
is_medium false h = refl

medium_kept : (words : ℕ) (numbers : List ℕ) (d : ShownDraft) (s : ShownSlotDraft) (marked : Bool) (text : List ℕ) → IsKept words numbers d → d.pool ≡ []
    → d.slot ≡ Some s
    → is_none (with_line_of_medium marked text s.device) ≡ false → IsKept words numbers (with_line (AMedium marked text) d)
medium_kept words numbers d s marked text was none is some =
    let now = current_slot words numbers d s was is in
    let form = AMedium marked text in
    let same : ds (all_devices (tells (AMedium marked text) s)) ≡ ds (all_devices s) = same_numbers marked text s.devices s.device some in
    slot_told words numbers d (with_line form d) s (tells form s) was none none refl is (ap (option_map (tells form)) is) refl refl refl same
    (record {
      number = now.number;
      least = now.least;
      most = now.most;
      groups = now.groups;
      deck = now.deck;
      devices = subst (All (λ (x : ℕ). x < 16)) (sym same) now.devices;
      shows = now.shows;
      lent = now.lent;
    })
    (rw is refl)

medium_taken : (marked : Bool) (text : List ℕ) (old new : Draft) → IsSound old → (shown_draft old).pool ≡ [] → is_some (shown_draft old).slot ≡ true
    → fault_of (AMedium marked text) (shown_draft old) ≡ None → shown_draft new ≡ with_line (AMedium marked text) (shown_draft old) → new.words ≡ old.words
    → new.numbers.items ≡ old.numbers.items → Taken (Ok (AMedium marked text)) (length text + 2) old new
medium_taken marked text old new sound none there faultless shown words numbers =
    let s = some_slot (shown_draft old).slot there in
    let some : is_none (with_line_of_medium marked text s.0.device) ≡ false = is_medium _ (rw s.1 at faultless) in
    taken (AMedium marked text) (length text + 2) old new faultless shown
    (rw (words, numbers) (medium_kept old.words old.numbers.items (shown_draft old) s.0 marked text sound none s.1 some))
    (let e = ap kept_length s.1 in
    let f = ap kept_length (ap (option_map (tells (AMedium marked text))) s.1) in
    let n = little_longer marked text s.0.device some in
    omega arith)

pub medium_takes : (marked : Bool) (text : List ℕ) (old new : Draft) (r : Result (Unit {0}) LineError) → IsSound old → (shown_draft old).pool ≡ []
    → is_some (shown_draft old).slot ≡ true
    → IsChecked (medium_fault marked text (shown_draft old).slot) (with_line (AMedium marked text) (shown_draft old)) (shown_draft new) r
    → new.words ≡ old.words
    → new.numbers.items ≡ old.numbers.items → Takes (Ok (AMedium marked text)) (length text + 2) old new r
medium_takes marked text old new (Ok x) sound none there h words numbers = medium_taken marked text old new sound none there h.0 h.1 words numbers
medium_takes marked text old new (Err (Fault fault)) sound none there h words numbers = ap (or_fault (AMedium marked text) (shown_draft old)) h
medium_takes marked text old new (Err Memory) sound none there h words numbers = tt {0}

-- ---- `STORE n`
store_sound : (n words : ℕ) (slots : List ShownSlot) → words ≡ words_in slots → store_fault n slots ≡ None → (n % 32 ≡ 0) × (words + n ≤ most_words_together)
store_sound n words slots sum h = grind (arith, nat_tests)

store_kept : (words : ℕ) (numbers : List ℕ) (d : ShownDraft) (p n : ℕ) → IsKept words numbers d → d.place ≡ BehindSlot p → 32 ≤ n → n ≤ most_words
    → store_fault n (slots_told d) ≡ None
    → IsKept (words + n) numbers (with_line (AStore n) d)
store_kept words numbers d p n was place least most faultless =
    let placed : IsPlaced (BehindSlot p) d.slot = subst (λ (x : LinePlace). IsPlaced x d.slot) place was.placed in
    let fits = store_sound n words (slots_told d) was.sum faultless in
    let none : d.pool ≡ [] = subst (λ (x : LinePlace). IsUntold x d.pool) place was.untold in
    store_told words p n numbers d (with_line (AStore n) d) was none none refl (ap (λ (x : LinePlace). Some (new_slot (number_at x) n)) place) refl placed.1
    placed.0 least most fits.0 fits.1 refl

pub store_takes : (p n : ℕ) (old new : Draft) → IsSound old → old.place ≡ BehindSlot p → 32 ≤ n → n ≤ most_words
    → fault_of (AStore n) (shown_draft old) ≡ None → shown_draft new ≡ with_line (AStore n) (shown_draft old)
    → new.words ≡ old.words + n → new.numbers.items ≡ old.numbers.items
    → Taken (Ok (AStore n)) 1 old new
store_takes p n old new sound place least most faultless shown words numbers =
    taken (AStore n) 1 old new faultless shown
    (rw (words, numbers) (store_kept old.words old.numbers.items (shown_draft old) p n sound place least most faultless))
    (omega arith)
