-- What is kept stays true with a device of the pool more.
use Rattle.std.proofs.Common.{◌≡◌, ℕ, ◌≤◌, Bool, true, false, cond, List, [], ◌∷◌, ◌++◌, Option, Some, None, Ok, refl, sym, ap, subst, ◌∙◌, arith, append_assoc}
use Rattle.std.specs.Prelude.{is_some, nat_eq}
use Rattle.std.specs.Option.{option_map, option_to_list}
use Rattle.std.specs.List.{IsDistinct, list_any}
use Rattle.std.proofs.lemmas.List.{map-append}
use Rattle.std.proofs.lemmas.List.Elements.{All-push}
use Rattle.kdf_journal.specs.declared.kind.Kind.{Kind}
use Rattle.kdf_job.specs.declared.draft.Draft.{Draft}
use Rattle.kdf_job.specs.declared.fault.JobFault.{JobFault}
use Rattle.kdf_job.specs.declared.fault.JobFault.TheVariants.{DeviceTwice}
use Rattle.kdf_job.specs.Draft.{ShownSlotDraft, ShownDraft, fault_of, is_writer, lent_fault, pool_numbers, numbers_of, numbers_told, slot_of, slots_told, tells}
use Rattle.kdf_job.specs.Draft.{no_writer_fault, with_line}
use Rattle.kdf_job.specs.Draft.{words_in}
use Rattle.kdf_job.specs.Forms.{APoolDevice}
use Rattle.kdf_job.specs.Job.{ShownSlot}
use Rattle.kdf_job.specs.Kept.{AreTold, IsBegun, IsKept}
use Rattle.kdf_job.specs.Lengths.{kept_length}
use Rattle.kdf_job.specs.Shows.{shown_draft}
use Rattle.kdf_job.specs.Taking.{IsSound, Taken}
use Rattle.kdf_job.specs.WellFormed.{IsLent}
use Rattle.kdf_job.proofs.Slots.{apart_more}
use Rattle.kdf_job.proofs.Told.{taken}

-- a device without a fault has a new number, and is a punch or a printer
pub after_free : (b : Bool) (o : Option JobFault) → cond b (Some DeviceTwice) o ≡ None → (b ≡ false) × (o ≡ None)
after_free true o h = absurd cc
after_free false o h = (refl, h)

no_fault : (b : Bool) (fault : JobFault) → cond b None (Some fault) ≡ None → b ≡ true
no_fault true fault h = refl
no_fault false fault h = absurd cc

pub a_writer : (kind : Kind) (label : List ℕ) → lent_fault kind label ≡ None → is_writer kind ≡ true
a_writer kind label h = no_fault (is_writer kind) (no_writer_fault kind label) h

-- it changes no slot
untouched : (n : ℕ) (kind : Kind) (label : List ℕ) (o : Option ShownSlotDraft) → option_map (tells (APoolDevice n kind label)) o ≡ o
untouched n kind label None = refl
untouched n kind label (Some s) = refl

lent_kept : (words : ℕ) (numbers : List ℕ) (d : ShownDraft) (n : ℕ) (kind : Kind) (label : List ℕ) → IsKept words numbers d → is_some d.slot ≡ true → n ≤ 15
    → list_any (nat_eq n) (numbers_told d) ≡ false → is_writer kind ≡ true → IsKept words (numbers ++ n ∷ []) (with_line (APoolDevice n kind label) d)
lent_kept words numbers d n kind label was there few free writer =
    let e = with_line (APoolDevice n kind label) d in
    let slot : e.slot ≡ d.slot = untouched n kind label d.slot in
    let same : slots_told e ≡ slots_told d = ap (λ (o : Option ShownSlotDraft). d.slots ++ option_to_list (option_map slot_of o)) slot in
    let pool : List (ℕ × Kind) = d.pool ++ (n, kind) ∷ [] in
    let more : numbers_told d ++ n ∷ [] ≡ numbers_told e =
    append_assoc (numbers_of (slots_told d)) (pool_numbers d.pool) (n ∷ [])
    ∙ ap (λ (ns : List ℕ). numbers_of (slots_told d) ++ ns) (sym (map-append (λ (x : ℕ × Kind). x.0) d.pool ((n, kind) ∷ [])))
    ∙ ap (λ (ss : List ShownSlot). numbers_of ss ++ pool_numbers pool) (sym same) in
    record {
      sum = was.sum ∙ ap words_in (sym same);
      all = ap (λ (ns : List ℕ). ns ++ n ∷ []) was.all ∙ more;
      slots = subst AreTold (sym same) was.slots;
      lent = All-push (λ (x : ℕ × Kind). IsLent x) d.pool (n, kind) was.lent (omega arith, writer);
      owned = subst (IsDistinct nat_eq) more (apart_more (numbers_told d) n was.owned free);
      schedule = was.schedule;
      begun = subst (IsBegun d.slots) (sym slot) was.begun;
      placed = ap is_some slot ∙ there;
      untold = tt {0};
    }

pub lent_takes : (n : ℕ) (kind : Kind) (label : List ℕ) (old new : Draft) → IsSound old → is_some (shown_draft old).slot ≡ true → n ≤ 15
    → fault_of (APoolDevice n kind label) (shown_draft old) ≡ None → shown_draft new ≡ with_line (APoolDevice n kind label) (shown_draft old)
    → new.words ≡ old.words
    → new.numbers.items ≡ old.numbers.items ++ n ∷ [] → Taken (Ok (APoolDevice n kind label)) 1 old new
lent_takes n kind label old new sound there few faultless shown words numbers =
    let d = shown_draft old in
    let right = after_free (list_any (λ other. nat_eq n other) (numbers_told d)) (lent_fault kind label) faultless in
    taken (APoolDevice n kind label) 1 old new faultless shown
    (rw (words, numbers) (lent_kept old.words old.numbers.items d n kind label sound there few right.0 (a_writer kind label right.1)))
    (let e = ap kept_length (untouched n kind label d.slot) in omega arith)
