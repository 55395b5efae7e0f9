-- What is sealed of a machine is what is seen of the lone runs.
use Rattle.std.proofs.Common.{◌≡◌, ℕ, suc, List, [], ◌∷◌, ◌++◌, All, Option, Some, None, IsSomeAnd, refl, ap, ap₂, ◌∙◌, arith}
use Rattle.std.specs.Prelude.{codes}
use Rattle.kdf_journal.specs.declared.entry.Entry.{Entry}
use Rattle.kdf_text.proofs.Texts.{text_more}
use Rattle.std.specs.List.{flat_map}
use Rattle.kdf_text.specs.Text.{text}
use Rattle.kdf_processor.specs.State.{State}
use Rattle.kdf_job.specs.Job.{ShownJob, ShownSlot}
use Rattle.kdf_theory.specs.MachineView.{MachineView, ShowsSeen, state_at, state_of}
use Rattle.kdf_theory.specs.ByJournal.{seen_of}
use Rattle.kdf_report.specs.MadeFrom.{HasProgram, IsProgramOf}
use Rattle.kdf_report.specs.Text.{journal_lines, section, sections_lines}
use Rattle.kdf_report.proofs.SeenPrograms.{state_at-seen}
use Rattle.kdf_snapshot.specs.Snapshot.{end_line, journal_line, seal_line}
use Rattle.kdf_snapshot.specs.Stores.{HasStore, slot_lines, store_lines}
use Rattle.kdf_top.specs.Snapshots.{ended, sealed_with, snapshot_with}

lines_seen : (f : ShownSlot → State → List (List ℕ)) (m : MachineView) → ShowsSeen m → (slots : List ShownSlot) → All (HasProgram m) slots
    → flat_map (λ (slot : ShownSlot). f slot (state_at m slot.p)) slots ≡ flat_map (λ (slot : ShownSlot). f slot (seen_of m.slots m.journal slot.p)) slots
lines_seen f m shows [] has = refl
lines_seen f m shows (slot ∷ slots) has =
    ap₂ (λ (xs ys : List (List ℕ)). xs ++ ys) (ap (f slot) (state_at-seen m slot.p _ shows (has 0 slot (omega arith))))
    (lines_seen f m shows slots (λ k d h. has (suc k) d (omega arith)))

pub sealed_seen : (m : MachineView) (j : ShownJob) → ShowsSeen m → All (HasProgram m) j.slots
    → sealed_with j (state_at m) ≡ sealed_with j (seen_of m.slots m.journal)
sealed_seen m j shows has =
    ap₂ (λ (xs ys : List (List ℕ)). text ((xs ++ ys) ++ end_line ∷ [])) (lines_seen section m shows j.slots has) (lines_seen slot_lines m shows j.slots has)

-- a program of a slot has a store of its size
some_size : (slot : ShownSlot) (o : Option State) → IsSomeAnd o (IsProgramOf slot) → IsSomeAnd o (λ (s : State). s.stock.claims.size ≡ slot.size)
some_size slot None there = there
some_size slot (Some s) there = there.size

pub stores : (m : MachineView) (slots : List ShownSlot) → All (HasProgram m) slots → All (HasStore m) slots
stores m slots has k d lt = some_size _ (state_of m _) (has k d lt)

-- ---- the text of a snapshot, part by part

journal_head : codes "JOURNAL" ++ 10 ∷ [] ≡ text (journal_line ∷ [])
unfolding text
journal_head = refl

seal_head : codes "SEAL" ++ 10 ∷ [] ≡ text (seal_line ∷ [])
unfolding text
seal_head = refl

last_line : codes "ENDSNAPSHOT" ++ 10 ∷ [] ≡ text (end_line ∷ [])
unfolding text
last_line = refl

pub sealed_whole : (j : ShownJob) (states : ℕ → State) (sections stores last mid all : List ℕ) → sections ≡ text (sections_lines j states)
    → stores ≡ text (store_lines j states)
    → last ≡ codes "ENDSNAPSHOT" ++ 10 ∷ [] → mid ≡ sections ++ stores → all ≡ mid ++ last → all ≡ sealed_with j states
sealed_whole j states sections stores last mid all is_sections is_stores is_last first second =
    let front : mid ≡ text (sections_lines j states ++ store_lines j states) =
    text_more [] sections mid (sections_lines j states) (store_lines j states) is_sections (first ∙ ap (λ bs. sections ++ bs) is_stores) in
    text_more [] mid all (sections_lines j states ++ store_lines j states) (end_line ∷ []) front (second ∙ ap (λ bs. mid ++ bs) (is_last ∙ last_line))

pub snapshot_whole : (bytes : List ℕ) (j : ShownJob) (J : List Entry) (states : ℕ → State) (a head b entries c seal d sealed all : List ℕ) → a ≡ ended bytes
    → head ≡ codes "JOURNAL" ++ 10 ∷ [] → b ≡ a ++ head → entries ≡ text (journal_lines J) → c ≡ b ++ entries → seal ≡ codes "SEAL" ++ 10 ∷ [] → d ≡ c ++ seal
    → sealed ≡ sealed_with j states → all ≡ d ++ sealed → all ≡ snapshot_with bytes j J states
snapshot_whole bytes j J states a head b entries c seal d sealed all is_a is_head first is_entries second is_seal third is_sealed last =
    let with_head : b ≡ a ++ text (journal_line ∷ []) = first ∙ ap (λ bs. a ++ bs) (is_head ∙ journal_head) in
    let with_entries : c ≡ a ++ text (journal_line ∷ journal_lines J) =
    text_more a b c (journal_line ∷ []) (journal_lines J) with_head (second ∙ ap (λ bs. b ++ bs) is_entries) in
    let with_seal : d ≡ a ++ text (journal_line ∷ journal_lines J ++ seal_line ∷ []) =
    text_more a c d (journal_line ∷ journal_lines J) (seal_line ∷ []) with_entries (third ∙ ap (λ bs. c ++ bs) (is_seal ∙ seal_head)) in
    last ∙ ap₂ (λ (xs ys : List ℕ). xs ++ ys) with_seal is_sealed
    ∙ ap (λ bs. bs ++ text (journal_line ∷ journal_lines J ++ seal_line ∷ []) ++ sealed_with j states) is_a
