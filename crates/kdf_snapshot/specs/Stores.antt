-- The words of the programs of a machine, as a snapshot has them.
use Rattle.std.specs.Prelude.{◌≡◌, ℕ, ◌==◌, ◌++◌, List, [], ◌∷◌, IsSomeAnd, codes, decimal, if◌then◌else◌}
use Rattle.std.specs.List.{flat_map, range_with_len}
use Rattle.kdf_text.specs.Text.{octal}
use Rattle.kdf_job.specs.Job.{ShownJob, ShownSlot}
use Rattle.kdf_processor.specs.State.{State, word_at}
use Rattle.kdf_theory.specs.MachineView.{MachineView, state_of}

-- a word at an address of slot p
abbrev pub store_line : (p a word : ℕ) → List ℕ
store_line p a word = codes "STORE " ++ decimal p ++ codes " " ++ decimal a ++ codes " " ++ octal word

-- unless it is zero
abbrev pub word_lines : (p a word : ℕ) → List (List ℕ)
word_lines p a word = if word == 0 then [] else store_line p a word ∷ []

-- the words of a slot, from the state of its program
abbrev pub slot_lines : ShownSlot → State → List (List ℕ)
slot_lines slot s = flat_map (λ a. word_lines slot.p a (word_at s a)) (range_with_len 0 slot.size)

-- the words of all slots of a job, each from the state of the program of its number
abbrev pub store_lines : ShownJob → (ℕ → State) → List (List ℕ)
store_lines job states = flat_map (λ (slot : ShownSlot). slot_lines slot (states slot.p)) job.slots

-- the machine has the program of the slot, with a store of the slot's size
abbrev pub HasStore : MachineView → ShownSlot → Type 0
HasStore m slot = IsSomeAnd (state_of m slot.p) (λ s. s.stock.claims.size ≡ slot.size)
