-- What the next order is, and what it needs first.
use Rattle.std.specs.Prelude.{ℕ, ◌/◌, ◌%◌, List, [], ◌∷◌, ◌++◌, map, Option, Some, None, if◌then◌else◌, nat_lt}
use Rattle.std.specs.Option.{option_map}
use Rattle.std.proofs.Common.{zero, suc}
use Rattle.kdf_syllable.specs.declared.order.Order.{Order}
use Rattle.kdf_syllable.specs.Packing.{syllable}
use Rattle.kdf_syllable.specs.Spelling.{size_of_first}
use Rattle.kdf_journal.specs.declared.failure.Failure.TheVariants.{Liv}
use Rattle.kdf_journal.specs.declared.need.Need.{Need}
use Rattle.kdf_journal.specs.declared.need.Need.TheVariants.{Group, Device, Pool}
use Rattle.kdf_processor.specs.declared.registers.Registers.{Registers}
use Rattle.kdf_decode.specs.Decoding.{decoded}
use Rattle.kdf_processor.specs.State.{Claims, State, word_at}
use Rattle.kdf_processor.specs.Effect.{Question, FreeOf, Effect, Failing, Ending, Changing, Fetching, Keeping, Testing, Starting, Asking, Claiming, Returning}
use Rattle.kdf_processor.specs.Effect.{Spooling}
use Rattle.kdf_processor.specs.Table.{syllable_after, effect}
use Rattle.kdf_processor.specs.View.{groups_of, order_groups}

-- the group of an address
abbrev pub group_of : ℕ → ℕ
group_of a = a / 32

-- syllable number n of a store, given by its words
abbrev pub syllable_at : (ℕ → ℕ) → ℕ → ℕ
syllable_at word n = syllable (word (n / 6)) (n % 6)

-- the n syllables from this one on, or none where one of them is outside
abbrev pub syllables : ℕ → ℕ → (ℕ → ℕ) → ℕ → Option (List ℕ)
syllables zero size word at = Some []
syllables (suc n) size word at =
    if nat_lt (at / 6) size
    then option_map (λ rest. syllable_at word at ∷ rest) (syllables n size word (syllable_after at 1))
    else None

-- their groups, ending before one that is outside
abbrev pub syllable_needs : ℕ → ℕ → ℕ → List Need
syllable_needs zero size at = []
syllable_needs (suc n) size at =
    if nat_lt (at / 6) size then Group (group_of (at / 6)) ∷ syllable_needs n size (syllable_after at 1) else []

-- how many syllables the order at a place has
abbrev pub count_at : ℕ → (ℕ → ℕ) → ℕ → ℕ
count_at size word at = if nat_lt (at / 6) size then size_of_first (syllable_at word at) else 1

-- the needs of its fetch
abbrev pub fetch_needs : ℕ → (ℕ → ℕ) → ℕ → List Need
fetch_needs size word at = syllable_needs (count_at size word at) size at

-- the order of syllables, where they are there
abbrev pub decoded_or_none : Option (List ℕ) → Option Order
decoded_or_none None = None
decoded_or_none (Some spelt) = decoded spelt

-- the order at a place, or none where it isn't in the store or no order is spelt there
abbrev pub order_at : ℕ → (ℕ → ℕ) → ℕ → Option Order
order_at size word at = decoded_or_none (syllables (count_at size word at) size word at)

-- where there is no order, the next order fails
abbrev pub effect_or_liv : Claims → Registers → Option Order → Effect
effect_or_liv c r None = Failing Liv
effect_or_liv c r (Some o) = effect c r o

-- what the next order does
abbrev pub effect_at : Claims → (ℕ → ℕ) → Registers → Effect
effect_at c word r = effect_or_liv c r (order_at c.size word r.at)

-- what an order needs that asks: one that takes from the pool, a device of the kind
abbrev pub question_needs : Question → List Need
question_needs (FreeOf kind) = Pool kind ∷ []
question_needs _ = []

-- what an effect needs, where the program has transfers on these devices: one that fails or ends waits for all of them
abbrev pub effect_needs : List ℕ → Effect → List Need
effect_needs mine (Failing kind) = map Device mine
effect_needs mine (Ending after) = map Device mine
effect_needs mine (Changing after) = []
effect_needs mine (Fetching a after) = Group (group_of a) ∷ []
effect_needs mine (Keeping a w after) = Group (group_of a) ∷ []
effect_needs mine (Testing d what after) = Device d ∷ []
effect_needs mine (Starting d o first last after) = Device d ∷ map Group (order_groups o first last)
effect_needs mine (Asking question after) = question_needs question
effect_needs mine (Claiming d after) = []
effect_needs mine (Returning pooled d after) = Device d ∷ []
effect_needs mine (Spooling stream first last after) = map Group (groups_of first last)

-- the groups of the next order's syllables, and then what its effect needs
abbrev pub needs_at : Claims → (ℕ → ℕ) → Registers → List ℕ → List Need
needs_at c word r mine =
    fetch_needs c.size word r.at ++ effect_needs mine (effect_at c word r)

-- what the next order of a state does
abbrev pub next_effect : State → Effect
next_effect s = effect_at s.stock.claims (word_at s) s.registers

-- what the next order of a state needs, where the program has transfers on these devices
abbrev pub needs : State → List ℕ → List Need
needs s mine = needs_at s.stock.claims (word_at s) s.registers mine
