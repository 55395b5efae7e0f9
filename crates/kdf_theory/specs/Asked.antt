-- What was heard of the service answers the word of which an order asks it.
use Rattle.std.specs.Prelude.{◌<◌, ◌^◌, ℕ, Option, Some, None, IfSome}
use Rattle.kdf_processor.specs.Ahead.{word_asked}
use Rattle.kdf_processor.specs.Needs.{next_effect}
use Rattle.kdf_processor.specs.State.{State}

-- where an order asks the service of a word, this is one of its answers to that; where it asks nothing, nothing was
-- heard
abbrev pub HasAsked : (answers : ℕ → ℕ → Type 0) → (asked heard : Option ℕ) → Type 0
HasAsked answers (Some word) (Some answer) = (word < 2 ^ 48) × answers word answer
HasAsked answers None None = Unit {0}
HasAsked answers asked heard = ⊥

-- if the next order of a program in this state asks the service of a word, this is one of its answers to the word
abbrev pub IsHeard : (answers : ℕ → ℕ → Type 0) → State → (heard : ℕ) → Type 0
IsHeard answers s heard = IfSome (word_asked (next_effect s)) (λ word. (word < 2 ^ 48) × answers word heard)
