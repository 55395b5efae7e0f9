-- What is known of an act before the order is obeyed.
use Rattle.std.specs.Prelude.{◌==◌, ℕ, List, ◌∷◌, Option, Some, None, if◌then◌else◌}
use Rattle.kdf_processor.specs.Effect.{Act, Starts, Asks, FreeOf, OfService, Spools, Effect, Asking}

-- an act that neither begins a transfer, nor takes a device from the pool, nor spools
abbrev pub IsSmall : Act → Type 0
IsSmall (Starts d o first last) = ⊥
IsSmall (Asks (FreeOf kind) answer) = ⊥
IsSmall (Spools stream first last) = ⊥
IsSmall _ = Unit {0}

-- the word of which an act asks the service, if it asks it
abbrev pub act_word : Act → Option ℕ
act_word (Asks (OfService word) answer) = Some word
act_word act = None

-- the word of which an order of this effect asks the service, if it asks it
abbrev pub word_asked : Effect → Option ℕ
word_asked (Asking (OfService word) after) = Some word
word_asked e = None

-- the word of which the next order may ask the service, as the nest tells: the one below the number 64
abbrev pub word_ahead : List ℕ → Option ℕ
word_ahead (number ∷ word ∷ below) = if number == 64 then Some word else None
word_ahead nest = None
