-- Words that an order moves in one run.
use Rattle.std.specs.Prelude.{◌≡◌, ℕ, ◌<◌, true, false, if◌then◌else◌, List, map, reverse}
use Rattle.std.specs.List.{All, range_with_len}
use Rattle.kdf_lockout.specs.Groups.{Lent, lent_word}
use Rattle.kdf_word.specs.Characters.{words_of}
use Rattle.kdf_transfer.specs.declared.order.TransferOrder.{TransferOrder}
use Rattle.kdf_transfer.specs.AtOnce.{is_backward, is_input, stops_at_end}

-- the words of characters, in the order in which they are given
abbrev pub run_words : TransferOrder → List ℕ → List ℕ
run_words o codes = if is_backward o then reverse (words_of codes) else words_of codes

-- these characters make all the words that an input order gives, and it moves as many as the area has
pub record IsRun (o : TransferOrder) (codes given : List ℕ) : Type 0 where
  pub input : is_input o ≡ true
  pub goes : stops_at_end o ≡ false
  pub words : given ≡ run_words o codes
  pub small : All (λ c. c < 64) codes

-- so many words of a lease from a place on
abbrev pub lent_words : Lent → ℕ → ℕ → List ℕ
lent_words l first count = map (lent_word l) (range_with_len first count)
