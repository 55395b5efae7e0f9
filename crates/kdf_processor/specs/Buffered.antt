-- A word that is kept while syllables are fetched from it.
use Rattle.std.specs.Prelude.{◌≡◌, ◌⊎◌, ℕ, ◌+◌, ◌/◌, ◌%◌, ◌<◌, ◌≤◌, false}
use Rattle.kdf_processor.specs.declared.buffer.Buffer.{Buffer}
use Rattle.kdf_processor.specs.Effect.{Act, Writes}
use Rattle.kdf_processor.specs.Needs.{group_of}
use Rattle.kdf_processor.specs.View.{View}

-- this is the word at an address of the store, and its group isn't out
pub record IsThere (v : View) (address word : ℕ) : Type 0 where
  pub inside : address < v.claims.size
  pub here : v.is_out (group_of address) ≡ false
  pub same : word ≡ v.word address

-- it is the word of the store that begins at its first syllable
pub record IsHeld (v : View) (b : Buffer) : Type 0 where
  pub least : b.first < 49152
  pub whole : b.first % 6 ≡ 0
  pub there : IsThere v (b.first / 6) b.word

-- what is at hand, if anything is, is as it stands in the store
pub record Agrees (v : View) (b : Buffer) : Type 0 where
  pub low : b.first ≤ 65536
  pub held : b.first < 65536 → IsHeld v b

-- a syllable is of this word
abbrev pub Has : Buffer → ℕ → Type 0
Has b at = (b.first ≤ at) × (at < b.first + 6)

-- a port is as it was, or one word of it was written
abbrev pub IsWritten : {P : Type 0} → (acts : P → Act → P → Type 0) → P → P → Type 0
IsWritten acts old new = (new ≡ old) ⊎ ((a : ℕ) × (w : ℕ) × acts old (Writes a w) new)
