-- What the fetch of an order answers.
use Rattle.std.specs.Prelude.{◌≡◌, List, [], ◌∷◌, ℕ, ◌/◌, ◌%◌, Option, Some, None, if◌then◌else◌, nat_lt}
use Rattle.kdf_syllable.specs.declared.order.Order.{Order}
use Rattle.kdf_journal.specs.declared.need.Need.{Need}
use Rattle.kdf_journal.specs.declared.need.Need.TheVariants.{Group}
use Rattle.kdf_processor.specs.declared.fetch.Fetched.{Fetched}
use Rattle.kdf_processor.specs.declared.fetch.Fetched.TheVariants as fetched
use Rattle.kdf_processor.specs.declared.fetch.Syllable.{Syllable}
use Rattle.kdf_processor.specs.declared.fetch.Syllable.TheVariants as read
use Rattle.kdf_decode.specs.Decoding.{first_decoded}
use Rattle.kdf_processor.specs.View.{View, first_pending}
use Rattle.kdf_processor.specs.Needs.{group_of, syllable_at, fetch_needs, order_at}

-- the need that holds the fetch up
abbrev pub held_of : Fetched → Option Need
held_of (fetched.Spelt a b d) = None
held_of fetched.Bad = None
held_of (fetched.Held g) = Some (Group g)

-- the order, if it wasn't held up
abbrev pub IsFetched : Option Order → Fetched → Type 0
IsFetched order (fetched.Spelt a b d) = order ≡ first_decoded (a ∷ b ∷ d ∷ [])
IsFetched order fetched.Bad = order ≡ None
IsFetched order (fetched.Held g) = Unit {0}

-- the three syllables of 24 bits
abbrev pub bytes_of : ℕ → List ℕ
bytes_of bits = bits / 65536 % 256 ∷ bits / 256 % 256 ∷ bits % 256 ∷ []

-- the fetch that gives them
abbrev pub spelt_of : ℕ → Fetched
spelt_of bits = fetched.Spelt (bits / 65536 % 256) (bits / 256 % 256) (bits % 256)

-- what the fetch at a place gives: the first group of it that is out, or else the order there
pub record IsFetchedAt (v : View) (at : ℕ) (given : Fetched) : Type 0 where
  pub held : held_of given ≡ first_pending v (fetch_needs v.claims.size v.word at)
  pub order : IsFetched (order_at v.claims.size v.word at) given

-- a syllable of the store
abbrev pub syllable_read : View → ℕ → Syllable
syllable_read v n =
    if nat_lt (n / 6) v.claims.size
    then
    (if v.is_out (group_of (n / 6)) then read.Held (group_of (n / 6)) else read.Byte (syllable_at v.word n))
    else read.Outside
