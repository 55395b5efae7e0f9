-- A store of groups, each here or out, and a lease of those that are out.
use Rattle.std.specs.Prelude.{◌≡◌, ℕ, ◌+◌, ◌-◌, ◌/◌, ◌%◌, ◌<◌, ◌≤◌, nat_le, nat_lt, ◌&&◌, Bool, false, Option, Some, None, is_none, unwrap_or}
use Rattle.std.specs.Prelude.{List, [], ◌∷◌, ◌++◌, length, map, take, drop, replicate, find}
use Rattle.std.specs.Prelude.{slice_index, slice_index_or, slice_set}
use Rattle.std.specs.List.{range_with_len}

-- the words of a group that is here, and nothing where it is out
abbrev pub Cells : Type 0
Cells = List (Option (List ℕ))

-- a lease: groups that follow one another, with their words
pub record Lent : Type 0 where
  pub first : ℕ
  pub groups : List (List ℕ)

-- a group of the store; one past its end is out
abbrev pub group_at : Cells → ℕ → Option (List ℕ)
group_at store g = slice_index_or store g None

abbrev pub is_out : Cells → ℕ → Bool
is_out store g = is_none (group_at store g)

-- the words of a group; none of one that is out
abbrev pub words_in : Option (List ℕ) → List ℕ
words_in o = unwrap_or o []

-- the word at a place of a group that is here
abbrev pub word_here : Cells → ℕ → ℕ
word_here store place = slice_index (words_in (group_at store (place / 32))) (place % 32)

-- the store with another word at a place
abbrev pub with_word : Cells → ℕ → ℕ → Cells
with_word store place w =
    slice_set store (place / 32) (Some (slice_set (words_in (group_at store (place / 32))) (place % 32) w))

-- how many groups the places from one to another touch
abbrev pub touched : ℕ → ℕ → ℕ
touched from to = to / 32 + 1 - from / 32

-- the first group of a range that is out
abbrev pub first_out_of : Cells → ℕ → ℕ → Option ℕ
first_out_of store first count = find (is_out store) (range_with_len first count)

-- the store without `count` groups, which are out from now on
unfoldable pub without_groups : Cells → ℕ → ℕ → Cells
without_groups store first count = take first store ++ (replicate count None ++ drop (first + count) store)

-- these groups as a lease
unfoldable pub lent_groups : Cells → ℕ → ℕ → Lent
lent_groups store first count = record { first = first; groups = map words_in (take count (drop first store)) }

-- the store with the groups of a lease here again
unfoldable pub with_groups : Cells → Lent → Cells
with_groups store l = take l.first store ++ (map Some l.groups ++ drop (l.first + length l.groups) store)

-- a lease's word at a place
abbrev pub lent_word : Lent → ℕ → ℕ
lent_word l place = slice_index (slice_index_or l.groups (place / 32 - l.first) []) (place % 32)

-- the lease with another word at a place
abbrev pub with_lent_word : Lent → ℕ → ℕ → Lent
with_lent_word l place w =
    record l {
      groups =
          slice_set l.groups (place / 32 - l.first)
          (slice_set (slice_index_or l.groups (place / 32 - l.first) []) (place % 32) w);
    }

-- a group with words one after the other from one on
abbrev pub with_words : List ℕ → ℕ → List ℕ → List ℕ
with_words group i [] = group
with_words group i (w ∷ ws) = with_words (slice_set group i w) (i + 1) ws

-- the lease with words one after the other from a place on
abbrev pub with_lent_words : Lent → ℕ → List ℕ → Lent
with_lent_words l place [] = l
with_lent_words l place (w ∷ ws) = with_lent_words (with_lent_word l place w) (place + 1) ws

-- the place's group is in the lease, as a test
abbrev pub is_lent : Lent → ℕ → Bool
is_lent l place = nat_le l.first (place / 32) && nat_lt (place / 32) (l.first + length l.groups)

-- the place's group is in the lease
abbrev pub IsLent : Lent → ℕ → Type 0
IsLent l place = (l.first ≤ place / 32) × (place / 32 < l.first + length l.groups)

-- each group that is here has 32 words
abbrev pub AreWhole : Cells → Type 0
AreWhole store = (g : ℕ) (ws : List ℕ) → group_at store g ≡ Some ws → length ws ≡ 32

-- each group of a lease has 32 words
abbrev pub AreFull : Lent → Type 0
AreFull l = (i : ℕ) → i < length l.groups → length (slice_index_or l.groups i []) ≡ 32

-- none of these is missing
abbrev pub AreAllHere : Cells → Type 0
AreAllHere cells = (i : ℕ) → i < length cells → is_out cells i ≡ false

-- the groups of the lease are those of the store that are out from its first on
pub record IsOut (store : Cells) (l : Lent) : Type 0 where
  pub inside : l.first + length l.groups ≤ length store
  pub out : (g : ℕ) → l.first ≤ g → g < l.first + length l.groups → group_at store g ≡ None
