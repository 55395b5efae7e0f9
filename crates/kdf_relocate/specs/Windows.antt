-- The windows of four slots.
use Rattle.std.specs.Prelude.{ℕ, ◌+◌, ◌%◌, ◌≤◌, ◌==◌, ◌&&◌, nat_le, Bool, List, [], ◌∷◌, sum}
use Rattle.std.specs.List.{list_all}
use Rattle.kdf_limits.specs.declared.store.TheConstants.{DIRECTOR_WORDS, PROGRAMS_WORDS, STORE_WORDS}
use Rattle.kdf_relocate.specs.declared.window.Window.{Window}

-- the window of so many words from a place of the store on
abbrev pub window : ℕ → ℕ → Window
window base size = record { base = base; size = size }

-- windows of these sizes, one after the other, the first from a place of the store on
abbrev pub windows_from : ℕ → List ℕ → List Window
windows_from base [] = []
windows_from base (size ∷ sizes) = window base size ∷ windows_from (base + size) sizes

-- whole groups of 32 words, which fit the store behind the words of Director
abbrev pub have_windows : List ℕ → Bool
have_windows sizes = list_all (λ size. size % 32 == 0) sizes && nat_le (sum sizes) PROGRAMS_WORDS

-- no place is in both: the first ends before the second begins
abbrev pub IsBefore : Window → Window → Type 0
IsBefore a b = a.base + a.size ≤ b.base

-- it has only places of the store behind those of Director
pub record IsInStore (w : Window) : Type 0 where
  pub from : DIRECTOR_WORDS ≤ w.base
  pub to : w.base + w.size ≤ STORE_WORDS
