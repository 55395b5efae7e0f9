-- References that wait for the next order of their part.
use Rattle.std.specs.Prelude.{ℕ, List, ◌++◌, take, drop, map}
use Rattle.kdf_place.specs.declared.names.Entry.{Entry}
use Rattle.kdf_place.specs.declared.names.Mark.{Mark}

-- the reference with its order at `at`
abbrev pub settled_one : ℕ → Entry Mark → Entry Mark
settled_one at e = record e { means = record e.means { at = at } }

-- the order of these stands at `at`
abbrev pub settled : List (Entry Mark) → ℕ → List (Entry Mark)
settled labels at = map (settled_one at) labels

-- those from number `known` on wait for their order, which comes to stand at `at`
abbrev pub waiting : ℕ → List (Entry Mark) → ℕ → List (Entry Mark)
waiting known labels at = take known labels ++ settled (drop known labels) at
