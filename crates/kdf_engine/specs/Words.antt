-- The words of a command, as a caller hands them in.
use Rattle.std.specs.Prelude.{ℕ, List, [], if◌then◌else◌}
use Rattle.std.specs.Str.{is_utf8}
use Rattle.std.specs.Str.Lines.{lines}

-- one word to a line; bytes that aren't UTF-8 have none
abbrev pub words_in : List ℕ → List (List ℕ)
words_in bytes = if is_utf8 bytes then lines bytes else []
