-- The codes of characters, and the bytes that the host has for them.
use Rattle.std.specs.Prelude.{ℕ, ◌==◌, List, ◌++◌, codes, Option, slice_index, position}

-- The bytes that the host has for the codes 0 to 63, a row for each first octal digit. Codes 2, 3 and 4 are the machine's
-- new line, new page and tab, 75 octal is End Message.
abbrev pub bytes : List ℕ
bytes =
    codes " \"~^_?%'"
    ++ codes ":=()$*,/"
    ++ codes "01234567"
    ++ codes "89`;+-.!"
    ++ codes "@ABCDEFG"
    ++ codes "HIJKLMNO"
    ++ codes "PQRSTUVW"
    ++ codes "XYZ[]|<>"

-- the host's byte of a code: the byte at that place of the table
unfoldable pub host_of : ℕ → ℕ
host_of code = slice_index bytes code

-- the code of a byte of the host: its place in the table, if it stands there
unfoldable pub code_of : ℕ → Option ℕ
code_of byte = position (λ b. b == byte) bytes
