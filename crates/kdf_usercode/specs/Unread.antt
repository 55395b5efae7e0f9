-- What of a deck is still to be read.
use Rattle.std.specs.Prelude.{false, List}
use Rattle.kdf_usercode.specs.declared.bytes.ByteAt.{ByteAt}
use Rattle.kdf_usercode.specs.declared.unread.Unread.{Unread}
use Rattle.kdf_usercode.specs.Comments.{kept_from}

-- the bytes still to be read that stay
abbrev pub ahead : Unread → List ByteAt
ahead unread = kept_from false unread.at unread.rest.now
