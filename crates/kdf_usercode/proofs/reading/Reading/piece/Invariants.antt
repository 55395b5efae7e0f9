use Rattle.std.proofs.Common.{◌≡◌, ℕ, List, ◌++◌, drop}
use Rattle.kdf_usercode.specs.declared.bytes.ByteAt.{ByteAt}
use Rattle.kdf_usercode.specs.Faults.{FoundFault}
use Rattle.kdf_usercode.specs.Parsed.{Parsed, statements_in}
use Rattle.kdf_usercode.specs.Reading.{comes}
use Rattle.kdf_usercode.proofs.reading.Reading.piece.Given as goal

abbrev pub invariant-loop-i : goal.invariant-loop-i
invariant-loop-i l = (len : ℕ) (front : List FoundFault) (ahead : List Parsed) (tail : List ByteAt) →
    comes l.self len front (statements_in (drop l.i l.piece) ++ ahead) tail
    ≡ comes l.fn.self len front (statements_in l.piece ++ ahead) tail
