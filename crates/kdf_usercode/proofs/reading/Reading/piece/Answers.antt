use Rattle.std.proofs.Common.{◌≡◌, ◌+◌, ℕ, get_or, List, [], ◌∷◌, drop, ◌++◌, sym, ap, ◌∙◌}
use Rattle.std.proofs.lemmas.List.{take_rest}
use Rattle.std.proofs.lemmas.Result.{on_ok_weaker}
use Rattle.kdf_usercode.specs.declared.bytes.ByteAt.{ByteAt}
use Rattle.kdf_usercode.specs.Parsed.{Parsed, statements_in, parsed}
use Rattle.kdf_usercode.specs.Pieces.{codes_of}
use Rattle.kdf_usercode.specs.Reading.{outcome}
use Rattle.kdf_usercode.proofs.Outcome.{outcome-statement, statements_in-star, statements_in-last}
use Rattle.kdf_usercode.proofs.reading.Reading.piece.Goals as goal

pub returns-then-k-ne42 : goal.returns-then-k-ne42
returns-then-k-ne42 c =
    let piece = c.args.piece.now in
    let i = c.loop-i.i in
    let d : ByteAt = record { at = 0; byte = 0 } in
    let k = get_or piece i d in
    let text : c.deref.result.now ≡ codes_of (drop i piece) = c.deref.ensures.value ∙ c.in_ok-bytes_into.ensures ∙ ap codes_of (take_rest piece i) in
    let made : List ℕ → Parsed = parsed k.at in
    let last = statements_in-last piece i d c.loop-i-test.true c.if-k-ne42.true in
    on_ok_weaker c.statement.result
    (λ reads. λ len front ws tail.
    outcome-statement c.loop-i.self c.statement.new.self (made c.deref.result.now) len front ws tail reads
    ∙ ap (λ (x : List Parsed). outcome c.loop-i.self.phase c.loop-i.self.best c.loop-i.self.stars c.loop-i.self.statements.items len front (x ++ ws) tail)
    (ap (λ (cs : List ℕ). made cs ∷ []) text ∙ sym last)
    ∙ c.loop-i.invariant len front ws tail)
    c.statement.ensures

pub loop-i-preserved : goal.loop-i-preserved
loop-i-preserved c = λ len front ws tail.
    let piece = c.args.piece.now in
    let i = c.loop-i.i in
    let d : ByteAt = record { at = 0; byte = 0 } in
    let star : Parsed = parsed (get_or piece i d).at (42 ∷ []) in
    let next = statements_in-star piece i d c.loop-i-test.true c.if-k-ne42.false in
    outcome-statement c.loop-i.self c.statement-in-loop-i.new.self star len front (statements_in (drop (i + 1) piece) ++ ws) tail c.in_ok-statement.ensures
    ∙ ap (λ (x : List Parsed). outcome c.loop-i.self.phase c.loop-i.self.best c.loop-i.self.stars c.loop-i.self.statements.items len front (x ++ ws) tail)
    (sym next)
    ∙ c.loop-i.invariant len front ws tail
