use Rattle.std.proofs.Common.{List, [], None, length, refl, sym, ap, ◌∙◌}
use Rattle.kdf_usercode.specs.declared.bytes.ByteAt.{ByteAt}
use Rattle.kdf_usercode.specs.Comments.{kept}
use Rattle.kdf_usercode.specs.Phase.{start}
use Rattle.kdf_usercode.specs.Reading.{with_ahead}
use Rattle.kdf_usercode.specs.Unread.{ahead}
use Rattle.kdf_usercode.proofs.Outcome.{with_ahead-start}
use Rattle.kdf_usercode.proofs.reader.read.Goals as goal

pub loop-kept-init : goal.loop-kept-init
unfolding start
loop-kept-init c =
    let text = c.args.text.now in
    let len = length text in
    ap (λ (p : List ByteAt). with_ahead c.see.new.self p len [] (ahead c.new-unread.result)) c.new-piece.ensures.items
    ∙ ap (with_ahead c.see.new.self [] len []) c.new-unread.ensures
    ∙ c.see.ensures [] len [] (kept text)
    ∙ with_ahead-start (record { phase = start; best = None; statements = c.new.result; stars = c.args.stars }) text refl refl c.new.ensures.items

pub loop-kept-preserved : goal.loop-kept-preserved
loop-kept-preserved c =
    let len = length c.args.text.now in
    let next = ahead c.next_kept.new.self in
    c.in_ok-take.ensures len [] next
    ∙ ap (with_ahead c.loop-kept.reading c.loop-kept.piece.items len []) (sym c.in-Some.ensures.kept)
    ∙ c.loop-kept.invariant
