use Rattle.kdf_usercode.proofs.Outcome.{with_ahead-push}
use Rattle.kdf_usercode.proofs.reading.Reading.take.Goals as goal

pub returns-in_ok-push : goal.returns-in_ok-push
returns-in_ok-push c = λ len bad ahead. rw c.in_ok-push.ensures.items
    (with_ahead-push c.args.self.now c.args.piece.now.items c.args.kept c.with_comment-self.result len bad ahead c.with_comment-self.ensures
    c.if-kept-eq59.false)
