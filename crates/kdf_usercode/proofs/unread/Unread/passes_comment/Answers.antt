use Rattle.std.proofs.Common.{◌≡◌, get_or, true, is_some, refl, sym, ap, ◌∙◌}
use Rattle.kdf_usercode.specs.Comments.{closes}
use Rattle.kdf_usercode.proofs.Scan.{closes-position, comment-gone}
use Rattle.kdf_usercode.proofs.unread.Unread.passes_comment.Goals as goal

pub invariant_of-self-clause-none_closes : goal.invariant_of-self-clause-none_closes
invariant_of-self-clause-none_closes c = λ _. closes-position c.args.self.now.rest.now ∙ ap is_some (sym c.first_closing.ensures ∙ c.in-None.is)

pub returns-in-Some-clause-passed : goal.returns-in-Some-clause-passed
returns-in-Some-clause-passed c =
    let front : get_or c.args.self.now.rest.now 0 0 ≡ 40 = c.if-self-ne40.false in
    let some : closes c.args.self.now.rest.now ≡ true = closes-position c.args.self.now.rest.now ∙ ap is_some (sym c.first_closing.ensures ∙ c.in-Some.is) in
    rw (front, some) refl

pub returns-in-Some-clause-ahead : goal.returns-in-Some-clause-ahead
returns-in-Some-clause-ahead c =
    let here = c.args.self.now in
    rw (c.pass.ensures.rest, c.pass.ensures.at)
    (sym (comment-gone here.at c.in-Some.end here.rest.now c.requires c.if-self-ne40.false (sym c.first_closing.ensures ∙ c.in-Some.is)))
