use Rattle.std.proofs.Common.{ap, ◌∙◌}
use Rattle.std.proofs.lemmas.List.{take_rest}
use Rattle.kdf_usercode.specs.Comments.{closes}
use Rattle.kdf_usercode.proofs.Scan.{closes-behind}
use Rattle.kdf_usercode.proofs.unread.Unread.pass.Goals as goal

pub invariant_of-self-clause-none_closes : goal.invariant_of-self-clause-none_closes
invariant_of-self-clause-none_closes c = λ none.
    ap closes (take_rest c.args.self.now.rest.now c.args.count) ∙ closes-behind c.args.count c.args.self.now.rest.now (c.args.self.now.none_closes none)
