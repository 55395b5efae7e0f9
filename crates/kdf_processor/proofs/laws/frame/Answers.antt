use Rattle.std.proofs.Common.{sym, subst}
use Rattle.kdf_processor.proofs.FrameLemmas.{needs_agree, row_agree, row_leaves, first_agree, agree_under}
use Rattle.kdf_processor.specs.Frame.{HidesNone}
use Rattle.kdf_processor.proofs.laws.frame.Goals as goal

pub returns-clause-same_needs : goal.returns-clause-same_needs
returns-clause-same_needs c hidden mine s t h none = needs_agree hidden mine s t h none

pub returns-clause-same_row : goal.returns-clause-same_row
returns-clause-same_row c hidden mine answer s t h none = row_agree hidden mine s t h none answer

pub returns-clause-left : goal.returns-clause-left
returns-clause-left c hidden mine answer s t h none =
    (row_leaves hidden mine answer s none, row_leaves hidden mine answer t (subst (λ ns. HidesNone hidden ns) (sym (needs_agree hidden mine s t h none)) none))

pub returns-clause-same_first : goal.returns-clause-same_first
returns-clause-same_first c hidden wanted mine s t h more = first_agree wanted mine s t (agree_under hidden wanted s t more h)
