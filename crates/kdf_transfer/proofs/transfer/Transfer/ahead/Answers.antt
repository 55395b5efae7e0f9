use Rattle.std.proofs.Common.{ap, ◌∙◌, length, ◌-◌, min}
use Rattle.kdf_transfer.specs.InFlight.{Motion, words_in_flight, total_of}
use Rattle.kdf_transfer.specs.Flying.{motion_of}
use Rattle.kdf_transfer.proofs.Words.{length-ring}
use Rattle.kdf_transfer.proofs.transfer.Transfer.ahead.Goals as goal

pub returns : goal.returns
returns c =
    let f = c.self.inside.flight in
    c.len.ensures ∙ ap length c.self.invariant.ring ∙ length-ring (words_in_flight (motion_of f)) f.moved
    ∙ ap (λ (t : Motion). min 8 (total_of t - t.moved)) c.self.view_is
