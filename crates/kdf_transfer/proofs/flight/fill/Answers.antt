use Rattle.std.proofs.Common.{ap, ◌∙◌, ◌++◌, take, drop}
use Rattle.kdf_transfer.specs.Devices.{fixture_of, progress_of}
use Rattle.kdf_transfer.specs.InFlight.{all_words}
use Rattle.kdf_transfer.proofs.Addresses.{take_two}
use Rattle.kdf_transfer.proofs.flight.fill.Goals as goal

pub loop-i-preserved : goal.loop-i-preserved
loop-i-preserved c =
    let ws = all_words c.args.order c.args.area.first c.args.area.last c.args.lease.now (fixture_of c.args.device.now) (progress_of c.args.device.now) in
    c.refill.ensures ∙ ap (λ xs. c.loop-i.ring ++ xs) c.next_word.ensures ∙ ap (λ xs. xs ++ take 1 (drop c.loop-i.i ws)) c.loop-i.invariant
    ∙ take_two c.loop-i.i 1 ws
