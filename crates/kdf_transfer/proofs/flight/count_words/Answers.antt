use Rattle.std.proofs.Common.{◌∙◌, sym}
use Rattle.kdf_transfer.specs.Devices.{fixture_of, progress_of}
use Rattle.kdf_transfer.proofs.Runs.{other_count, run_count}
use Rattle.kdf_transfer.proofs.flight.count_words.Goals as goal

pub returns-then-not-stops_at_end-clause-value : goal.returns-then-not-stops_at_end-clause-value
returns-then-not-stops_at_end-clause-value c =
    c.words_in.ensures.value
    ∙ other_count c.args.order c.args.area.first c.args.area.last c.args.lease.now (fixture_of c.args.device.now) (progress_of c.args.device.now)
    (sym c.is_input.ensures ∙ c.if-not-is_input.true)
    (sym c.stops_at_end.ensures ∙ c.if-not-stops_at_end.true)

pub returns-in-Some-clause-value : goal.returns-in-Some-clause-value
returns-in-Some-clause-value c =
    run_count c.args.order c.args.area.first c.args.area.last c.args.lease.now (fixture_of c.args.device.now) (progress_of c.args.device.now)
    c.in-Some.codes.now c.words_in-in-Some.result c.count_within.result c.in-Some.ensures c.words_in-in-Some.ensures.value c.count_within.ensures.value
