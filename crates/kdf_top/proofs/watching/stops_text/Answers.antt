use Rattle.std.proofs.Common.{ap, vec_items}
use Rattle.kdf_top.proofs.StopLines.{stops_whole}
use Rattle.kdf_top.proofs.watching.stops_text.Goals as goal

pub returns : goal.returns
returns c =
    stops_whole c.args.slot c.args.address c.args.stops.now _ _ _ _ c.new-out.ensures.bytes c.in_ok-write_watch.ensures
    c.in_ok-write_stops.ensures (ap vec_items c.into_bytes.ensures.value)
