use Rattle.std.proofs.Common.{IfSome, map, string_bytes}
use Rattle.kdf_command.specs.Commands.{HasAddress, HasSlot}
use Rattle.kdf_command.proofs.Watches.{watch_is}
use Rattle.kdf_command.proofs.command.watch.Goals as goal

pub returns-clause-value : goal.returns-clause-value
returns-clause-value c =
    let r = c.and_then.result in
    watch_is (map string_bytes c.args.values.words.now) c.in_ok-two.field-0 r (IfSome r HasSlot × IfSome r HasAddress)
    c.in_ok-two.ensures c.and_then.ensures
