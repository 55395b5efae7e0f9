use Rattle.std.proofs.Common.{sym}
use Rattle.std.proofs.lemmas.Iterator.Adapters.{position_from-zero}
use Rattle.kdf_usercode.proofs.Scan.{is_closing}
use Rattle.kdf_usercode.proofs.unread.first_closing.Goals as goal

pub loop-i-init : goal.loop-i-init
loop-i-init c = sym (position_from-zero is_closing c.args.bytes.now)
