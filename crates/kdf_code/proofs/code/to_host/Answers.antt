use Rattle.std.proofs.Common.{rules}
use Rattle.kdf_code.proofs.Table.{host_of-ascii}
use Rattle.kdf_code.specs.Code.{host_of}
use Rattle.kdf_code.proofs.code.to_host.Goals as goal

pub returns-clause-value : goal.returns-clause-value
unfolding host_of
returns-clause-value c = search rules

pub returns-clause-ascii : goal.returns-clause-ascii
unfolding host_of
returns-clause-ascii c = let h = host_of-ascii c.args.code c.requires in search rules
