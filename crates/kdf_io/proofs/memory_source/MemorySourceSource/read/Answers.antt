use Rattle.std.proofs.Common.{drop, arith}
use Rattle.std.proofs.lemmas.Grind.{common_steps}
use Rattle.kdf_io.proofs.Copies.{copied_front}
use Rattle.kdf_io.proofs.memory_source.MemorySourceSource.read.Goals as goal

pub returns-clause-took : goal.returns-clause-took
returns-clause-took c =
    let s = c.args.self.now in
    copied_front s.bytes.items c.copy_from_slice.new.self (drop c.min-given.result c.args.into.now) s.at c.min-given.result (grind (arith, common_steps))
    (grind (arith, common_steps))
