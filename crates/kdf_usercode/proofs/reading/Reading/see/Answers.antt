use Rattle.kdf_usercode.specs.Grammar.{bytes_faults}
use Rattle.kdf_usercode.proofs.Outcome.{with_ahead-byte}
use Rattle.kdf_usercode.proofs.reading.Reading.see.Goals as goal

pub returns : goal.returns
returns c = λ piece len bad ahead. with_ahead-byte c.args.self.now c.with_bytes-self.result (bytes_faults 0 c.args.text.now) piece len bad ahead
    c.with_bytes-self.ensures
