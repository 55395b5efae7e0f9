use Rattle.std.proofs.Common.{◌≡◌, length, refl, sym, vec_len, ◌∙◌, arith}
use Rattle.kdf_alone.specs.LonePort.{stock_of}
use Rattle.kdf_alone.proofs.Stints.{count_lent}
use Rattle.kdf_alone.proofs.lone_port.LonePort.stints.Goals as goal

pub returns : goal.returns
returns c =
    let b = c.args.self.now in
    let all : vec_len b.stints ≡ length b.stints.items = omega (arith, b.stints.ok.0) in
    c.len.ensures ∙ all ∙ sym (count_lent (stock_of b) b.stints.items refl)
