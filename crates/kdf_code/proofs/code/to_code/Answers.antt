use Rattle.std.proofs.Common.{◌≡◌, not, eqb, get_or, unwrap_or, ap, ◌∙◌, arith}
use Rattle.std.specs.Bool.{then_some}
use Rattle.std.specs.Option.{option_copied}
use Rattle.kdf_code.specs.declared.code.TheConstants.{CODES, OFF}
use Rattle.kdf_code.specs.Code.{code_of}
use Rattle.kdf_code.proofs.Table.{get_or-CODES, code_of-below, then_some-unwrap_or}
use Rattle.kdf_code.proofs.code.to_code.Goals as goal

read : (c : goal.After-then_some) → c.unwrap_or-code.result ≡ unwrap_or (code_of c.args.byte) OFF
read c =
    let at : unwrap_or (option_copied c.get.result) OFF ≡ get_or CODES c.from.result OFF = c.get.ensures.lookup.4 (omega arith) OFF in
    c.unwrap_or-code.ensures
    ∙ ap (λ o. unwrap_or o OFF) c.copied.ensures
    ∙ at
    ∙ get_or-CODES c.from.result
    ∙ ap (λ byte. unwrap_or (code_of byte) OFF) c.from.ensures

value : (c : goal.After-then_some) → c.then_some.result ≡ code_of c.args.byte
value c =
    c.then_some.ensures
    ∙ ap (λ code. then_some (not (eqb code OFF)) code) (read c)
    ∙ then_some-unwrap_or (code_of c.args.byte) (code_of-below c.args.byte)

pub returns-clause-value : goal.returns-clause-value
returns-clause-value c = value c

pub returns-clause-below : goal.returns-clause-below
returns-clause-below c = rw (value c) (code_of-below c.args.byte)
