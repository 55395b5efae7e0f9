use Rattle.std.proofs.Common.{sym, ap, ◌∙◌}
use Rattle.kdf_decode.specs.Decoding.{first_decoded}
use Rattle.kdf_decode.proofs.First.{ok-exactly, bad-exactly, of_three}
use Rattle.kdf_decode.proofs.Inverse.{are_bytes}
use Rattle.kdf_decode.proofs.decoding.decode.Goals as goal

pub returns-clause-ok : goal.returns-clause-ok
returns-clause-ok c o =
    let bytes = c.args.bytes.now in
    let first = c.by_first.ensures ∙ ap first_decoded (sym (of_three bytes c.told-bytes)) in
    ok-exactly c.by_first.result bytes c.told-bytes (are_bytes bytes c.fits-bytes) first o

pub returns-clause-bad : goal.returns-clause-bad
returns-clause-bad c =
    let bytes = c.args.bytes.now in
    bad-exactly c.by_first.result bytes (c.by_first.ensures ∙ ap first_decoded (sym (of_three bytes c.told-bytes)))
