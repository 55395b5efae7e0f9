use Rattle.std.proofs.Common.{sym, ap, ◌∙◌}
use Rattle.kdf_fault.proofs.Least.{lesser-none}
use Rattle.std.specs.Option.{option_map}
use Rattle.kdf_usercode.specs.declared.fault.DeckFault.TheVariants.{BadByte}
use Rattle.kdf_usercode.specs.Faults.{lesser, number_of, found}
use Rattle.kdf_usercode.proofs.BadBytes.{least-bytes}
use Rattle.kdf_usercode.proofs.reading.with_bytes.Goals as goal

pub returns-in-Some : goal.returns-in-Some
returns-in-Some c =
    c.with.ensures ∙ ap (λ o. lesser c.args.best o)
    (sym (least-bytes c.args.text.now ∙ ap (option_map (found BadByte)) (sym c.first_bad.ensures ∙ c.in-Some.is)))

pub returns-in-None : goal.returns-in-None
returns-in-None c =
    sym (lesser-none number_of c.args.best)
    ∙ ap (λ o. lesser c.args.best o) (sym (least-bytes c.args.text.now ∙ ap (option_map (found BadByte)) (sym c.first_bad.ensures ∙ c.in-None.is)))
