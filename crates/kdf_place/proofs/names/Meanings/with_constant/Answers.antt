use Rattle.std.proofs.Common.{◌∙◌, ap, Some}
use Rattle.kdf_usercode.specs.Faults.{lesser, least, founds}
use Rattle.kdf_place.specs.Late.{fault_in, value_faults}
use Rattle.kdf_place.specs.Names.{v_store}
use Rattle.kdf_place.specs.Tables.{meaning}
use Rattle.kdf_place.proofs.Piecewise.{fault_in-kept, founds-front}
use Rattle.kdf_place.proofs.names.Meanings.with_constant.Goals as goal

pub returns : goal.returns
returns c =
    let place = c.args.place in
    let store = v_store (Some c.args.section) c.args.n in
    founds-front place c.args.best c.with_result-best.result c.with_value.result
    (fault_in store) (value_faults (meaning c.args.self.now) c.args.section c.args.value.now)
    (c.with_result-best.ensures ∙ ap (λ x. lesser c.args.best (least (founds place x))) (ap fault_in c.v_store.ensures ∙ fault_in-kept store))
    c.with_value.ensures
