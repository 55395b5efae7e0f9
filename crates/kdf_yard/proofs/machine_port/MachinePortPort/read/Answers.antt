use Rattle.std.proofs.Common.{◌≡◌, ◌+◌, ◌/◌, ap, ◌∙◌, sym, arith}
use Rattle.kdf_lockout.specs.Groups.{is_out}
use Rattle.kdf_places.specs.Words as physical
use Rattle.kdf_places.specs.Spots.{leases_of}
use Rattle.kdf_yard.specs.Fields.MachinePort.{part_of, shared}
use Rattle.kdf_yard.proofs.Physical.PartsShow.{ok_of, ok_is, own_word}
use Rattle.kdf_places.proofs.WordsHereAndOut.{here_word}
use Rattle.kdf_yard.proofs.machine_port.MachinePortPort.read.Goals as goal

pub returns-in-Ok : goal.returns-in-Ok
returns-in-Ok c =
    let t = c.args.self.now in
    let at_group = t.at_group in
    let group : c.place.result / 32 ≡ t.window.base / 32 + c.args.address / 32 = omega (arith, c.place.ensures) in
    let is = ok_of _ _ _ _ c.in-Ok.ensures in
    ok_is _ _ _ _ (ap (is_out t.store.now) (sym group) ∙ is.0)
    (is.1 ∙ sym (own_word (part_of t) 0 (shared t) c.args.address c.requires ∙ ap (λ x. physical.word_at_place t.store.now (leases_of (shared t).spots) x)
    (sym c.place.ensures) ∙ here_word t.store.now (leases_of (shared t).spots) c.place.result is.0))
