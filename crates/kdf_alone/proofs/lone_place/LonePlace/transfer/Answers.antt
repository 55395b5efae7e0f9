use Rattle.std.proofs.Common.{◌≡◌, None, Some, ap, ◌∙◌, sym}
use Rattle.kdf_transfer.specs.AtOnce.{kind_of}
use Rattle.kdf_transfer.specs.Devices.{kind_in}
use Rattle.kdf_alone.specs.LonePlaces.{fixture_in}
use Rattle.kdf_alone.proofs.lone_place.LonePlace.transfer.Goals as goal

pub unreachable-requires : goal.unreachable-requires
unreachable-requires c =
    let kind = kind_of c.args.order in
    let none : None ≡ Some kind = sym (ap (λ p. kind_in (fixture_in p)) c.in-Absent.is) ∙ c.requires.kind in
    absurd cc
