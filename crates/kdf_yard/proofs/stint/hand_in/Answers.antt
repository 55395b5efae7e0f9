use Rattle.std.proofs.Common.{◌≡◌, ◌<◌, true, false, ℕ, Some, length, get_or, map, subst}
use Rattle.kdf_transfer.specs.Devices.{fixture_of, progress_of}
use Rattle.kdf_yard.specs.Fields.Stints.{Back, is_open_of, keeping_of, no_keeping}
use Rattle.kdf_yard.proofs.Physical.DevicesGivenBack.{handed_in, none_handed}
use Rattle.kdf_yard.proofs.stint.hand_in.Goals as goal

pub returns-in-Some : goal.returns-in-Some
returns-in-Some c =
    let items = c.args.stints.now.items in
    let i : ℕ = c.in-Some.i in
    handed_in items c.args.d i true (Some c.args.device) c.requires.one
    (subst (λ xs. i < length xs) c.deref.ensures.value c.in-Some.ensures.there)
    (subst (λ xs. is_open_of c.args.d (get_or (map keeping_of xs) i no_keeping) ≡ true) c.deref.ensures.value c.in-Some.ensures.open)

pub returns-in_default : goal.returns-in_default
returns-in_default c =
    none_handed c.args.stints.now.items c.args.d (Back (fixture_of c.args.device) (progress_of c.args.device))
    (subst (λ xs. (i : ℕ) → i < length xs → is_open_of c.args.d (get_or (map keeping_of xs) i no_keeping) ≡ false) c.deref.ensures.value
    c.in_default.ensures.none)
