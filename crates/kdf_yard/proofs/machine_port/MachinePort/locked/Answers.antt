use Rattle.std.specs.Prelude.{find}
use Rattle.std.specs.Option.{option_map}
use Rattle.std.specs.List.{range_with_len}
use Rattle.std.proofs.Common.{◌≡◌, ◌+◌, ◌-◌, ◌/◌, ap₂, ◌∙◌, sym, arith}
use Rattle.kdf_lockout.specs.Groups.{is_out, first_out_of}
use Rattle.kdf_yard.proofs.Physical.ShiftedRanges.{find_shift, found_shift, found_low, none_shift}
use Rattle.kdf_yard.proofs.machine_port.MachinePort.locked.Goals as goal
use Rattle.kdf_yard.proofs.machine_port.MachinePort.locked.Goals.{After-first_out}

-- the groups of the area, counted in the store and in the window
shifted : (c : After-first_out) → c.first_out.result ≡ option_map (λ g. c.args.self.now.window.base / 32 + g)
    (find (λ g. is_out c.args.self.now.store.now (c.args.self.now.window.base / 32 + g))
    (range_with_len (c.args.first / 32) (c.args.last / 32 + 1 - c.args.first / 32)))
shifted c =
    let t = c.args.self.now in
    let at_group = t.at_group in
    let low : c.place.result / 32 ≡ t.window.base / 32 + c.args.first / 32 = omega (arith, c.place.ensures) in
    let high : c.place-2.result / 32 + 1 - c.place.result / 32 ≡ c.args.last / 32 + 1 - c.args.first / 32 = omega (arith, c.place.ensures, c.place-2.ensures) in
    c.first_out.ensures.value
    ∙ ap₂ (first_out_of t.store.now) low high
    ∙ find_shift (is_out t.store.now) (t.window.base / 32) (c.args.first / 32) (c.args.last / 32 + 1 - c.args.first / 32)

pub overflow_sub-result : goal.overflow_sub-result
overflow_sub-result c = found_low (c.args.self.now.window.base / 32) c.in-Some.group _
    (sym c.in-Some.is ∙ shifted (goal.at.overflow_sub-result c).After-first_out)

pub returns-in-Some : goal.returns-in-Some
returns-in-Some c =
    let at = (goal.at.returns-in-Some c).After-first_out in
    sym (found_shift (c.args.self.now.window.base / 32) c.in-Some.group _ (sym c.in-Some.is ∙ shifted at))

pub returns-in-None : goal.returns-in-None
returns-in-None c =
    let at = (goal.at.returns-in-None c).After-first_out in
    sym (none_shift (c.args.self.now.window.base / 32) _ (sym c.in-None.is ∙ shifted at))
