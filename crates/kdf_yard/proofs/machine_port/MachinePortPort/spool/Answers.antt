use Rattle.std.proofs.Common.{◌≡◌, ℕ, ◌+◌, ◌-◌, ◌∷◌, ◌++◌, [], List, map, refl, ap, ap₂, ◌∙◌, sym, subst}
use Rattle.std.specs.List.{range_with_len}
use Rattle.kdf_word.specs.Characters.{codes_of_all}
use Rattle.kdf_lockout.specs.Groups.{word_here}
use Rattle.kdf_media.specs.Media.{through_end}
use Rattle.kdf_processor.specs.declared.spooled.Spooled.{Spooled}
use Rattle.kdf_yard.specs.Fields.Parts.{Part, own_text}
use Rattle.kdf_places.specs.Transfers.{IsFreeArea}
use Rattle.kdf_yard.specs.Fields.MachinePort.{part_of, shared}
use Rattle.kdf_yard.proofs.Physical.TransfersBegin.{free_area}
use Rattle.kdf_yard.proofs.Physical.AreaTexts.{area_here}
use Rattle.kdf_yard.proofs.machine_port.MachinePortPort.spool.Goals as goal
use Rattle.kdf_yard.proofs.machine_port.MachinePortPort.spool.Goals.{After-place-to, After-text_of-text}

-- the area in the store
free : (c : After-place-to) → IsFreeArea c.args.self.now.store.now (c.args.self.now.window.base + c.args.first) (c.args.self.now.window.base + c.args.last)
free c =
    let t = c.args.self.now in
    free_area t.store.now t.window.base t.window.size c.args.first c.args.last t.at_group t.in_store c.requires.area c.requires.free

pub text_of-text-requires-clause-area : goal.text_of-text-requires-clause-area
text_of-text-requires-clause-area c =
    let at = (goal.at.text_of-text-requires-clause-area c).After-place-to in
    let t = c.args.self.now in
    subst (λ f. IsFreeArea t.store.now f c.place-to.result) (sym c.place-from.ensures)
    (subst (λ l. IsFreeArea t.store.now (t.window.base + c.args.first) l) (sym c.place-to.ensures) (free at))

-- its text
text : (c : After-text_of-text) → IsFreeArea c.args.self.now.store.now (c.args.self.now.window.base + c.args.first) (c.args.self.now.window.base + c.args.last)
    → c.text_of-text.result ≡ own_text (part_of c.args.self.now) (shared c.args.self.now) c.args.first c.args.last
text c is =
    let t = c.args.self.now in
    c.text_of-text.ensures
    ∙ ap₂ (λ f l. through_end (codes_of_all (map (word_here t.store.now) (range_with_len f (l + 1 - f))))) c.place-from.ensures c.place-to.ensures
    ∙ sym (ap (λ ws. through_end (codes_of_all ws)) (area_here (part_of t) (shared t) c.args.first c.args.last c.requires.area is))

abbrev one : ℕ → List ℕ → Spooled
one stream text = record { stream = stream; text = text }

pub returns : goal.returns
returns c =
    let to = (goal.at.returns c).After-place-to in
    let of = (goal.at.returns c).After-text_of-text in
    let t = c.args.self.now in
    let items = c.push_reserved.ensures.items ∙ ap (λ x. t.spooled.now.items ++ one c.args.stream x ∷ []) (text of (free to)) in
    record {
      same = record { moment = refl; journal = refl; claimed = refl; spooled = refl; stints = refl; store = refl; places = refl; block = refl };
      part = ap (λ xs. let q : Part = record (part_of t) { spooled = xs } in q) items;
      shared = refl;
      note = refl;
    }
