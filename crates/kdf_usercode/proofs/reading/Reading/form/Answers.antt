use Rattle.std.proofs.Common.{◌≡◌, List, [], ◌∷◌, ◌++◌, true, false, is_none, cond, Option, Some, None, refl, arith, sym, ap, ◌∙◌}
use Rattle.kdf_usercode.specs.declared.fault.DeckFault.{DeckFault}
use Rattle.kdf_usercode.specs.declared.fault.DeckFault.TheVariants.{BadHeading}
use Rattle.kdf_usercode.specs.Range.{range_faults}
use Rattle.kdf_usercode.specs.Forms.{ranges_of, text_faults}
use Rattle.kdf_usercode.specs.Faults.{lesser, least, founds}
use Rattle.kdf_usercode.specs.Phase.{is_in_place}
use Rattle.kdf_usercode.proofs.Ranges.{nil-append}
use Rattle.kdf_usercode.proofs.Gain.{two-kinds, no-fault}
use Rattle.kdf_usercode.proofs.reading.Reading.form.Goals as goal
use Rattle.kdf_usercode.proofs.reading.Reading.form.Goals.{then-is_none+in_ok-keep, else-is_none}

none-is : {A : Type 0} (o : Option A) → is_none o ≡ true → o ≡ None
none-is None e = refl
none-is (Some x) e = absurd cc

is-none : {A B : Type 0} (o : Option A) → is_none o ≡ false → o ≡ None → B
is-none None e n = absurd cc
is-none (Some x) e n = absurd cc

pub keep-requires : goal.keep-requires
keep-requires c =
    let best = c.args.self.now.best in
    let place = c.args.place in
    let here = range_faults (ranges_of c.args.form) c.args.numbers.now in
    let texts = text_faults c.args.form c.args.text.now in
    let gs : List DeckFault = cond (is_in_place c.args.self.now.phase c.args.form) [] (BadHeading ∷ []) in
    let h = c.with_text-best.ensures ∙ ap (λ o. lesser o (least (founds place texts))) c.with_numbers-best.ensures ∙ two-kinds best place here texts in
    let none = no-fault best place (here ++ texts) gs
    (ap (λ o. lesser o (least (founds place gs))) (sym h) ∙ sym c.with_heading-best.ensures ∙ none-is c.with_heading-best.result (grind arith)) in
    record { numbers = (nil-append here texts none).0; text = (nil-append here texts none).1 }

pub returns : goal.returns
returns c =
    let best = c.args.self.now.best in
    let place = c.args.place in
    let here = range_faults (ranges_of c.args.form) c.args.numbers.now in
    let texts = text_faults c.args.form c.args.text.now in
    let gs : List DeckFault = cond (is_in_place c.args.self.now.phase c.args.form) [] (BadHeading ∷ []) in
    let h = c.with_text-best.ensures ∙ ap (λ o. lesser o (least (founds place texts))) c.with_numbers-best.ensures ∙ two-kinds best place here texts in
    record {
      phase = c.phase_with-phase.ensures;
      best = c.with_heading-best.ensures ∙ ap (λ o. lesser o (least (founds place gs))) h ∙ two-kinds best place (here ++ texts) gs;
      statements = λ none. elim c.if-is_none.branch [
        | then-is_none+in_ok-keep w ↦ rw w.self-is w.in_ok-keep.ensures.statements
        | else-is_none w ↦ is-none c.with_heading-best.result (grind arith) none
      ];
      stars = λ none. elim c.if-is_none.branch [
        | then-is_none+in_ok-keep w ↦ rw w.self-is w.in_ok-keep.ensures.stars
        | else-is_none w ↦ is-none c.with_heading-best.result (grind arith) none
      ];
    }
