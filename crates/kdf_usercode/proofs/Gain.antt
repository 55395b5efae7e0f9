-- What one statement adds.
use Rattle.std.proofs.Common.{◌≡◌, ℕ, true, false, cond, map, List, [], ◌∷◌, ◌++◌, Option, Some, None, refl, sym, ap, ◌∙◌}
use Rattle.kdf_usercode.specs.declared.fault.DeckFault.{DeckFault}
use Rattle.kdf_usercode.specs.declared.fault.DeckFault.TheVariants.{AfterFinish, BadHeading}
use Rattle.kdf_usercode.specs.declared.forms.Form.{Form}
use Rattle.kdf_usercode.specs.declared.phase.Phase.{Phase}
use Rattle.kdf_usercode.specs.declared.reading.Reading.{Reading}
use Rattle.kdf_usercode.specs.Faults.{FoundFault, lesser, least, founds}
use Rattle.kdf_usercode.specs.declared.statement.Statement.{Statement}
use Rattle.kdf_usercode.specs.declared.statement.What.{What}
use Rattle.kdf_usercode.specs.Capped.{capped}
use Rattle.kdf_usercode.specs.Range.{range_faults}
use Rattle.kdf_usercode.specs.Phase.{is_ended, is_in_place}
use Rattle.kdf_usercode.specs.Forms.{ranges_of, text_faults}
use Rattle.kdf_usercode.specs.Parsed.{Parsed}
use Rattle.kdf_usercode.specs.Orders.{formless}
use Rattle.kdf_usercode.specs.Grammar.{formed_faults, statement_faults, phase_after, statements_of}
use Rattle.kdf_usercode.specs.Reading.{ReadsForm, Reads}
use Rattle.kdf_usercode.specs.Thinned.{thinned, stars_behind}
use Rattle.kdf_usercode.proofs.Capped.{form-faults-capped, what-capped}
use Rattle.kdf_usercode.proofs.Ranges.{nil-append}
use Rattle.kdf_usercode.proofs.Least.{none-before, none-behind, no-founds, least-front, founds-append}

-- a fault more leaves no statements to speak of
not-none : {A : Type 0} (best best' : Option FoundFault) (x : FoundFault) → best' ≡ lesser best (Some x)
    → best' ≡ None → A
not-none best best' x e none = let h : Some x ≡ None = none-behind best (Some x) (sym e ∙ none) in absurd cc

pub reads-ended : (old : Reading) (best' : Option FoundFault) (s : Parsed) → is_ended old.phase ≡ true
    → best' ≡ lesser old.best (Some (record { fault = AfterFinish; place = s.place }))
    → Reads old (record old { best = best' }) s
unfolding phase_after statement_faults
reads-ended old best' s ended e = record {
  phase = rw ended refl;
  best = rw ended e;
  statements = λ none. not-none old.best best' (record { fault = AfterFinish; place = s.place }) e none;
  stars = λ none. not-none old.best best' (record { fault = AfterFinish; place = s.place }) e none;
}

pub reads-formless : (old : Reading) (best' : Option FoundFault) (s : Parsed) → is_ended old.phase ≡ false
    → s.form ≡ None
    → best' ≡ lesser old.best (Some (record { fault = formless s.shape; place = s.place }))
    → Reads old (record old { best = best' }) s
unfolding phase_after statement_faults
reads-formless old best' s goes none-of e = record {
  phase = rw (goes, none-of) refl;
  best = rw (goes, none-of) e;
  statements = λ none. not-none old.best best' (record { fault = formless s.shape; place = s.place }) e none;
  stars = λ none. not-none old.best best' (record { fault = formless s.shape; place = s.place }) e none;
}

pub reads-form : (old new : Reading) (s : Parsed) (form : Form) → is_ended old.phase ≡ false
    → s.form ≡ Some form
    → ReadsForm old new s.place form s.numbers s.text → Reads old new s
unfolding phase_after statement_faults statements_of
reads-form old new s form goes is-form h = rw (goes, is-form) h

-- ---- numbers that are held

faults-capped : (phase : Phase) (form : Form) (ns text : List ℕ)
    → formed_faults phase form (map capped ns) text ≡ formed_faults phase form ns text
faults-capped phase form ns text =
    let there : List DeckFault = cond (is_in_place phase form) [] (BadHeading ∷ []) in
    ap (λ (fs : List DeckFault). (fs ++ text_faults form text) ++ there) (form-faults-capped form ns)

none-out : (best new : Option FoundFault) (place : ℕ) (a b c : List DeckFault)
    → new ≡ lesser best (least (founds place ((a ++ b) ++ c))) → new ≡ None → a ≡ []
none-out best new place a b c e none =
    let all = no-founds place ((a ++ b) ++ c) (none-behind best (least (founds place ((a ++ b) ++ c))) (sym e ∙ none)) in
    (nil-append a b (nil-append (a ++ b) c all).0).0

-- a statement is read as well by the numbers that are held
pub reads-capped : (old new : Reading) (place : ℕ) (form : Form) (ns text : List ℕ)
    → ReadsForm old new place form (map capped ns) text → ReadsForm old new place form ns text
reads-capped old new place form ns text h =
    let best : new.best ≡ lesser old.best (least (founds place (formed_faults old.phase form ns text)))
    = h.best ∙ ap (λ (fs : List DeckFault). lesser old.best (least (founds place fs))) (faults-capped old.phase form ns text) in
    let one : What → List Statement = λ what. record { place = place; what = what } ∷ [] in
    let same = λ (none : new.best ≡ None). what-capped old.phase.stage form ns text
    (none-out old.best new.best place (range_faults (ranges_of form) ns) (text_faults form text)
    (cond (is_in_place old.phase form) [] (BadHeading ∷ [])) best none) in
    record {
      phase = h.phase;
      best = best;
      statements = λ none. h.statements none ∙ ap (λ (what : What). old.statements.items ++ thinned old.stars (one what)) (same none);
      stars = λ none. h.stars none ∙ ap (λ (what : What). stars_behind old.stars (one what)) (same none);
    }

-- faults of two kinds at one place, one after the other
pub two-kinds : (best : Option FoundFault) (place : ℕ) (fs gs : List DeckFault)
    → lesser (lesser best (least (founds place fs))) (least (founds place gs)) ≡ lesser best (least (founds place (fs ++ gs)))
two-kinds best place fs gs =
    least-front best (founds place fs) (founds place gs) ∙ ap (λ x. lesser best (least x)) (sym (founds-append place fs gs))

pub no-fault : (best : Option FoundFault) (place : ℕ) (fs gs : List DeckFault)
    → lesser (lesser best (least (founds place fs))) (least (founds place gs)) ≡ None → fs ≡ []
no-fault best place fs gs none =
    no-founds place fs (none-behind best (least (founds place fs)) (none-before (lesser best (least (founds place fs))) (least (founds place gs)) none))
