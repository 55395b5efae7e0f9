-- A deck without a fault has its statements in their sequence, with all fields in range.
use Rattle.std.proofs.Common.{◌≡◌, ℕ, ◌<◌, length, Bool, true, false, not, cond, eqb, List, [], ◌∷◌, ◌++◌, get_or, set, Option, Some, None, refl, sym, ap}
use Rattle.std.proofs.Common.{subst, ◌∙◌, arith, inl, inr, zero, suc}
use Rattle.std.proofs.lemmas.List.{length-set, get_or-set_same}
use Rattle.std.specs.Prelude.{◌≢◌, ◌⊎◌}
use Rattle.std.specs.List.{flat_map}
use Rattle.std.proofs.lemmas.List.Concat.{flat_map-cons}
use Rattle.kdf_usercode.specs.declared.fault.DeckFault.{DeckFault}
use Rattle.kdf_usercode.specs.declared.fault.DeckFault.TheVariants as faults
use Rattle.kdf_usercode.specs.declared.bytes.ByteAt.{ByteAt}
use Rattle.kdf_usercode.specs.declared.phase.Phase.{Phase}
use Rattle.kdf_usercode.specs.declared.phase.Stage.{Stage}
use Rattle.kdf_usercode.specs.declared.phase.Stage.TheVariants.{Heading, Constants, Body, Ended}
use Rattle.kdf_usercode.specs.declared.statement.Statement.{Statement}
use Rattle.kdf_usercode.specs.declared.stores.Direction.{Direction}
use Rattle.kdf_usercode.specs.declared.stores.Direction.TheVariants.{Fetch, Keep}
use Rattle.kdf_usercode.specs.declared.stores.StoreName.{StoreName}
use Rattle.kdf_usercode.specs.declared.stores.StoreName.TheVariants as names
use Rattle.kdf_usercode.specs.declared.stores.Suffix.{Suffix}
use Rattle.kdf_usercode.specs.declared.stores.Suffix.TheVariants as suffixes
use Rattle.kdf_usercode.specs.declared.forms.Form.{Form}
use Rattle.kdf_usercode.specs.declared.forms.Form.TheVariants as forms
use Rattle.kdf_usercode.specs.Faults.{FoundFault, founds}
use Rattle.kdf_usercode.specs.Parsed.{Parsed, parsed, statements_in}
use Rattle.kdf_usercode.specs.Pieces.{codes_of}
use Rattle.kdf_usercode.specs.Shape.{shape}
use Rattle.kdf_usercode.specs.Range.{range_faults}
use Rattle.kdf_usercode.specs.Stores.{declared_group, access_of}
use Rattle.kdf_usercode.specs.Forms.{ranges_of, text_faults, what_of, store_of}
use Rattle.kdf_usercode.specs.Phase.{ends, is_ended, is_new, is_in_place, in_stage, stage_with, with_group, declared_with, phase_with}
use Rattle.kdf_usercode.specs.Grammar.{form_faults, statement_faults, phase_after, statements_of, faults_from, statements_from}
use Rattle.kdf_usercode.specs.WellFormed.{AreInRange, follows, IsSequence, group_of, NoneDeclares, DeclareOnce}
use Rattle.kdf_usercode.proofs.Ranges.{nil-append}
use Rattle.kdf_usercode.proofs.Optional.{Holds, holds-found}
use Rattle.kdf_usercode.proofs.InTables.{HasGroup, IsForm, form-in}
use Rattle.kdf_usercode.proofs.Fits.{what-fits}

-- ---- one statement without a fault

-- a statement without a fault has a form, is in its place, and its numbers are in their ranges
record Sound (phase : Phase) (w : Parsed) (form : Form) : Type 0 where
  pub goes : is_ended phase ≡ false
  pub is_form : w.form ≡ Some form
  pub ranges : range_faults (ranges_of form) w.numbers ≡ []
  pub text : text_faults form w.text ≡ []
  pub placed : is_in_place phase form ≡ true

founds-none : (place : ℕ) (fs : List DeckFault) → founds place fs ≡ [] → fs ≡ []
founds-none place [] e = refl
founds-none place (f ∷ fs) e = absurd cc

pub none-there : (fs gs : List FoundFault) → fs ++ gs ≡ [] → (fs ≡ []) × (gs ≡ [])
none-there [] gs e = (refl, e)
none-there (f ∷ fs) gs e = absurd cc

no-heading : (b : Bool) → cond b [] (faults.BadHeading ∷ []) ≡ [] → b ≡ true
no-heading true e = refl
no-heading false e = absurd cc

sound-form : (phase : Phase) (w : Parsed) (o : Option Form) → is_ended phase ≡ false → w.form ≡ o
    → form_faults phase w o ≡ [] → (form : Form) × Sound phase w form
sound-form phase w None g i e = absurd cc
sound-form phase w (Some form) g i e =
    let a = nil-append (range_faults (ranges_of form) w.numbers ++ text_faults form w.text) (cond (is_in_place phase form) [] (faults.BadHeading ∷ [])) e in
    let b = nil-append (range_faults (ranges_of form) w.numbers) (text_faults form w.text) a.0 in
    (form, record { goes = g; is_form = i; ranges = b.0; text = b.1; placed = no-heading (is_in_place phase form) a.1 })

sound-phase : (phase : Phase) (w : Parsed) (b : Bool) → is_ended phase ≡ b
    → cond b (faults.AfterFinish ∷ []) (form_faults phase w w.form) ≡ []
    → (form : Form) × Sound phase w form
sound-phase phase w true g e = absurd cc
sound-phase phase w false g e = sound-form phase w w.form g refl e

sound : (phase : Phase) (w : Parsed) → statement_faults phase w ≡ [] → (form : Form) × Sound phase w form
unfolding statement_faults
sound phase w e = sound-phase phase w (is_ended phase) refl (founds-none w.place _ e)

-- the one statement, and the phase after it
one-statement : (phase : Phase) (w : Parsed) (form : Form) → Sound phase w form
    → statements_of phase w ≡ record { place = w.place; what = what_of phase.stage form w.numbers w.text } ∷ []
unfolding statements_of
one-statement phase w form s = rw s.is_form refl

next-phase : (phase : Phase) (w : Parsed) (form : Form) → Sound phase w form
    → phase_after phase w ≡ phase_with phase form
unfolding phase_after
next-phase phase w form s = rw (s.goes, s.is_form) refl

-- ---- the stages

access-follows : (stage : Stage) (direction : Direction) (name : StoreName) (suffix : Suffix) (ns : List ℕ)
    → stage ≡ Constants ⊎ stage ≡ Body
    → follows stage (access_of direction name suffix ns) ≡ Some Body
access-follows stage Keep name suffix ns (inl e) = rw e refl
access-follows stage Keep name suffix ns (inr e) = rw e refl
access-follows stage Fetch name suffix ns (inl e) = rw e refl
access-follows stage Fetch name suffix ns (inr e) = rw e refl

heading-follows : (declared : List Bool) (direction : Direction) (name : StoreName) (suffix : Suffix) (ns : List ℕ)
    → is_new declared (declared_group direction name suffix) ≡ true
    → follows Heading (store_of Heading direction name suffix ns) ≡ Some Heading
heading-follows declared Fetch (names.Y group) suffixes.Nothing ns e = refl
heading-follows declared Fetch (names.Y group) suffixes.M ns e = absurd cc
heading-follows declared Fetch (names.Y group) suffixes.MQ ns e = absurd cc
heading-follows declared Fetch names.V suffix ns e = absurd cc
heading-follows declared Fetch names.VOfPart suffix ns e = absurd cc
heading-follows declared Fetch names.E suffix ns e = absurd cc
heading-follows declared Keep name suffix ns e = absurd cc

-- where a statement stands in its place, what it says is in its sequence
stage-follows : (stage : Stage) (declared : List Bool) (form : Form) (ns text : List ℕ) → ends stage ≡ false
    → in_stage stage declared form ≡ true
    → follows stage (what_of stage form ns text) ≡ Some (stage_with stage form)
stage-follows Ended declared form ns text g e = absurd cc
stage-follows Heading declared forms.Program ns text g e = refl
stage-follows Heading declared forms.ProgramStores ns text g e = refl
stage-follows Heading declared forms.Part ns text g e = absurd cc
stage-follows Heading declared forms.PartStores ns text g e = absurd cc
stage-follows Heading declared forms.Finish ns text g e = absurd cc
stage-follows Heading declared forms.Star ns text g e = absurd cc
stage-follows Heading declared forms.Reference ns text g e = absurd cc
stage-follows Heading declared forms.Short ns text g e = absurd cc
stage-follows Heading declared (forms.Plain order) ns text g e = absurd cc
stage-follows Heading declared (forms.Constant value) ns text g e = absurd cc
stage-follows Heading declared (forms.Go test target) ns text g e = absurd cc
stage-follows Heading declared (forms.Access direction name suffix) ns text g e =
    heading-follows declared direction name suffix ns e
stage-follows Heading declared (forms.SetAddress name) ns text g e = absurd cc
stage-follows Constants declared forms.Program ns text g e = absurd cc
stage-follows Constants declared forms.ProgramStores ns text g e = absurd cc
stage-follows Constants declared forms.Part ns text g e = refl
stage-follows Constants declared forms.PartStores ns text g e = refl
stage-follows Constants declared forms.Finish ns text g e = refl
stage-follows Constants declared forms.Star ns text g e = refl
stage-follows Constants declared forms.Reference ns text g e = refl
stage-follows Constants declared forms.Short ns text g e = refl
stage-follows Constants declared (forms.Plain order) ns text g e = refl
stage-follows Constants declared (forms.Constant value) ns text g e = refl
stage-follows Constants declared (forms.Go test target) ns text g e = refl
stage-follows Constants declared (forms.Access direction name suffix) ns text g e =
    access-follows Constants direction name suffix ns (inl refl)
stage-follows Constants declared (forms.SetAddress name) ns text g e = refl
stage-follows Body declared forms.Program ns text g e = absurd cc
stage-follows Body declared forms.ProgramStores ns text g e = absurd cc
stage-follows Body declared forms.Part ns text g e = refl
stage-follows Body declared forms.PartStores ns text g e = refl
stage-follows Body declared forms.Finish ns text g e = refl
stage-follows Body declared forms.Star ns text g e = refl
stage-follows Body declared forms.Reference ns text g e = refl
stage-follows Body declared forms.Short ns text g e = refl
stage-follows Body declared (forms.Plain order) ns text g e = refl
stage-follows Body declared (forms.Constant value) ns text g e = absurd cc
stage-follows Body declared (forms.Go test target) ns text g e = refl
stage-follows Body declared (forms.Access direction name suffix) ns text g e =
    access-follows Body direction name suffix ns (inr refl)
stage-follows Body declared (forms.SetAddress name) ns text g e = refl

-- ---- the groups

set-keeps : (declared : List Bool) (i g : ℕ) → get_or declared g false ≡ true
    → get_or (set declared i true) g false ≡ true
set-keeps [] i g e = e
set-keeps (x ∷ xs) zero zero e = refl
set-keeps (x ∷ xs) zero (suc g) e = e
set-keeps (x ∷ xs) (suc i) zero e = e
set-keeps (x ∷ xs) (suc i) (suc g) e = set-keeps xs i g e

group-keeps : (declared : List Bool) (o : Option ℕ) (g : ℕ) → get_or declared g false ≡ true
    → get_or (with_group declared o) g false ≡ true
group-keeps declared None g e = e
group-keeps declared (Some i) g e = set-keeps declared i g e

-- a group stays declared
stays-declared : (declared : List Bool) (form : Form) (g : ℕ) → get_or declared g false ≡ true
    → get_or (declared_with declared form) g false ≡ true
stays-declared declared forms.Program g e = e
stays-declared declared forms.ProgramStores g e = e
stays-declared declared forms.Part g e = e
stays-declared declared forms.PartStores g e = e
stays-declared declared forms.Finish g e = e
stays-declared declared forms.Star g e = e
stays-declared declared forms.Reference g e = e
stays-declared declared forms.Short g e = e
stays-declared declared (forms.Plain order) g e = e
stays-declared declared (forms.Constant value) g e = e
stays-declared declared (forms.Go test target) g e = e
stays-declared declared (forms.Access direction name suffix) g e =
    group-keeps declared (declared_group direction name suffix) g e
stays-declared declared (forms.SetAddress name) g e = e

group-length : (declared : List Bool) (o : Option ℕ) → length (with_group declared o) ≡ length declared
group-length declared None = refl
group-length declared (Some i) = length-set declared i true

same-length : (declared : List Bool) (form : Form) → length (declared_with declared form) ≡ length declared
same-length declared forms.Program = refl
same-length declared forms.ProgramStores = refl
same-length declared forms.Part = refl
same-length declared forms.PartStores = refl
same-length declared forms.Finish = refl
same-length declared forms.Star = refl
same-length declared forms.Reference = refl
same-length declared forms.Short = refl
same-length declared (forms.Plain order) = refl
same-length declared (forms.Constant value) = refl
same-length declared (forms.Go test target) = refl
same-length declared (forms.Access direction name suffix) =
    group-length declared (declared_group direction name suffix)
same-length declared (forms.SetAddress name) = refl

-- a group that is declared here was not declared before, and is from here on
record Declares (declared next : List Bool) (g : ℕ) : Type 0 where
  pub fresh : get_or declared g false ≡ false
  pub later : get_or next g false ≡ true

not-false : (b : Bool) → not b ≡ true → b ≡ false
not-false true e = absurd cc
not-false false e = refl

access-none : (A : Type 0) (direction : Direction) (name : StoreName) (suffix : Suffix) (ns : List ℕ) (g : ℕ)
    → group_of (access_of direction name suffix ns) ≡ Some g → A
access-none A Keep name suffix ns g e = absurd cc
access-none A Fetch name suffix ns g e = absurd cc

store-declares : (stage : Stage) (declared : List Bool) (direction : Direction) (name : StoreName) (suffix : Suffix) (ns : List ℕ) (g : ℕ)
    → length declared ≡ 27 → HasGroup name
    → in_stage stage declared (forms.Access direction name suffix) ≡ true
    → group_of (store_of stage direction name suffix ns) ≡ Some g
    → Declares declared (with_group declared (declared_group direction name suffix)) g
store-declares Heading declared Fetch (names.Y group) suffixes.Nothing ns g len h e d =
    let same : group ≡ g = cc in
    let lt : group < length declared = omega (arith, h) in
    subst (λ (x : ℕ). Declares declared (set declared group true) x) same
    (record { fresh = not-false (get_or declared group false) e; later = get_or-set_same declared group true false lt })
store-declares Heading declared Fetch (names.Y group) suffixes.M ns g len h e d = absurd cc
store-declares Heading declared Fetch (names.Y group) suffixes.MQ ns g len h e d = absurd cc
store-declares Heading declared Fetch names.V suffix ns g len h e d = absurd cc
store-declares Heading declared Fetch names.VOfPart suffix ns g len h e d = absurd cc
store-declares Heading declared Fetch names.E suffix ns g len h e d = absurd cc
store-declares Heading declared Keep name suffix ns g len h e d = absurd cc
store-declares Constants declared direction name suffix ns g len h e d =
    access-none (Declares declared (with_group declared (declared_group direction name suffix)) g) direction name suffix ns g d
store-declares Body declared direction name suffix ns g len h e d =
    access-none (Declares declared (with_group declared (declared_group direction name suffix)) g) direction name suffix ns g d
store-declares Ended declared direction name suffix ns g len h e d =
    access-none (Declares declared (with_group declared (declared_group direction name suffix)) g) direction name suffix ns g d

form-declares : (stage : Stage) (declared : List Bool) (form : Form) (ns text : List ℕ) (g : ℕ)
    → length declared ≡ 27 → IsForm form
    → in_stage stage declared form ≡ true → group_of (what_of stage form ns text) ≡ Some g
    → Declares declared (declared_with declared form) g
form-declares stage declared forms.Program ns text g len h e d = absurd cc
form-declares stage declared forms.ProgramStores ns text g len h e d = absurd cc
form-declares stage declared forms.Part ns text g len h e d = absurd cc
form-declares stage declared forms.PartStores ns text g len h e d = absurd cc
form-declares stage declared forms.Finish ns text g len h e d = absurd cc
form-declares stage declared forms.Star ns text g len h e d = absurd cc
form-declares stage declared forms.Reference ns text g len h e d = absurd cc
form-declares stage declared forms.Short ns text g len h e d = absurd cc
form-declares stage declared (forms.Plain order) ns text g len h e d = absurd cc
form-declares stage declared (forms.Constant value) ns text g len h e d = absurd cc
form-declares stage declared (forms.Go test target) ns text g len h e d = absurd cc
form-declares stage declared (forms.Access direction name suffix) ns text g len h e d =
    store-declares stage declared direction name suffix ns g len h e d
form-declares stage declared (forms.SetAddress name) ns text g len h e d = absurd cc

-- ---- all statements

-- each form is one of those that a statement can have
abbrev pub AreForms : List Parsed → Type 0
AreForms [] = Unit {0}
AreForms (w ∷ ws) = Holds IsForm w.form × AreForms ws

forms-append : (ws vs : List Parsed) → AreForms ws → AreForms vs → AreForms (ws ++ vs)
forms-append [] vs a b = b
forms-append (w ∷ ws) vs a b = (a.0, forms-append ws vs a.1 b)

piece-forms : (piece : List ByteAt) → AreForms (statements_in piece)
piece-forms [] = tt
piece-forms (b ∷ bs) =
    elim (eqb b.byte 42) as (λ v. AreForms (cond v (parsed b.at (42 ∷ []) ∷ statements_in bs) (parsed b.at (codes_of (b ∷ bs)) ∷ [])))
    [ true ↦ (form-in (shape (42 ∷ [])) (42 ∷ []), piece-forms bs) | false ↦ (form-in (shape (codes_of (b ∷ bs))) (codes_of (b ∷ bs)), tt) ]

pub pieces-forms : (ps : List (List ByteAt)) → AreForms (flat_map statements_in ps)
pieces-forms [] = tt
pieces-forms (p ∷ ps) =
    rw flat_map-cons (forms-append (statements_in p) (flat_map statements_in ps) (piece-forms p) (pieces-forms ps))

-- the first of the statements is sound, and there is no fault in those after it
record Goes (phase : Phase) (len : ℕ) (w : Parsed) (ws : List Parsed) (tail : List ByteAt) : Type 0 where
  pub form : Form
  pub here : Sound phase w form
  pub is : IsForm form
  pub later : faults_from (phase_with phase form) len ws tail ≡ []
  pub statements : statements_from phase (w ∷ ws) ≡ record { place = w.place; what = what_of phase.stage form w.numbers w.text } ∷ statements_from
      (phase_with phase form) ws

goes : (phase : Phase) (len : ℕ) (w : Parsed) (ws : List Parsed) (tail : List ByteAt) → Holds IsForm w.form
    → faults_from phase len (w ∷ ws) tail ≡ [] → Goes phase len w ws tail
goes phase len w ws tail f e =
    let n = none-there (statement_faults phase w) (faults_from (phase_after phase w) len ws tail) e in
    let s = sound phase w n.0 in
    let next = next-phase phase w s.0 s.1 in
    record {
      form = s.0;
      here = s.1;
      is = holds-found IsForm w.form s.0 f s.1.is_form;
      later = ap (λ (p : Phase). faults_from p len ws tail) (sym next) ∙ n.1;
      statements = ap (λ (ss : List Statement). ss ++ statements_from (phase_after phase w) ws) (one-statement phase w s.0 s.1)
          ∙ ap (λ (p : Phase). record { place = w.place; what = what_of phase.stage s.0 w.numbers w.text } ∷ statements_from p ws) next;
    }

pub are-in-range : (phase : Phase) (len : ℕ) (ws : List Parsed) (tail : List ByteAt) → AreForms ws
    → faults_from phase len ws tail ≡ [] → AreInRange (statements_from phase ws)
are-in-range phase len [] tail f e = tt
are-in-range phase len (w ∷ ws) tail f e =
    let g = goes phase len w ws tail f.0 e in
    subst AreInRange (sym g.statements)
    (what-fits phase.stage g.form w.numbers w.text g.is g.here.ranges g.here.text, are-in-range (phase_with phase g.form) len ws tail f.1 g.later)

end-sound : (b : Bool) (front back : List FoundFault) (last : FoundFault) → cond b front (back ++ last ∷ []) ≡ []
    → b ≡ true
end-sound true front back last e = refl
end-sound false front back last e = let h = none-there back (last ∷ []) e in absurd cc

pub is-sequence : (phase : Phase) (len : ℕ) (ws : List Parsed) (tail : List ByteAt) → AreForms ws
    → faults_from phase len ws tail ≡ [] → IsSequence phase.stage (statements_from phase ws)
is-sequence phase len [] tail f e = end-sound (is_ended phase) _ _ _ e
is-sequence phase len (w ∷ ws) tail f e =
    let g = goes phase len w ws tail f.0 e in
    subst (IsSequence phase.stage) (sym g.statements) (
      stage_with phase.stage g.form,
      stage-follows phase.stage phase.declared g.form w.numbers w.text g.here.goes g.here.placed,
      is-sequence (phase_with phase g.form) len ws tail f.1 g.later,
    )

-- a group that is declared isn't declared again
none-again : (phase : Phase) (len : ℕ) (ws : List Parsed) (tail : List ByteAt) (g : ℕ) → AreForms ws
    → length phase.declared ≡ 27 → get_or phase.declared g false ≡ true
    → faults_from phase len ws tail ≡ [] → NoneDeclares (Some g) (statements_from phase ws)
none-again phase len [] tail g f l d e = tt
none-again phase len (w ∷ ws) tail g f l d e =
    let s = goes phase len w ws tail f.0 e in
    let here : group_of (what_of phase.stage s.form w.numbers w.text) ≢ Some g
    = λ same. let h = form-declares phase.stage phase.declared s.form w.numbers w.text g l s.is s.here.placed same in let f = h.fresh in absurd cc in
    subst (NoneDeclares (Some g)) (sym s.statements)
    (here, none-again (phase_with phase s.form) len ws tail g f.1 (same-length phase.declared s.form ∙ l) (stays-declared phase.declared s.form g d) s.later)

behind-group : (o : Option ℕ) (ss : List Statement) → ((g : ℕ) → o ≡ Some g → NoneDeclares (Some g) ss)
    → NoneDeclares o ss
behind-group None ss h = tt
behind-group (Some g) ss h = h g refl

pub declare-once : (phase : Phase) (len : ℕ) (ws : List Parsed) (tail : List ByteAt) → AreForms ws
    → length phase.declared ≡ 27 → faults_from phase len ws tail ≡ []
    → DeclareOnce (statements_from phase ws)
declare-once phase len [] tail f l e = tt
declare-once phase len (w ∷ ws) tail f l e =
    let s = goes phase len w ws tail f.0 e in
    let next = same-length phase.declared s.form ∙ l in
    subst DeclareOnce (sym s.statements) (
      behind-group (group_of (what_of phase.stage s.form w.numbers w.text)) (statements_from (phase_with phase s.form) ws)
          (λ g same. none-again (phase_with phase s.form) len ws tail g f.1 next
          (form-declares phase.stage phase.declared s.form w.numbers w.text g l s.is s.here.placed same).later s.later),
      declare-once (phase_with phase s.form) len ws tail f.1 next s.later,
    )
