-- References whose order is found.
use Rattle.std.proofs.Common.{◌≡◌, ℕ, ◌+◌, ◌<◌, ◌≤◌, ◌||◌, if◌then◌else◌, List, [], ◌∷◌, ◌++◌, length, get_or, set, take, drop, map, append_assoc, refl, sym}
use Rattle.std.proofs.Common.{ap, ap₂, ◌∙◌, add-one, length-append, arith}
use Rattle.std.proofs.Math.Seq.{set-append_seam, get_or-append_seam, drop-cons}
use Rattle.std.proofs.lemmas.List.{append-nil, at_drop_all, at_drop_more, drop-append-le, map-append, length-map, take_more, length-take-le, take-append-le}
use Rattle.kdf_usercode.specs.declared.statement.Statement.{Statement}
use Rattle.kdf_usercode.specs.declared.statement.What.{What}
use Rattle.kdf_usercode.specs.declared.statement.What.TheVariants.{Reference}
use Rattle.kdf_place.specs.declared.here.Here.{Here}
use Rattle.kdf_place.specs.declared.here.Section.{Section}
use Rattle.kdf_place.specs.declared.names.Entry.{Entry}
use Rattle.kdf_place.specs.declared.names.Mark.{Mark}
use Rattle.kdf_place.specs.Layout.{after, is_order, is_opening, next_order}
use Rattle.kdf_place.specs.Names.{label_at, labels}
use Rattle.kdf_place.specs.Pending.{settled_one, settled, waiting}

-- one reference more is settled
pub settle-step : (ls now : List (Entry Mark)) (i at : ℕ) (d : Entry Mark) → now ≡ settled (take i ls) at ++ drop i ls → i < length ls
    → set now i (settled_one at (get_or now i d)) ≡ settled (take (i + 1) ls) at ++ drop (i + 1) ls
settle-step ls now i at d is lt =
    let front = settled (take i ls) at in
    let x = get_or ls i d in
    let back = drop (i + 1) ls in
    let split : now ≡ front ++ x ∷ back = is ∙ ap (λ (es : List (Entry Mark)). front ++ es) (rw add-one (drop-cons ls i d lt)) in
    let long : length front ≡ i = length-map (take i ls) (settled_one at) ∙ length-take-le i ls (omega (arith, lt)) in
    let same : get_or now i d ≡ x =
    ap (λ (es : List (Entry Mark)). get_or es i d) split ∙ ap (λ (j : ℕ). get_or (front ++ x ∷ back) j d) (sym long) ∙ get_or-append_seam front x back d in
    let more : settled (take (i + 1) ls) at ≡ front ++ settled_one at x ∷ [] =
    ap (map (settled_one at)) (take_more ls i d lt) ∙ map-append (settled_one at) (take i ls) (x ∷ []) in
    ap (λ (e : Entry Mark). set now i (settled_one at e)) same
    ∙ ap (λ (es : List (Entry Mark)). set es i (settled_one at x)) split
    ∙ ap (λ (j : ℕ). set (front ++ x ∷ back) j (settled_one at x)) (sym long)
    ∙ set-append_seam front x back (settled_one at x)
    ∙ sym (append_assoc front (settled_one at x ∷ []) back)
    ∙ ap (λ (es : List (Entry Mark)). es ++ back) (sym more)

-- more references that wait
waiting-append : (known : ℕ) (ls more : List (Entry Mark)) (at : ℕ) → known ≤ length ls → waiting known (ls ++ more) at ≡ waiting known ls at ++ settled more at
waiting-append known ls more at within =
    let front : take known (ls ++ more) ≡ take known ls = take-append-le known ls more within in
    let back : settled (drop known (ls ++ more)) at ≡ settled (drop known ls) at ++ settled more at =
    ap (map (settled_one at)) (drop-append-le known ls more within) ∙ map-append (settled_one at) (drop known ls) more in
    ap₂ (λ (xs ys : List (Entry Mark)). xs ++ ys) front back ∙ sym (append_assoc (take known ls) (settled (drop known ls) at) (settled more at))

pub within-more : (k : ℕ) (ls more out : List (Entry Mark)) → k ≤ length ls → out ≡ ls ++ more → k ≤ length out
within-more k ls more out within is = omega (arith, within, ap length is, length-append ls more)

settled-label : (what : What) (section : Section) (at later place : ℕ) → settled (label_at what section at place) later ≡ label_at what section later place
settled-label (Reference r) section at later place = refl
settled-label what section at later place = refl

-- one statement more: what waited before it is settled where it is an order or opens a part, and a reference waits after it
pub labels-step : (ls now out : List (Entry Mark)) (known k : ℕ) (here here' : Here) (i : ℕ) (ss : List Statement) (s : Statement) (all : List (Entry Mark))
    → i < length ss → s ≡ get_or ss i s → here' ≡ after here s → k ≤ length now
    → ((later : ℕ) → waiting k now later ≡ waiting known ls (if is_order s.what || is_opening s.what then here.at else later))
    → out ≡ now ++ label_at s.what here.section here.at s.place
    → waiting known ls (next_order here.at (drop i ss)) ++ labels here (drop i ss) ≡ all
    → waiting k out (next_order here'.at (drop (i + 1) ss)) ++ labels here' (drop (i + 1) ss) ≡ all
labels-step ls now out known k here here' i ss s all lt is h within told pushed before =
    let rest = drop (i + 1) ss in
    let f : List Statement → List (Entry Mark) = λ (xs : List Statement). waiting known ls (next_order here.at xs) ++ labels here xs in
    let split : f (drop i ss) ≡ f (s ∷ rest) = at_drop_more f ss i s lt ∙ ap (λ (x : Statement). f (x ∷ rest)) (sym is) in
    let at = next_order (after here s).at rest in
    let one = label_at s.what here.section at s.place in
    let old = waiting known ls (next_order here.at (s ∷ rest)) in
    let step : waiting k out at ≡ old ++ one =
    ap (λ (xs : List (Entry Mark)). waiting k xs at) pushed
    ∙ waiting-append k now (label_at s.what here.section here.at s.place) at within
    ∙ ap₂ (λ (xs ys : List (Entry Mark)). xs ++ ys) (told at) (settled-label s.what here.section here.at at s.place) in
    ap (λ (g : Here). waiting k out (next_order g.at rest) ++ labels g rest) h
    ∙ ap (λ (xs : List (Entry Mark)). xs ++ labels (after here s) rest) step
    ∙ append_assoc old one (labels (after here s) rest)
    ∙ sym split
    ∙ before

-- after the last statement they wait no more
pub labels-end : (ls : List (Entry Mark)) (known : ℕ) (here : Here) (i : ℕ) (ss : List Statement) (all : List (Entry Mark)) → length ss ≤ i
    → waiting known ls (next_order here.at (drop i ss)) ++ labels here (drop i ss) ≡ all → waiting known ls here.at ≡ all
labels-end ls known here i ss all past before =
    let f : List Statement → List (Entry Mark) = λ (xs : List Statement). waiting known ls (next_order here.at xs) ++ labels here xs in
    sym (append-nil (waiting known ls here.at)) ∙ sym (at_drop_all f ss i past) ∙ before
