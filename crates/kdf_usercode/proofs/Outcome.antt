-- One statement, or one byte, on the way through a deck.
use Rattle.std.proofs.Common.{◌≡◌, ℕ, ◌+◌, ◌<◌, length, get_or, drop, false, eqb, List, [], ◌∷◌, ◌++◌, Option, Some, None, Ok, refl, sym, ap, ◌∙◌, append_assoc}
use Rattle.std.proofs.lemmas.List.{append-nil, at_drop_more}
use Rattle.std.proofs.lemmas.List.Concat.{flat_map-cons}
use Rattle.std.specs.List.{flat_map}
use Rattle.kdf_usercode.specs.declared.bytes.ByteAt.{ByteAt}
use Rattle.kdf_usercode.specs.declared.phase.Phase.{Phase}
use Rattle.kdf_usercode.specs.declared.stars.Stars.{Stars}
use Rattle.kdf_usercode.specs.declared.statement.Statement.{Statement}
use Rattle.kdf_usercode.specs.declared.reading.Reading.{Reading}
use Rattle.std.proofs.lemmas.Bool.{ne_eqb}
use Rattle.kdf_usercode.specs.Comments.{kept}
use Rattle.kdf_usercode.specs.Faults.{FoundFault, lesser, least}
use Rattle.kdf_usercode.specs.Parsed.{Parsed, statements_in, parses, parsed}
use Rattle.kdf_usercode.specs.Pieces.{Cut, onto, in_front, cut_before, cut, codes_of}
use Rattle.kdf_usercode.specs.Grammar.{bytes_faults, comment_faults, statement_faults, phase_after, statements_of, faults_from, statements_from, verdict}
use Rattle.kdf_usercode.specs.Phase.{start}
use Rattle.kdf_usercode.specs.Reading.{Reads, outcome, with_ahead}
use Rattle.kdf_usercode.specs.Thinned.{thinned, stars_behind, thinned_deck}
use Rattle.kdf_usercode.proofs.Least.{some-stays, least-between, least-front}
use Rattle.kdf_usercode.proofs.Thinned.{thinned-append}

-- a verdict where the statements are only known while there is no fault
same-verdict : (best later : Option FoundFault) (ss ss' : List Statement) → (best ≡ None → ss ≡ ss')
    → verdict (lesser best later) ss ≡ verdict (lesser best later) ss'
same-verdict None None ss ss' h = ap (λ x. Ok x) (h refl)
same-verdict None (Some y) ss ss' h = refl
same-verdict (Some x) later ss ss' h = let z = some-stays x later in rw (z.1) refl

-- one statement more was read
pub outcome-statement : (old new : Reading) (w : Parsed) (len : ℕ) (front : List FoundFault) (ws : List Parsed) (tail : List ByteAt)
    → Reads old new w
    → outcome new.phase new.best new.stars new.statements.items len front ws tail
    ≡ outcome old.phase old.best old.stars old.statements.items len front (w ∷ ws) tail
outcome-statement old new w len front ws tail h =
    let later = faults_from (phase_after old.phase w) len ws tail in
    let more = statements_from (phase_after old.phase w) ws in
    let mine = statements_of old.phase w in
    let kept_now = new.statements.items ++ thinned new.stars more in
    let here = old.statements.items ++ thinned old.stars (mine ++ more) in
    let step1 : outcome new.phase new.best new.stars new.statements.items len front ws tail ≡ verdict (lesser new.best (least (front ++ later))) kept_now
    = rw h.phase refl in
    let step2 : verdict (lesser new.best (least (front ++ later))) kept_now ≡ verdict (lesser new.best (least (front ++ later))) here
    = same-verdict new.best (least (front ++ later)) kept_now here (λ none. ap (λ x. x ++ thinned new.stars more) (h.statements none)
    ∙ ap (λ (k : Stars). (old.statements.items ++ thinned old.stars mine) ++ thinned k more) (h.stars none)
    ∙ append_assoc old.statements.items (thinned old.stars mine) (thinned (stars_behind old.stars mine) more)
    ∙ ap (λ (x : List Statement). old.statements.items ++ x) (sym (thinned-append old.stars mine more))) in
    let step3 : verdict (lesser new.best (least (front ++ later))) here
    ≡ outcome old.phase old.best old.stars old.statements.items len front (w ∷ ws) tail
    = ap (λ o. verdict o here) (ap (λ o. lesser o (least (front ++ later))) h.best ∙ least-between old.best front (statement_faults old.phase w) later) in
    step1 ∙ step2 ∙ step3

-- one byte more was looked at
pub outcome-byte : (phase : Phase) (best : Option FoundFault) (stars : Stars) (ss : List Statement) (len : ℕ) (here front : List FoundFault)
    (ws : List Parsed) (tail : List ByteAt)
    (best' : Option FoundFault)
    → best' ≡ lesser best (least here)
    → outcome phase best' stars ss len front ws tail ≡ outcome phase best stars ss len (here ++ front) ws tail
outcome-byte phase best stars ss len here front ws tail best' b =
    let later = faults_from phase len ws tail in
    let e : lesser best' (least (front ++ later)) ≡ lesser best (least ((here ++ front) ++ later))
    = ap (λ o. lesser o (least (front ++ later))) b
    ∙ least-front best here (front ++ later)
    ∙ ap (λ x. lesser best (least x)) (sym (append_assoc here front later)) in
    ap (λ o. verdict o (ss ++ thinned stars (statements_from phase ws))) e

-- a byte, whether it stays or not
pub with_ahead-byte : (r : Reading) (best' : Option FoundFault) (here : List FoundFault) (piece : List ByteAt) (len : ℕ) (bad : List FoundFault)
    (ahead : List ByteAt)
    → best' ≡ lesser r.best (least here)
    → with_ahead (record r { best = best' }) piece len bad ahead ≡ with_ahead r piece len (here ++ bad) ahead
with_ahead-byte r best' here piece len bad ahead b =
    let c = in_front piece (cut ahead) in
    let opened = flat_map comment_faults ahead in
    outcome-byte r.phase r.best r.stars r.statements.items len here (bad ++ opened) (parses c) c.tail best' b
    ∙ ap (λ x. outcome r.phase r.best r.stars r.statements.items len x (parses c) c.tail) (sym (append_assoc here bad opened))

-- a comment that isn't closed is found before the bytes ahead
pub outcome-comment : (phase : Phase) (best : Option FoundFault) (stars : Stars) (ss : List Statement) (len : ℕ) (k : ByteAt)
    (bad : List FoundFault) (ahead : List ByteAt)
    (ws : List Parsed) (tail : List ByteAt) (best' : Option FoundFault)
    → best' ≡ lesser best (least (comment_faults k))
    → outcome phase best' stars ss len (bad ++ flat_map comment_faults ahead) ws tail
    ≡ outcome phase best stars ss len (bad ++ flat_map comment_faults (k ∷ ahead)) ws tail
outcome-comment phase best stars ss len k bad ahead ws tail best' b =
    let opened = flat_map comment_faults ahead in
    let here = comment_faults k in
    let later = faults_from phase len ws tail in
    let e : lesser best' (least ((bad ++ opened) ++ later)) ≡ lesser best (least ((bad ++ flat_map comment_faults (k ∷ ahead)) ++ later))
    = ap (λ o. lesser o (least ((bad ++ opened) ++ later))) b
    ∙ ap (λ x. lesser (lesser best (least here)) (least x)) (append_assoc bad opened later)
    ∙ least-between best bad here (opened ++ later)
    ∙ ap (λ x. lesser best (least (bad ++ x))) (sym (append_assoc here opened later) ∙ ap (λ x. x ++ later) (sym (flat_map-cons comment_faults k ahead)))
    ∙ ap (λ x. lesser best (least x)) (sym (append_assoc bad (flat_map comment_faults (k ∷ ahead)) later)) in
    ap (λ o. verdict o (ss ++ thinned stars (statements_from phase ws))) e

-- ---- cutting

onto-onto : (a b : List ByteAt) (ps : List (List ByteAt)) (tail : List ByteAt)
    → in_front a (onto b ps tail) ≡ onto (a ++ b) ps tail
onto-onto a b [] tail = ap (λ (x : List ByteAt). onto [] [] x) (sym (append_assoc a b tail))
onto-onto a b (p ∷ ps) tail = ap (λ (x : List ByteAt). onto [] (x ∷ ps) tail) (sym (append_assoc a b p))

onto-nil : (ps : List (List ByteAt)) (tail : List ByteAt)
    → onto [] ps tail ≡ record { pieces = ps; tail = tail }
onto-nil [] tail = refl
onto-nil (p ∷ ps) tail = refl

-- a byte that ends no statement goes to the begun one
pub in_front-push : (piece : List ByteAt) (k : ByteAt) (c : Cut) → eqb k.byte 59 ≡ false
    → in_front (piece ++ k ∷ []) c ≡ in_front piece (cut_before k c)
in_front-push piece k c e = rw e (sym (onto-onto piece (k ∷ []) c.pieces c.tail))

pub in_front-nil : (c : Cut) → in_front [] c ≡ c
in_front-nil c = onto-nil c.pieces c.tail

-- a begun statement goes on
pub with_ahead-push : (r : Reading) (piece : List ByteAt) (k : ByteAt) (best' : Option FoundFault) (len : ℕ) (bad : List FoundFault) (ahead : List ByteAt)
    → best' ≡ lesser r.best (least (comment_faults k)) → (k.byte ≡ 59 → ⊥)
    → with_ahead (record r { best = best' }) (piece ++ k ∷ []) len bad ahead ≡ with_ahead r piece len bad (k ∷ ahead)
with_ahead-push r piece k best' len bad ahead b ne =
    let c = in_front piece (cut_before k (cut ahead)) in
    ap (λ (x : Cut). outcome r.phase best' r.stars r.statements.items len (bad ++ flat_map comment_faults ahead) (parses x) x.tail)
    (in_front-push piece k (cut ahead) (ne_eqb k.byte 59 ne))
    ∙ outcome-comment r.phase r.best r.stars r.statements.items len k bad ahead (parses c) c.tail best' b

-- what comes of a deck of which only the bytes were looked at
pub with_ahead-start : (r : Reading) (text : List ℕ) → r.phase ≡ start → r.best ≡ None → r.statements.items ≡ []
    → with_ahead r [] (length text) (bytes_faults 0 text ++ []) (kept text) ≡ thinned_deck r.stars text
with_ahead-start r text phase best ss =
    rw (phase, best, ss, append-nil (bytes_faults 0 text), in_front-nil (cut (kept text))) refl

-- ---- the statements of a piece

-- a `*` in front
pub statements_in-star : (piece : List ByteAt) (i : ℕ) (d : ByteAt) → i < length piece
    → (get_or piece i d).byte ≡ 42
    → statements_in (drop i piece) ≡ parsed (get_or piece i d).at (42 ∷ []) ∷ statements_in (drop (i + 1) piece)
statements_in-star piece i d lt e = at_drop_more statements_in piece i d lt ∙ rw e refl

-- the last statement of a piece
pub statements_in-last : (piece : List ByteAt) (i : ℕ) (d : ByteAt) → i < length piece
    → ((get_or piece i d).byte ≡ 42 → ⊥)
    → statements_in (drop i piece) ≡ parsed (get_or piece i d).at (codes_of (drop i piece)) ∷ []
statements_in-last piece i d lt ne =
    let made : List ℕ → List Parsed = λ cs. parsed (get_or piece i d).at cs ∷ [] in
    at_drop_more statements_in piece i d lt ∙ rw (ne_eqb (get_or piece i d).byte 42 ne) (sym (ap made (at_drop_more codes_of piece i d lt)))
