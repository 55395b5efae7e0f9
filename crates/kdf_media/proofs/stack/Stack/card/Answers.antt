use Rattle.std.proofs.Common.{◌≡◌, ℕ, ◌-◌, ◌<◌, ◌≤◌, List, length, get_or, sym, subst, ap, ◌∙◌, Some, arith}
use Rattle.std.specs.List.{slice_get}
use Rattle.kdf_media.proofs.CardWords.{whole_card}
use Rattle.kdf_media.proofs.PackedCards.{card_before, card_after}
use Rattle.kdf_media.proofs.stack.Stack.card.Goals as goal

pub returns-in-Some-clause-card : goal.returns-in-Some-clause-card
returns-in-Some-clause-card c =
    let whole = c.self.inside.whole.items in
    let card = c.in-Some.card.now in
    let found = c.in-Some.ensures.lookup.3 in
    let inside : c.args.place < length whole = subst (λ (xs : List (List ℕ)). c.args.place < length xs) c.deref.ensures.value found.0 in
    let is : card ≡ get_or whole c.args.place card = subst (λ (xs : List (List ℕ)). card ≡ get_or xs c.args.place card) c.deref.ensures.value (found.1 card) in
    ap Some (whole_card card (omega arith)) ∙ sym (card_before whole c.self.inside.packed c.args.place card inside is) ∙
    ap (λ (xs : List (List ℕ)). slice_get xs c.args.place) c.self.view_is

pub returns-in-None-clause-card : goal.returns-in-None-clause-card
returns-in-None-clause-card c =
    let whole = c.self.inside.whole.items in
    let past : length whole ≤ c.args.place = subst (λ (xs : List (List ℕ)). length xs ≤ c.args.place) c.deref.ensures.value c.in-None.ensures.lookup.3 in
    let many : c.len.result ≡ length whole = omega (arith, c.len.ensures, c.self.inside.whole.ok.0) in
    c.card.ensures.card ∙ ap (λ n. slice_get c.self.inside.packed (c.args.place - n)) many ∙ sym (card_after whole c.self.inside.packed c.args.place past) ∙
    ap (λ (xs : List (List ℕ)). slice_get xs c.args.place) c.self.view_is
