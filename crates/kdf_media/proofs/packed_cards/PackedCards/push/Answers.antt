use Rattle.std.proofs.Common.{◌≡◌, ◌+◌, ◌∷◌, ◌++◌, [], length, arith, ◌∙◌, ap, sym}
use Rattle.kdf_media.proofs.PackedCards.{ends_pushed, cards_pushed, small_pushed}
use Rattle.kdf_media.proofs.packed_cards.PackedCards.push.Goals as goal

pub invariant_of-self-2 : goal.invariant_of-self-2
invariant_of-self-2 c =
    let end : c.len.result + length c.args.codes.now ≡ length c.self.inside.codes.items + length c.args.codes.now =
    omega (arith, c.len.ensures, c.self.inside.codes.ok.0) in
    let ends : c.push_reserved.new.self.items ≡ c.self.inside.ends.items ++ (c.len.result + length c.args.codes.now) ∷ [] = c.push_reserved.ensures.items
    ∙ ap (λ xs. xs ++ (c.len.result + length c.args.codes.now) ∷ []) c.in_ok-reserve.ensures.items in
    let codes : c.extend_from_slice.new.self.items ≡ c.self.inside.codes.items ++ c.args.codes.now = c.in_ok-extend_from_slice.ensures.items in (
      small_pushed c.self.inside.codes.items c.args.codes.now _ c.self.invariant.0 c.requires.small codes,
      ends_pushed c.self.inside.ends.items c.self.inside.codes.items c.args.codes.now _ _ _ c.self.invariant.1 c.requires.short end ends codes,
    )

pub returns-clause-ok : goal.returns-clause-ok
returns-clause-ok c =
    let end : c.len.result + length c.args.codes.now ≡ length c.self.inside.codes.items + length c.args.codes.now =
    omega (arith, c.len.ensures, c.self.inside.codes.ok.0) in
    let ends : c.push_reserved.new.self.items ≡ c.self.inside.ends.items ++ (c.len.result + length c.args.codes.now) ∷ [] = c.push_reserved.ensures.items
    ∙ ap (λ xs. xs ++ (c.len.result + length c.args.codes.now) ∷ []) c.in_ok-reserve.ensures.items in
    let codes : c.extend_from_slice.new.self.items ≡ c.self.inside.codes.items ++ c.args.codes.now = c.in_ok-extend_from_slice.ensures.items in
    cards_pushed c.self.inside.ends.items c.self.inside.codes.items c.args.codes.now _ _ _ c.args.self.now c.self.invariant.1 (sym c.self.view_is) end ends
    codes
