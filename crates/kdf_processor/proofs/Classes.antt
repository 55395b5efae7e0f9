-- The order that three syllables begin with, by the first bits of the first.
use Rattle.std.proofs.Common.{◌≡◌, ℕ, ◌≤◌, true, false, [], ◌∷◌, Option, refl, ◌∙◌, arith}
use Rattle.std.specs.Prelude.{nat_lt}
use Rattle.std.proofs.lemmas.Bool.Decides.{nat_tests}
use Rattle.kdf_syllable.specs.declared.order.Order.{Order}
use Rattle.kdf_syllable.specs.Spelling.{size_of_first}
use Rattle.kdf_decode.specs.Decoding.{decoded, decoded_jump, decoded_one, decoded_store, decoded_two, first_decoded}
use Rattle.kdf_processor.proofs.Syllables.{by_size}

pub of_one : (a b d : ℕ) (o : Option Order) → o ≡ decoded_one a → a ≤ 0x3f → o ≡ first_decoded (a ∷ b ∷ d ∷ [])
unfolding decoded
of_one a b d o is most = let size : size_of_first a ≡ 1 = grind (arith, nat_tests) in is ∙ by_size a b d 1 size

pub of_two : (a b d : ℕ) (o : Option Order) → o ≡ decoded_two a b → 0x40 ≤ a → a ≤ 0x7f → o ≡ first_decoded (a ∷ b ∷ d ∷ [])
unfolding decoded
of_two a b d o is least most = let size : size_of_first a ≡ 2 = grind (arith, nat_tests) in is ∙ by_size a b d 2 size

pub of_jump : (a b d : ℕ) (o : Option Order) → o ≡ decoded_jump a b d → 0x80 ≤ a → a ≤ 0xbf → o ≡ first_decoded (a ∷ b ∷ d ∷ [])
unfolding decoded
of_jump a b d o is least most =
    let size : size_of_first a ≡ 3 = grind (arith, nat_tests) in
    let jump : nat_lt a 0xc0 ≡ true = grind (arith, nat_tests) in
    is ∙ (rw jump refl) ∙ by_size a b d 3 size

pub of_store : (a b d : ℕ) (o : Option Order) → o ≡ decoded_store a b d → 0xc0 ≤ a → o ≡ first_decoded (a ∷ b ∷ d ∷ [])
unfolding decoded
of_store a b d o is least =
    let size : size_of_first a ≡ 3 = grind (arith, nat_tests) in
    let store : nat_lt a 0xc0 ≡ false = grind (arith, nat_tests) in
    is ∙ (rw store refl) ∙ by_size a b d 3 size
