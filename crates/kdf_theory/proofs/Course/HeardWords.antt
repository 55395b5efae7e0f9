-- What was heard of the service is its answer to the word of which an order asks it.
use Rattle.std.proofs.Common.{◌≡◌, ℕ, ◌<◌, ◌^◌, false, Option, Some, None, refl, sym, ap, ◌∙◌, subst}
use Rattle.std.specs.Prelude.{IfSome, is_some, unwrap_or}
use Rattle.kdf_processor.specs.Ahead.{word_asked}
use Rattle.kdf_processor.specs.Needs.{next_effect}
use Rattle.kdf_processor.specs.State.{State, word_at}
use Rattle.kdf_processor.proofs.Words.{next_told}
use Rattle.kdf_theory.specs.Asked.{HasAsked, IsHeard}

-- what was heard answers the word
pub heard_so : (answers : ℕ → ℕ → Type 0) (asked heard : Option ℕ) → HasAsked answers asked heard
    → IfSome asked (λ word. (word < 2 ^ 48) × answers word (unwrap_or heard 0))
heard_so answers (Some word) (Some answer) has = has
heard_so answers (Some word) None has = absurd has
heard_so answers None heard has = tt

-- what a moment has of it
pub heard_then : (heard : Option ℕ) (h d : ℕ) → h ≡ unwrap_or heard d → d ≡ 0 → h ≡ unwrap_or heard 0
heard_then heard h d is none = is ∙ ap (unwrap_or heard) none

pub none_if : (o : Option ℕ) → is_some o ≡ false → o ≡ None
none_if None is = refl
none_if (Some word) is = cc

pub has_none : (answers : ℕ → ℕ → Type 0) (asked : Option ℕ) → asked ≡ None → HasAsked answers asked None
has_none answers asked is = subst (λ o. HasAsked answers o None) (sym is) tt

pub has_answer : (answers : ℕ → ℕ → Type 0) (asked : Option ℕ) (word answer : ℕ) → asked ≡ Some word → word < 2 ^ 48 → answers word answer
    → HasAsked answers asked (Some answer)
has_answer answers asked word answer is small has = subst (λ o. HasAsked answers o (Some answer)) (sym is) (small, has)

-- a program that isn't served asks nothing
pub none_asked : (s : State) → s.stock.claims.served ≡ false → word_asked (next_effect s) ≡ None
none_asked s unserved = by_word (word_asked (next_effect s)) refl
  where
    by_word : (o : Option ℕ) → word_asked (next_effect s) ≡ o → o ≡ None
    by_word None is = refl
    by_word (Some word) is = cc (sym unserved ∙ (next_told s.stock.claims (word_at s) s.registers).served word is)

pub none_heard : (answers : ℕ → ℕ → Type 0) (heard : ℕ) (s : State) → s.stock.claims.served ≡ false → IsHeard answers s heard
none_heard answers heard s unserved = subst (λ o. IfSome o (λ word. (word < 2 ^ 48) × answers word heard)) (sym (none_asked s unserved)) tt
