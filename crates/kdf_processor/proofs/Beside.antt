-- A word that is written leaves the others as they can be read.
use Rattle.std.proofs.Common.{◌≡◌, ◌≢◌, ℕ, ◌<◌, false, refl, sym, ap, ◌∙◌, subst}
use Rattle.std.proofs.lemmas.List.{get_or-set_other}
use Rattle.kdf_processor.specs.Buffered.{Agrees, IsThere}
use Rattle.kdf_processor.specs.Effect.{Question, Writes}
use Rattle.kdf_processor.specs.Needs.{group_of}
use Rattle.kdf_processor.specs.Row.{at_once}
use Rattle.kdf_processor.specs.State.{Stock, word_in}
use Rattle.kdf_processor.specs.View.{View, by_itself}
use Rattle.kdf_processor.specs.declared.buffer.Buffer.{Buffer}

-- a word is there in another view of the same size, in which its group isn't out and it is the same
pub there_by : (v v' : View) (b x : ℕ) → v'.claims.size ≡ v.claims.size → v'.is_out (group_of b) ≡ false → v'.word b ≡ v.word b → IsThere v b x → IsThere v' b x
there_by v v' b x size here same there =
    let P : ℕ → Type 0 = λ n. b < n in
    record { inside = subst P (sym size) there.inside; here = here; same = there.same ∙ sym same }

-- the other words of a program, after one was written
pub word_kept : (k k' : Stock) (a w b : ℕ) → k' ≡ at_once (Writes a w) k → b ≢ a → word_in k' b ≡ word_in k b
word_kept k k' a w b is ne = ap (λ z. word_in z b) is ∙ get_or-set_other k.store a b w 0 ne

-- so it is with a program by itself, whatever is answered
pub stock_beside : (answer answer' : Question → ℕ) (k k' : Stock) (a w b x : ℕ) → k' ≡ at_once (Writes a w) k → b ≢ a → IsThere (by_itself answer k) b x
    → IsThere (by_itself answer' k') b x
stock_beside answer answer' k k' a w b x is ne there =
    there_by (by_itself answer k) (by_itself answer' k') b x (ap (λ (z : Stock). z.claims.size) is) refl (word_kept k k' a w b is ne) there

-- what is at hand agrees with what a program has by itself, whatever is answered
pub agrees_with : (answer answer' : Question → ℕ) (k k' : Stock) (held : Buffer) → k' ≡ k → Agrees (by_itself answer k) held
    → Agrees (by_itself answer' k') held
agrees_with answer answer' k k' b same agrees =
    subst (λ z. Agrees (by_itself answer' z) b) (sym same)
    (record {
      low = agrees.low;
      held = λ less.
          record {
            least = (agrees.held less).least;
            whole = (agrees.held less).whole;
            there = record { inside = (agrees.held less).there.inside; here = refl; same = (agrees.held less).there.same };
          };
    })
