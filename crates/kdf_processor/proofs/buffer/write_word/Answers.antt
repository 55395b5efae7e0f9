use Rattle.std.proofs.Common.{◌≡◌, ◌≢◌, ℕ, ◌<◌, ◌*◌, ◌/◌, ◌%◌, sym, subst, arith}
use Rattle.kdf_processor.specs.Buffered.{IsHeld}
use Rattle.kdf_processor.specs.declared.buffer.Buffer.{Buffer}
use Rattle.kdf_processor.proofs.buffer.write_word.Goals as goal

-- the word of another address
elsewhere : (first address : ℕ) → first % 6 ≡ 0 → first ≢ 6 * address → first / 6 ≢ address
elsewhere first address whole other same = other (omega (arith, whole, same))

pub returns-clause-agrees : goal.returns-clause-agrees
returns-clause-agrees g c =
    record {
      low = c.forget.ensures.low;
      held = λ less.
          let left = c.forget.ensures.other less in
          let old = c.requires.agrees.held (subst (λ (b : Buffer). b.first < 65536) left.0 less) in
          subst (λ b. IsHeld (g.P.Port.shows c.write.new.self) b) (sym left.0)
          (record {
            least = old.least;
            whole = old.whole;
            there =
                g.met.P.Reserve.beside c.args.port.now c.args.address c.args.word (c.args.held.now.first / 6) c.args.held.now.word c.write.new.self
                c.in-Ok.ensures.ok
                (elsewhere c.args.held.now.first c.args.address old.whole (subst (λ (b : Buffer). b.first ≢ 6 * c.args.address) left.0 left.1)) old.there;
          });
    }
