-- What is shown of a program in a world.
use Rattle.std.specs.Prelude.{ℕ}
use Rattle.kdf_transfer.specs.Devices.{test_of}
use Rattle.kdf_journal.specs.declared.need.Need.TheVariants.{Group, Device, Pool}
use Rattle.kdf_processor.specs.Effect.{Question}
use Rattle.kdf_processor.specs.State.{device_in, word_in}
use Rattle.kdf_processor.specs.View.{View}
use Rattle.kdf_theory.specs.World.{World}

-- its state, and what of it is pending, where an order that asks is answered so
abbrev pub view_in : World → (Question → ℕ) → ℕ → View
view_in w answer p =
    record {
      claims = (w.state p).stock.claims;
      word = word_in (w.state p).stock;
      test = λ d what. test_of what (device_in (w.state p).stock d);
      answer = answer;
      is_out = λ g. w.pending p (Group g);
      is_busy = λ d. w.pending p (Device d);
      is_taken = λ kind. w.pending p (Pool kind);
      mine = w.mine p;
    }
