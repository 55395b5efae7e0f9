use Rattle.std.proofs.Common.{◌≡◌, ℕ, List, [], ◌∷◌, ◌++◌, codes, decimal, refl, append_assoc}
use Rattle.std.proofs.lemmas.Result.{on_ok_weaker}
use Rattle.kdf_text.specs.Text.{octal, text}
use Rattle.kdf_report.specs.Text.{life_name}
use Rattle.kdf_report.proofs.summaries.write_slot.Goals as goal

slot_written : (p life orders blocks word old first second third fourth new : List ℕ) → first ≡ old ++ (codes "SLOT " ++ p ++ codes " ")
    → second ≡ first ++ life
    → third ≡ second ++ (codes " ORDERS " ++ (orders ++ (codes " BLOCKS " ++ (blocks ++ codes " WORD ")))) → fourth ≡ third ++ word → new ≡ fourth ++ 10 ∷ []
    → new ≡ old ++ text ((codes "SLOT " ++ p ++ codes " " ++ life ++ codes " ORDERS " ++ orders ++ codes " BLOCKS " ++ blocks ++ codes " WORD " ++ word) ∷ [])
unfolding text
slot_written p life orders blocks word old first second third fourth new a b c d e = rw (e, d, c, b, a) (simp append_assoc refl)

pub returns : goal.returns
returns c =
    on_ok_weaker _
    (slot_written (decimal c.args.p) (life_name c.args.registers.now.state) (decimal c.args.registers.now.ran) (decimal c.args.blocks)
    (octal c.args.word) _ _ _ _ _ _
    c.in_ok-write.ensures.bytes c.in_ok-write_life_name.ensures c.in_ok-write-2.ensures.bytes (rw c.bits.ensures.value at c.in_ok-write_octal.ensures))
    c.writeln.ensures.bytes
