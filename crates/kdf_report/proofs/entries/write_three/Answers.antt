use Rattle.std.proofs.Common.{◌≡◌, List, ℕ, [], ◌∷◌, ◌++◌, codes, decimal, refl, append_assoc}
use Rattle.std.proofs.lemmas.Result.{on_ok_weaker}
use Rattle.kdf_text.specs.Text.{text}
use Rattle.kdf_report.proofs.entries.write_three.Goals as goal

line_written : (start a b c old first second new : List ℕ) → first ≡ old ++ start ++ a ++ codes " " ++ b → second ≡ first ++ codes " " ++ c
    → new ≡ second ++ 10 ∷ [] → new ≡ old ++ text ((start ++ a ++ codes " " ++ b ++ codes " " ++ c) ∷ [])
unfolding text
line_written start a b c old first second new is_first is_second is = rw (is, is_second, is_first) (simp append_assoc refl)

pub returns : goal.returns
returns c =
    on_ok_weaker _
    (line_written c.args.start.now (decimal c.args.first) (decimal c.args.second) (decimal c.args.third) _ _ _ _
    c.in_ok-write_start.ensures c.in_ok-write_after.ensures)
    c.write_line_end.ensures
