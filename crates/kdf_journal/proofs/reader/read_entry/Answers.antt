use Rattle.std.proofs.Common.{◌≡◌, ℕ, List, ◌∷◌, None, refl, sym}
use Rattle.kdf_text.specs.Lines.{words}
use Rattle.kdf_text.proofs.WordCuts.{words-some}
use Rattle.kdf_journal.specs.Printed.{entry_in}
use Rattle.kdf_journal.proofs.reader.read_entry.Goals as goal

-- a line of five words or more
five_words : (line name numbers first others second third fourth behind : List ℕ) → words line ≡ name ∷ words numbers → words numbers ≡ first ∷ words others
    → words others ≡ second ∷ words third → words third ≡ fourth ∷ words behind → entry_in line ≡ None
unfolding entry_in
five_words line name numbers first others second third fourth behind one two three four =
    let last = words-some behind in
    rw (one, two, three, four, last.is) refl

pub returns-in-Some-cut_word-2 : goal.returns-in-Some-cut_word-2
returns-in-Some-cut_word-2 c =
    sym (five_words _ _ _ _ _ _ _ _ _ c.in_ok-name.ensures c.in-Some.ensures c.in-Some-cut_word.ensures c.in-Some-cut_word-2.ensures)
