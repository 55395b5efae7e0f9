-- Lines of more words than a form has.
use Rattle.std.proofs.Common.{◌≡◌, ℕ, List, ◌∷◌, None, refl}
use Rattle.kdf_text.specs.Lines.{words}
use Rattle.kdf_text.proofs.WordCuts.{words-some}
use Rattle.kdf_job.specs.Forms.{described, one_number, two_addresses}

pub number-more : (text front behind : List ℕ) (low high : ℕ) → words text ≡ front ∷ words behind → None ≡ one_number low high (words text)
number-more text front behind low high e =
    let last = words-some behind in
    rw (e, last.is) refl

pub addresses-more : (text front last middle behind : List ℕ) → words text ≡ front ∷ words last → words last ≡ middle ∷ words behind
    → None ≡ two_addresses (words text)
addresses-more text front last middle behind one two =
    let end = words-some behind in
    rw (one, two, end.is) refl

pub described-more : (d kind label front behind : List ℕ) → words label ≡ front ∷ words behind → None ≡ described (d ∷ kind ∷ words label)
described-more d kind label front behind e =
    let last = words-some behind in
    rw (e, last.is) refl
