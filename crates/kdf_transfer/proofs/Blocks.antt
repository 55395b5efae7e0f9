-- The words of a block, from its begin and from its end.
use Rattle.std.proofs.Common.{◌≡◌, ℕ, ◌-◌, ◌<◌, ◌≤◌, List, length, get_or, None, Some, sym, ap, ◌∙◌, arith}
use Rattle.std.specs.Prelude.{reverse}
use Rattle.std.specs.List.{slice_get}
use Rattle.std.proofs.lemmas.List.{get_or-reverse, length-reverse}
use Rattle.std.proofs.lemmas.Option.{slice_get-get_or, slice_get_past}

pub word_there : (words : List ℕ) (i w : ℕ) → i < length words → w ≡ get_or words i 0 → slice_get words i ≡ Some w
word_there words i w lt is = slice_get-get_or words i 0 lt ∙ ap Some (sym is)

pub word_of_reverse : (words : List ℕ) (i w : ℕ) → i < length words → w ≡ get_or words (length words - 1 - i) 0 → slice_get (reverse words) i ≡ Some w
word_of_reverse words i w lt is =
    slice_get-get_or (reverse words) i 0 (omega (arith, length-reverse words)) ∙ ap Some (get_or-reverse words i 0 lt ∙ sym is)

pub past_reverse : (words : List ℕ) (i : ℕ) → length words ≤ i → slice_get (reverse words) i ≡ None
past_reverse words i past = slice_get_past (reverse words) i (omega (arith, length-reverse words))
