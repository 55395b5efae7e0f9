-- The parts of a snapshot that was written.
use Rattle.std.proofs.Common.{◌≡◌, ℕ, suc, ◌+◌, ◌≤◌, true, false, List, [], ◌∷◌, ◌++◌, length, take, drop, map, Some, Ok, codes, refl, sym, ap, ◌∙◌, arith}
use Rattle.std.proofs.Common.{append_assoc, length-append, All}
use Rattle.std.specs.List.{position_from}
use Rattle.std.proofs.lemmas.List.{drop_at, length-map, take_at}
use Rattle.std.specs.Fmt.{decimal}
use Rattle.kdf_text.specs.Lines.{is_text, line, lines}
use Rattle.kdf_text.specs.Text.{text}
use Rattle.kdf_text.proofs.Texts.{text-append}
use Rattle.kdf_journal.specs.declared.entry.Entry.{Entry}
use Rattle.kdf_journal.specs.declared.entry.Entry.TheVariants.{Ran, Start, Answer, Take, Give, Fail, Ended, Lov, Busy, Wait, Idle, Move, End, Clock, Swap}
use Rattle.kdf_journal.specs.declared.failure.Failure.{Failure}
use Rattle.kdf_journal.specs.declared.failure.Failure.TheVariants.{Liv, Nouv, Out, Reset, Claim}
use Rattle.kdf_journal.specs.declared.kind.Kind.{Kind}
use Rattle.kdf_journal.specs.declared.kind.Kind.TheVariants.{Tr, Tp, Cr, Lp, Mt}
use Rattle.kdf_journal.specs.Failures.{name_of}
use Rattle.kdf_journal.specs.Kinds.{kind_name}
use Rattle.kdf_journal.specs.Printed.{IsEntry, entry_line}
use Rattle.kdf_journal.proofs.Printing.{read_again}
use Rattle.kdf_snapshot.specs.Snapshot.{end_after, end_line, entries_from, journal_line, offset, parts_after, parts_of, parts_to, seal_line}
use Rattle.kdf_snapshot.specs.Written.{CanBeSealed, journal_text, parts_written, seal_text}
use Rattle.kdf_snapshot.proofs.WholeLines.{AreWhole, IsWhole, are-append, decimal-whole, lines-text, whole-append}

-- ---- the line of an entry

one_number : (name : List ℕ) (p : ℕ) → IsWhole name → IsWhole (name ++ decimal p)
one_number name p is = whole-append name (decimal p) is (decimal-whole p)

and_space : (name : List ℕ) (p : ℕ) → IsWhole name → IsWhole (name ++ decimal p ++ codes " ")
and_space name p is = whole-append (name ++ decimal p) (codes " ") (one_number name p is) refl

and_word : (name : List ℕ) (p : ℕ) (word : List ℕ) → IsWhole name → IsWhole word → IsWhole (name ++ decimal p ++ codes " " ++ word)
and_word name p word is word_is = whole-append (name ++ decimal p ++ codes " ") word (and_space name p is) word_is

pub failure_whole : (kind : Failure) → IsWhole (name_of kind)
failure_whole Liv = refl
failure_whole Nouv = refl
failure_whole Out = refl
failure_whole Reset = refl
failure_whole Claim = refl

pub kind_whole : (kind : Kind) → IsWhole (kind_name kind)
kind_whole Tr = refl
kind_whole Tp = refl
kind_whole Cr = refl
kind_whole Lp = refl
kind_whole Mt = refl

entry_whole : (e : Entry) → IsWhole (entry_line e)
entry_whole (Ran p n) = and_word (codes "RAN ") p (decimal n) refl (decimal-whole n)
entry_whole (Start p d k) = and_word (codes "START " ++ decimal p ++ codes " ") d (decimal k) (and_space (codes "START ") p refl) (decimal-whole k)
entry_whole (Answer p v) = and_word (codes "ANSWER ") p (decimal v) refl (decimal-whole v)
entry_whole (Take p d) = and_word (codes "TAKE ") p (decimal d) refl (decimal-whole d)
entry_whole (Give p d) = and_word (codes "GIVE ") p (decimal d) refl (decimal-whole d)
entry_whole (Fail p kind) = and_word (codes "FAIL ") p (name_of kind) refl (failure_whole kind)
entry_whole (Ended p) = one_number (codes "ENDED ") p refl
entry_whole (Lov p group) = and_word (codes "LOV ") p (decimal group) refl (decimal-whole group)
entry_whole (Busy p d) = and_word (codes "BUSY ") p (decimal d) refl (decimal-whole d)
entry_whole (Wait p kind) = and_word (codes "WAIT ") p (kind_name kind) refl (kind_whole kind)
entry_whole (Idle n) = one_number (codes "IDLE ") n refl
entry_whole (Move d n) = and_word (codes "MOVE ") d (decimal n) refl (decimal-whole n)
entry_whole (End d) = one_number (codes "END ") d refl
entry_whole (Clock t) = one_number (codes "CLOCK ") t refl
entry_whole (Swap p q) = and_word (codes "SWAP ") p (decimal q) refl (decimal-whole q)

no_seal : (e : Entry) → is_text seal_line (entry_line e) ≡ false
no_seal (Ran p n) = refl
no_seal (Start p d k) = refl
no_seal (Answer p v) = refl
no_seal (Take p d) = refl
no_seal (Give p d) = refl
no_seal (Fail p kind) = refl
no_seal (Ended p) = refl
no_seal (Lov p group) = refl
no_seal (Busy p d) = refl
no_seal (Wait p kind) = refl
no_seal (Idle n) = refl
no_seal (Move d n) = refl
no_seal (End d) = refl
no_seal (Clock t) = refl
no_seal (Swap p q) = refl

entries_whole : (J : List Entry) → AreWhole (map entry_line J)
entries_whole [] = tt
entries_whole (e ∷ J) = (entry_whole e, entries_whole J)

sealed_whole : (ls : List (List ℕ)) → All CanBeSealed ls → AreWhole ls
sealed_whole [] can = tt
sealed_whole (l ∷ ls) can = ((can 0 l (omega arith)).whole, sealed_whole ls (λ k d lt. can (suc k) d (omega arith)))

-- ---- what is read

entries_read : (n : ℕ) (J : List Entry) (rest : List (List ℕ)) → All IsEntry J → entries_from n ((map entry_line J ++ seal_line ∷ []) ++ rest) ≡ Ok J
entries_read n [] rest are = refl
entries_read n (e ∷ J) rest are =
    rw (no_seal e, read_again e (are 0 e (omega arith)), entries_read (n + 1) J rest (λ k d lt. are (suc k) d (omega arith))) refl

end_found : (k : ℕ) (ls rest : List (List ℕ)) → All CanBeSealed ls → position_from (is_text end_line) k (ls ++ end_line ∷ rest) ≡ Some (k + length ls)
end_found k [] rest can = ap Some (here k)
  where
    here : (n : ℕ) → n ≡ n + 0
    here n = omega arith
end_found k (l ∷ ls) rest can =
    let isnt = (can 0 l (omega arith)).other in
    rw isnt (end_found (k + 1) ls rest (λ j d lt. can (suc j) d (omega arith)) ∙ ap Some (next k (length ls)))
  where
    next : (n m : ℕ) → n + 1 + m ≡ n + suc m
    next n m = omega arith

-- the offset after first lines that have their ends
offset_front : (bytes : List ℕ) (xs ys : List (List ℕ)) (n : ℕ) → lines bytes ≡ xs ++ ys → length xs ≡ n → length (text xs) ≤ length bytes
    → offset bytes n ≡ length (text xs)
offset_front bytes xs ys n is many within =
    let front : length (text (take n (lines bytes))) ≡ length (text xs) = ap (λ ls. length (text (take n ls))) is
    ∙ ap (λ ls. length (text ls)) (take_at xs ys n many) in
    omega (arith, front)

-- ---- the whole

module _ (first : ℕ) (J : List Entry) (ls : List (List ℕ)) (more : List ℕ) (are : All IsEntry J) (can : All CanBeSealed ls) where
  abbrev bytes : List ℕ
  bytes = journal_text J ++ (seal_text ls ++ more)

  -- the lines up to SEAL, and those up to ENDSNAPSHOT
  abbrev head : List (List ℕ)
  head = journal_line ∷ map entry_line J ++ seal_line ∷ []

  abbrev sealed : List (List ℕ)
  sealed = ls ++ end_line ∷ []

  head_whole : AreWhole head
  head_whole = (refl, are-append (map entry_line J) (seal_line ∷ []) (entries_whole J) (refl, tt))

  seal_whole : AreWhole sealed
  seal_whole = are-append ls (end_line ∷ []) (sealed_whole ls can) (refl, tt)

  its_lines : lines bytes ≡ head ++ (sealed ++ lines more)
  its_lines = lines-text head (seal_text ls ++ more) head_whole ∙ ap (λ ks. head ++ ks) (lines-text sealed more seal_whole)

  head_length : length head ≡ length J + 2
  head_length = omega (arith, length-append (map entry_line J) (seal_line ∷ []), length-map J entry_line)

  at_end : end_after (length J + 2) (lines bytes) ≡ Some (length J + 2 + length ls)
  at_end =
      ap (λ ks. position_from (is_text end_line) (length J + 2) (drop (length J + 2) ks)) its_lines
      ∙ ap (position_from (is_text end_line) (length J + 2)) (drop_at head (sealed ++ lines more) (length J + 2) head_length)
      ∙ ap (position_from (is_text end_line) (length J + 2)) (append_assoc ls (end_line ∷ []) (lines more))
      ∙ end_found (length J + 2) ls (lines more) can

  sizes : length bytes ≡ length (text head) + (length (text sealed) + length more)
  sizes = length-append (text head) (seal_text ls ++ more) ∙ ap (λ n. length (text head) + n) (length-append (text sealed) more)

  from : offset bytes (length J + 2) ≡ length (text head)
  from = offset_front bytes head (sealed ++ lines more) (length J + 2) its_lines head_length (omega (arith, sizes))

  text_size : (xs ys : List (List ℕ)) → length (text (xs ++ ys)) ≡ length (text xs) + length (text ys)
  text_size xs ys = ap length (text-append xs ys) ∙ length-append (text xs) (text ys)

  to_lines : lines bytes ≡ (head ++ ls) ++ end_line ∷ lines more
  to_lines = its_lines ∙ ap (λ ks. head ++ ks) (append_assoc ls (end_line ∷ []) (lines more)) ∙ sym (append_assoc head ls (end_line ∷ lines more))

  to : offset bytes (length J + 2 + length ls) ≡ length (text head) + length (text ls)
  to =
      offset_front bytes (head ++ ls) (end_line ∷ lines more) (length J + 2 + length ls) to_lines (omega (arith, length-append head ls, head_length))
      (omega (arith, sizes, text_size head ls, text_size ls (end_line ∷ [])))
      ∙ text_size head ls

  after_lines : lines bytes ≡ (head ++ sealed) ++ lines more
  after_lines = its_lines ∙ sym (append_assoc head sealed (lines more))

  after : offset bytes (length J + 2 + length ls + 1) ≡ length (text head) + length (text sealed)
  after =
      offset_front bytes (head ++ sealed) (lines more) (length J + 2 + length ls + 1) after_lines
      (omega (arith, length-append head sealed, length-append ls (end_line ∷ []), head_length))
      (omega (arith, sizes, text_size head sealed))
      ∙ text_size head sealed

  parts_are : parts_to first bytes J (Some (length J + 2 + length ls)) ≡ Ok (parts_written first J ls)
  parts_are = rw (from, to, after) refl

  pub parts_again : parts_of first bytes ≡ Ok (parts_written first J ls)
  unfolding parts_of
  parts_again =
      let is : is_text journal_line (line (lines bytes) 1) ≡ true = ap (λ ks. is_text journal_line (line ks 1)) its_lines in
      let read : entries_from (first + 1) (drop 1 (lines bytes)) ≡ Ok J =
      ap (λ ks. entries_from (first + 1) (drop 1 ks)) its_lines ∙ entries_read (first + 1) J (sealed ++ lines more) are in
      rw is (ap (parts_after first bytes) read ∙ ap (parts_to first bytes J) at_end ∙ parts_are)
