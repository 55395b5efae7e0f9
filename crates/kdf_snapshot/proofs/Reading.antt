-- Lines that are read one after the other.
use Rattle.std.proofs.Common.{◌≡◌, ℕ, zero, suc, ◌+◌, ◌<◌, ◌≤◌, true, false, cond, eqb, List, [], ◌∷◌, ◌++◌, length, take, drop, Some, Result, Ok, Err, refl}
use Rattle.std.proofs.Common.{sym, ap, ◌∙◌, arith, append_assoc, length-append, length-drop}
use Rattle.std.proofs.lemmas.List.{drop-drop, drop-take, take-append-drop, take-take}
use Rattle.std.proofs.lemmas.Bool.Decides.{nat_tests}
use Rattle.kdf_text.specs.Ahead.{ahead}
use Rattle.kdf_text.specs.Lines.{is_text, line, lines}
use Rattle.kdf_text.specs.Text.{text}
use Rattle.kdf_text.proofs.Cutting.{no-lines, some-lines}
use Rattle.kdf_text.proofs.Texts.{text-append}
use Rattle.kdf_journal.specs.declared.entry.Entry.{Entry}
use Rattle.kdf_journal.specs.Printed.{entry_in}
use Rattle.kdf_snapshot.specs.declared.cursor.Cursor.{Cursor}
use Rattle.kdf_snapshot.specs.declared.fault.SnapshotFault.{SnapshotFault}
use Rattle.kdf_snapshot.specs.Passed.{Passed}
use Rattle.kdf_snapshot.specs.Snapshot.{entries_from, seal_line, with_entry}

-- where a byte is left, a line is
pub some_ahead : (bytes : List ℕ) → 0 < length bytes → 0 < length (lines bytes)
some_ahead bytes some = some-lines bytes (grind (arith, nat_tests))

-- the text of one line
pub text-one : (ls : List (List ℕ)) → 0 < length ls → length (text (take 1 ls)) ≡ length (line ls 1) + 1
unfolding text
text-one [] some = absurd (omega arith)
text-one (l ∷ ls) some = omega (arith, length-append (l ++ 10 ∷ []) [], length-append l (10 ∷ []))

-- ---- what was passed

pub passed-none : (at : Cursor) → Passed 0 at at
unfolding text
passed-none at = record { rest = refl; number = omega arith; offset = omega arith; within = omega arith }

pub take-more : {A : Type 0} (n m : ℕ) (xs : List A) → take (n + m) xs ≡ take n xs ++ take m (drop n xs)
take-more n m xs =
    sym (take-append-drop n (take (n + m) xs)) ∙ ap (λ ys. ys ++ drop n (take (n + m) xs)) (take-take n (n + m) xs (omega arith))
    ∙ ap (λ ys. take n xs ++ ys) (drop-take n m xs)

pub text-more : (n m : ℕ) (ls : List (List ℕ)) → length (text (take (n + m) ls)) ≡ length (text (take n ls)) + length (text (take m (drop n ls)))
text-more n m ls = ap (λ ks. length (text ks)) (take-more n m ls) ∙ ap length (text-append (take n ls) (take m (drop n ls)))
    ∙ length-append (text (take n ls)) (text (take m (drop n ls)))

pub passed-more : (n m : ℕ) (a b c : Cursor) → Passed n a b → Passed m b c → Passed (n + m) a c
passed-more n m a b c p q =
    let ls = ahead a.lines in
    let moved : length (text (take m (ahead b.lines))) ≡ length (text (take m (drop n ls))) = ap (λ ks. length (text (take m ks))) p.rest in
    let left : length (ahead b.lines) ≡ length (drop n ls) = ap length p.rest in
    record {
      rest = q.rest ∙ ap (drop m) p.rest ∙ drop-drop m n ls;
      number = omega (arith, p.number, q.number);
      offset = omega (arith, p.offset, q.offset, text-more n m ls, moved);
      within = omega (arith, p.within, q.within, left, length-drop n ls);
    }

-- at the end all are passed
pub passed-all : (n : ℕ) (a b : Cursor) → Passed n a b → eqb (length b.lines.rest.now) 0 ≡ true → n ≡ length (ahead a.lines)
passed-all n a b p end =
    let none : length (drop n (ahead a.lines)) ≡ 0 = ap length (sym p.rest ∙ no-lines b.lines.rest.now end) in
    omega (arith, p.within, none, length-drop n (ahead a.lines))

-- ---- entries

-- entries that were read, and those that come of the lines after them
abbrev pub after : List Entry → Result (List Entry) (SnapshotFault × ℕ) → Result (List Entry) (SnapshotFault × ℕ)
after read (Ok others) = Ok (read ++ others)
after read (Err found) = Err found

pub after-none : (r : Result (List Entry) (SnapshotFault × ℕ)) → after [] r ≡ r
after-none (Ok others) = refl
after-none (Err found) = refl

after-one : (read : List Entry) (n : ℕ) (e : Entry) (r : Result (List Entry) (SnapshotFault × ℕ))
    → after read (with_entry n (Some e) r) ≡ after (read ++ e ∷ []) r
after-one read n e (Ok others) = ap Ok (sym (append_assoc read (e ∷ []) others))
after-one read n e (Err found) = refl

next-entry : (n : ℕ) (ls : List (List ℕ)) → 0 < length ls
    → entries_from n ls ≡ cond (is_text seal_line (line ls 1)) (Ok []) (with_entry n (entry_in (line ls 1)) (entries_from (n + 1) (drop 1 ls)))
next-entry n [] some = absurd (omega arith)
next-entry n (l ∷ ls) some = refl

-- a line that is an entry
pub entry-read : (read : List Entry) (n m : ℕ) (ls ks : List (List ℕ)) (l : List ℕ) (e : Entry) → 0 < length ls → l ≡ line ls 1 → ks ≡ drop 1 ls → m ≡ n + 1
    → is_text seal_line l ≡ false → entry_in l ≡ Some e → after read (entries_from n ls) ≡ after (read ++ e ∷ []) (entries_from m ks)
entry-read read n m ls ks l e some here rest next isnt is =
    ap (after read) (next-entry n ls some) ∙ rw (← here, ← rest, ← next, isnt, is) (after-one read n e (entries_from m ks))

-- the offset after a line stays in its range: a line's end that the text lacks is one more, and so is the number of the line
pub bounded : (high offset line old new number next : ℕ) → offset + old ≤ high + number → line ≤ old → (0 < new → line + 1 + new ≤ old) → next ≡ number + 1
    → offset + (line + 1) + new ≤ high + next
bounded high offset line old zero number next fits short more is = omega arith
bounded high offset line old (suc new) number next fits short more is = let m = more (omega arith) in omega arith
