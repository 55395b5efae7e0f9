-- The parts of a snapshot, by the lines that were passed.
use Rattle.std.proofs.Common.{◌≡◌, ℕ, ◌+◌, ◌-◌, ◌<◌, ◌≤◌, true, false, List, length, take, drop, min, Some, None, Result, Ok, Err, refl, sym, ap, ◌∙◌, subst}
use Rattle.std.proofs.Common.{arith, length-drop}
use Rattle.std.specs.List.{position_from}
use Rattle.std.proofs.lemmas.List.{drop-drop}
use Rattle.kdf_text.specs.Ahead.{ahead}
use Rattle.kdf_text.specs.Lines.{is_text, line, lines}
use Rattle.kdf_text.specs.Text.{text}
use Rattle.kdf_journal.specs.declared.entry.Entry.{Entry}
use Rattle.kdf_snapshot.specs.declared.cursor.Cursor.{Cursor}
use Rattle.kdf_snapshot.specs.declared.fault.SnapshotFault.{SnapshotFault}
use Rattle.kdf_snapshot.specs.declared.fault.SnapshotFault.TheVariants.{NoJournal, NoEnd}
use Rattle.kdf_snapshot.specs.declared.fault.SplitError.{SplitError}
use Rattle.kdf_snapshot.specs.declared.fault.SplitError.TheVariants.{Fault, Memory}
use Rattle.kdf_snapshot.specs.declared.parts.Parts.{Parts}
use Rattle.kdf_snapshot.specs.Parts.{IsInside, Says}
use Rattle.kdf_snapshot.specs.Passed.{Passed, PassedAll, PassedEnd}
use Rattle.kdf_snapshot.specs.Snapshot.{end_after, end_line, entries_from, journal_line, offset, parts_after, parts_of, parts_to}
use Rattle.kdf_snapshot.proofs.Offsets.{few-before, offset-within, offsets-rise}
use Rattle.kdf_snapshot.proofs.Reading.{text-more}

-- the first line
pub no-journal : (first : ℕ) (bytes : List ℕ) → is_text journal_line (line (lines bytes) 1) ≡ false → parts_of first bytes ≡ Err (NoJournal, first)
unfolding parts_of
no-journal first bytes isnt = rw isnt refl

-- it was passed
pub record Headed (first : ℕ) (bytes : List ℕ) (at : Cursor) : Type 0 where
  pub is : is_text journal_line (line (lines bytes) 1) ≡ true
  pub rest : ahead at.lines ≡ drop 1 (lines bytes)
  pub number : at.lines.number ≡ first + 1
  pub offset : at.offset ≡ length (text (take 1 (lines bytes)))
  pub within : 1 ≤ length (lines bytes)

pub headed : (first : ℕ) (bytes : List ℕ) (a b : Cursor) → a.lines.rest.now ≡ bytes → a.lines.number ≡ first → a.offset ≡ 0
    → is_text journal_line (line (ahead a.lines) 1) ≡ true → Passed 1 a b → Headed first bytes b
headed first bytes a b is number none head p =
    let ls : ahead a.lines ≡ lines bytes = ap lines is in
    let front : length (text (take 1 (ahead a.lines))) ≡ length (text (take 1 (lines bytes))) = ap (λ ks. length (text (take 1 ks))) ls in
    let many : length (ahead a.lines) ≡ length (lines bytes) = ap length ls in
    record {
      is = subst (λ ks. is_text journal_line (line ks 1) ≡ true) ls head;
      rest = p.rest ∙ ap (drop 1) ls;
      number = omega (arith, p.number);
      offset = omega (arith, p.offset, front);
      within = omega (arith, p.within, many);
    }

pub after-head : (first : ℕ) (bytes : List ℕ) (b : Cursor) (r : Result (List Entry) (SnapshotFault × ℕ)) → Headed first bytes b
    → entries_from b.lines.number (ahead b.lines) ≡ r → parts_of first bytes ≡ parts_after first bytes r
unfolding parts_of
after-head first bytes b r h e =
    rw h.is (ap (parts_after first bytes) (ap (λ n. entries_from n (drop 1 (lines bytes))) (sym h.number) ∙ ap (entries_from b.lines.number) (sym h.rest) ∙ e))

-- the lines up to SEAL were passed
pub record Sealing (first : ℕ) (bytes : List ℕ) (es : List Entry) (at : Cursor) : Type 0 where
  pub rest : ahead at.lines ≡ drop (length es + 2) (lines bytes)
  pub number : at.lines.number ≡ first + length es + 2
  pub offset : at.offset ≡ length (text (take (length es + 2) (lines bytes)))
  pub within : length es + 2 ≤ length (lines bytes)

pub sealing : (first : ℕ) (bytes : List ℕ) (es : List Entry) (b c : Cursor) → Headed first bytes b → Passed (length es + 1) b c → Sealing first bytes es c
sealing first bytes es b c h p =
    let ls = lines bytes in
    let n = length es in
    let two : 1 + (n + 1) ≡ n + 2 = omega arith in
    let left : length (ahead b.lines) ≡ length (drop 1 ls) = ap length h.rest in
    let more : length (text (take (n + 1) (ahead b.lines))) ≡ length (text (take (n + 1) (drop 1 ls))) = ap (λ ks. length (text (take (n + 1) ks))) h.rest in
    let all : length (text (take (1 + (n + 1)) ls)) ≡ length (text (take (n + 2) ls)) = ap (λ k. length (text (take k ls))) two in
    record {
      rest = p.rest ∙ ap (drop (n + 1)) h.rest ∙ drop-drop (n + 1) 1 ls ∙ ap (λ k. drop k ls) two;
      number = omega (arith, p.number, h.number);
      offset = omega (arith, p.offset, h.offset, more, text-more 1 (n + 1) ls, all);
      within = omega (arith, p.within, h.within, left, length-drop 1 ls);
    }

pub no-end : (first : ℕ) (bytes : List ℕ) (es : List Entry) (c d : Cursor) → Sealing first bytes es c → PassedAll c d
    → parts_to first bytes es (end_after (length es + 2) (lines bytes)) ≡ Err (NoEnd, d.lines.number)
no-end first bytes es c d s p =
    let ls = lines bytes in
    let left : length (ahead c.lines) ≡ length (drop (length es + 2) ls) = ap length s.rest in
    let none : end_after (length es + 2) ls ≡ None = ap (position_from (is_text end_line) (length es + 2)) (sym s.rest) ∙ p.none (length es + 2) in
    let number : first + length ls ≡ d.lines.number = omega (arith, p.passed.number, s.number, s.within, left, length-drop (length es + 2) ls) in
    ap (parts_to first bytes es) none ∙ ap (λ n. Err (NoEnd, n)) number

-- what comes of ENDSNAPSHOT
pub record Ended (first : ℕ) (bytes : List ℕ) (es : List Entry) (from to : ℕ) (at : Cursor) : Type 0 where
  pub before : ℕ
  pub is : end_after (length es + 2) (lines bytes) ≡ Some before
  pub seal : length es + 2 ≤ before
  pub within : before < length (lines bytes)
  pub from_is : from ≡ offset bytes (length es + 2)
  pub to_is : to ≡ offset bytes before
  pub more_is : min at.offset (length bytes) ≡ offset bytes (before + 1)
  pub line_is : at.lines.number ≡ first + before + 1

pub ended : (first : ℕ) (bytes : List ℕ) (es : List Entry) (c d : Cursor) (begin : ℕ) → Sealing first bytes es c → PassedEnd c d begin
    → Ended first bytes es c.offset begin d
ended first bytes es c d begin s p =
    let ls = lines bytes in
    let n = length es + 2 in
    let left : length (ahead c.lines) ≡ length (drop n ls) = ap length s.rest in
    let within : n + p.sealed < length ls = omega (arith, p.passed.within, left, length-drop n ls, s.within) in
    let front : length (text (take p.sealed (ahead c.lines))) ≡ length (text (take p.sealed (drop n ls))) =
    ap (λ ks. length (text (take p.sealed ks))) s.rest in
    let all : length (text (take (p.sealed + 1) (ahead c.lines))) ≡ length (text (take (p.sealed + 1) (drop n ls))) =
    ap (λ ks. length (text (take (p.sealed + 1) ks))) s.rest in
    let one : n + (p.sealed + 1) ≡ n + p.sealed + 1 = omega arith in
    let more : length (text (take (n + (p.sealed + 1)) ls)) ≡ length (text (take (n + p.sealed + 1) ls)) = ap (λ k. length (text (take k ls))) one in
    let at_more : d.offset ≡ length (text (take (n + p.sealed + 1) ls)) = omega (arith, p.passed.offset, s.offset, all, text-more n (p.sealed + 1) ls, more) in
    record {
      before = n + p.sealed;
      is = ap (position_from (is_text end_line) n) (sym s.rest) ∙ p.first n;
      seal = omega arith;
      within = within;
      from_is = s.offset ∙ sym (offset-within bytes n (omega (arith, within)));
      to_is = omega (arith, p.begins, s.offset, front, text-more n p.sealed ls, offset-within bytes (n + p.sealed) within);
      more_is = ap (λ k. min k (length bytes)) at_more;
      line_is = omega (arith, p.passed.number, s.number);
    }

pub made : (first : ℕ) (bytes : List ℕ) (es : List Entry) (from to more : ℕ) (at : Cursor) → Ended first bytes es from to at
    → more ≡ min at.offset (length bytes)
    → parts_to first bytes es (end_after (length es + 2) (lines bytes))
    ≡ Ok (record { entries = es; seal_from = from; seal_to = to; more_from = more; more_line = at.lines.number })
made first bytes es from to more at e is =
    ap (parts_to first bytes es) e.is ∙ rw (e.from_is, e.to_is, is ∙ e.more_is, e.line_is) refl

-- the fault of a journal's line is that of the whole
pub says-on : (e : SplitError) (first : ℕ) (bytes : List ℕ) (b : Cursor) → Headed first bytes b → Says e (entries_from b.lines.number (ahead b.lines))
    → Says e (parts_of first bytes)
says-on (Fault fault line) first bytes b h s = after-head first bytes b (Err (fault, line)) h s
says-on Memory first bytes b h s = tt

pub inside : (first : ℕ) (bytes : List ℕ) (p : Parts) (at : Cursor) → Ended first bytes p.entries.items p.seal_from p.seal_to at
    → p.more_from ≡ min at.offset (length bytes) → p.more_line ≡ at.lines.number → IsInside first (length bytes) p
inside first bytes p at e more line =
    let n = length p.entries.items + 2 in
    let d = e.before - n in
    let from : n + d ≡ e.before = omega (arith, e.seal) in
    let rise : offset bytes n ≤ offset bytes e.before = subst (λ k. offset bytes n ≤ offset bytes k) from (offsets-rise bytes n d) in
    let few : n ≤ offset bytes n = few-before bytes n (omega (arith, e.seal, e.within)) in
    let few' : e.before + 1 ≤ offset bytes (e.before + 1) = few-before bytes (e.before + 1) (omega (arith, e.within)) in
    let rise' : offset bytes e.before ≤ offset bytes (e.before + 1) = offsets-rise bytes e.before 1 in
    let from_is : p.seal_from ≡ offset bytes n = e.from_is in
    let to_is : p.seal_to ≡ offset bytes e.before = e.to_is in
    let more_is : p.more_from ≡ offset bytes (e.before + 1) = more ∙ e.more_is in
    record {
      seal = omega (arith, from_is, to_is, rise);
      more = omega (arith, to_is, more_is, rise');
      end = omega (arith, more);
      entries = omega (arith, from_is, few);
      line = omega (arith, line, e.line_is, more_is, few');
    }
