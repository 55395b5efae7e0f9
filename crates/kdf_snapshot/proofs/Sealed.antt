-- The lines that are passed up to ENDSNAPSHOT.
use Rattle.std.proofs.Common.{◌≡◌, ℕ, ◌+◌, ◌<◌, true, false, cond, eqb, List, [], ◌∷◌, length, drop, Option, Some, refl, sym, ap, ◌∙◌, subst, arith}
use Rattle.std.specs.List.{position_from}
use Rattle.kdf_text.specs.Ahead.{ahead}
use Rattle.kdf_text.specs.Lines.{is_text, line}
use Rattle.kdf_text.proofs.Cutting.{no-lines}
use Rattle.kdf_snapshot.specs.declared.cursor.Cursor.{Cursor}
use Rattle.kdf_snapshot.specs.Passed.{Passed, PassedAll, PassedEnd}
use Rattle.kdf_snapshot.specs.Snapshot.{end_line}
use Rattle.kdf_snapshot.proofs.Reading.{passed-all, passed-more, passed-none, some_ahead}

-- the first ENDSNAPSHOT, where k lines stand before these
abbrev end_in : ℕ → List (List ℕ) → Option ℕ
end_in k ls = position_from (is_text end_line) k ls

-- lines were passed, of which none is ENDSNAPSHOT
pub record NoEndSoFar (old at : Cursor) : Type 0 where
  pub count : ℕ
  pub passed : Passed count old at
  pub none : (k : ℕ) → end_in k (ahead old.lines) ≡ end_in (k + count) (ahead at.lines)

pub none-passed : (at : Cursor) → NoEndSoFar at at
none-passed at = record { count = 0; passed = passed-none at; none = λ k. ap (λ n. end_in n (ahead at.lines)) (plus_none k) }
  where
    plus_none : (k : ℕ) → k ≡ k + 0
    plus_none k = omega arith

next-line : (k : ℕ) (ls : List (List ℕ)) → 0 < length ls → end_in k ls ≡ cond (is_text end_line (line ls 1)) (Some k) (end_in (k + 1) (drop 1 ls))
next-line k [] some = absurd (omega arith)
next-line k (l ∷ ls) some = refl

sum_on : (k n : ℕ) → k + n + 1 ≡ k + (n + 1)
sum_on k n = omega arith

-- another line
pub line-passed : (a b c : Cursor) (l : List ℕ) → NoEndSoFar a b → 0 < length b.lines.rest.now → Passed 1 b c → l ≡ line (ahead b.lines) 1
    → is_text end_line l ≡ false → NoEndSoFar a c
line-passed a b c l so some p here isnt = record {
  count = so.count + 1;
  passed = passed-more so.count 1 a b c so.passed p;
  none = λ k. so.none k ∙ next-line (k + so.count) (ahead b.lines) (some_ahead b.lines.rest.now some)
      ∙ rw (← here, isnt) (ap (λ n. end_in n (drop 1 (ahead b.lines))) (sum_on k so.count) ∙ ap (end_in (k + (so.count + 1))) (sym p.rest));
}

-- ENDSNAPSHOT
pub end-passed : (a b c : Cursor) (l : List ℕ) → NoEndSoFar a b → 0 < length b.lines.rest.now → Passed 1 b c → l ≡ line (ahead b.lines) 1
    → is_text end_line l ≡ true → PassedEnd a c b.offset
end-passed a b c l so some p here is = record {
  sealed = so.count;
  first = λ k. so.none k ∙ next-line (k + so.count) (ahead b.lines) (some_ahead b.lines.rest.now some) ∙ rw (← here, is) refl;
  passed = passed-more so.count 1 a b c so.passed p;
  begins = so.passed.offset;
}

-- the end
pub all-passed : (a b : Cursor) → NoEndSoFar a b → eqb (length b.lines.rest.now) 0 ≡ true → PassedAll a b
all-passed a b so end = record {
  none = λ k. so.none k ∙ ap (end_in (k + so.count)) (no-lines b.lines.rest.now end);
  passed = subst (λ n. Passed n a b) (passed-all so.count a b so.passed end) so.passed;
}
