-- What is read of a deck is well formed.
use Rattle.std.proofs.Common.{◌≡◌, ℕ, ◌≤◌, length, List, [], ◌++◌, Option, Some, None, Result, Ok, Err, IfOk, refl, sym, subst}
use Rattle.std.specs.List.{flat_map}
use Rattle.kdf_usercode.specs.declared.fault.DeckError.{DeckError}
use Rattle.kdf_usercode.specs.declared.statement.Deck.{Deck}
use Rattle.kdf_usercode.specs.declared.statement.Statement.{Statement}
use Rattle.kdf_usercode.specs.declared.phase.Stage.TheVariants.{Heading}
use Rattle.kdf_usercode.specs.declared.stars.Stars.TheVariants.{AfterOther}
use Rattle.kdf_usercode.specs.Faults.{FoundFault}
use Rattle.kdf_usercode.specs.Comments.{kept}
use Rattle.kdf_usercode.specs.Parsed.{parses}
use Rattle.kdf_usercode.specs.Pieces.{cut}
use Rattle.kdf_usercode.specs.Phase.{start}
use Rattle.kdf_usercode.specs.Grammar.{bytes_faults, comment_faults, faults_from, faults_of, early, statements, verdict, deck}
use Rattle.kdf_usercode.specs.Reading.{Gives}
use Rattle.kdf_usercode.specs.Thinned.{thinned, thinned_deck}
use Rattle.kdf_usercode.specs.WellFormed.{IsSequence, DeclareOnce, AreWellFormed, IsWellFormed}
use Rattle.kdf_usercode.proofs.Least.{least-none}
use Rattle.kdf_usercode.proofs.Rises.{rising}
use Rattle.kdf_usercode.proofs.Sequence.{none-there, pieces-forms, are-in-range, is-sequence, declare-once}
use Rattle.kdf_usercode.proofs.ThinnedFormed.{thinned-formed}

-- a deck without a fault has none in its statements
no-faults : (text : List ℕ) → early text ≡ None
    → faults_from start (length text) (parses (cut (kept text))) (cut (kept text)).tail ≡ []
no-faults text e =
    (none-there (bytes_faults 0 text ++ flat_map comment_faults (kept text))
    (faults_from start (length text) (parses (cut (kept text))) (cut (kept text)).tail) (least-none (faults_of text) e)).1

begins-sequence : (text : List ℕ) → early text ≡ None → IsSequence Heading (statements text)
unfolding start
begins-sequence text e =
    is-sequence start (length text) (parses (cut (kept text))) (cut (kept text)).tail (pieces-forms (cut (kept text)).pieces) (no-faults text e)

once : (text : List ℕ) → early text ≡ None → DeclareOnce (statements text)
unfolding start
once text e =
    declare-once start (length text) (parses (cut (kept text))) (cut (kept text)).tail (pieces-forms (cut (kept text)).pieces) refl (no-faults text e)

pub are-well-formed : (text : List ℕ) → length text ≤ 268435456 → early text ≡ None
    → AreWellFormed (statements text) (length text)
are-well-formed text short e = record {
  short = short;
  rises = rising text;
  in_range = are-in-range start (length text) (parses (cut (kept text))) (cut (kept text)).tail (pieces-forms (cut (kept text)).pieces) (no-faults text e);
  sequence = begins-sequence text e;
  once = once text e;
}

ok-verdict : (o : Option FoundFault) (ss items : List Statement) → verdict o ss ≡ Ok items
    → (o ≡ None) × (ss ≡ items)
ok-verdict None ss items e = (refl, cc)
ok-verdict (Some f) ss items e = absurd cc

pub gives-well-formed : (result : Result Deck DeckError) (text : List ℕ) → length text ≤ 268435456
    → Gives result (length text) (deck text) → IfOk result IsWellFormed
gives-well-formed (Ok d) text short h =
    let v = ok-verdict (early text) (statements text) d.statements.items h.0 in
    subst (λ (n : ℕ). AreWellFormed d.statements.items n) (sym h.1)
    (subst (λ (ss : List Statement). AreWellFormed ss (length text)) v.1 (are-well-formed text short v.0))
gives-well-formed (Err e) text short h = tt

pub gives-thinned-formed : (result : Result Deck DeckError) (text : List ℕ) → length text ≤ 268435456
    → Gives result (length text) (thinned_deck AfterOther text) → IfOk result IsWellFormed
gives-thinned-formed (Ok d) text short h =
    let v = ok-verdict (early text) (thinned AfterOther (statements text)) d.statements.items h.0 in
    subst (λ (n : ℕ). AreWellFormed d.statements.items n) (sym h.1)
    (subst (λ (ss : List Statement). AreWellFormed ss (length text)) v.1
    (thinned-formed (statements text) (length text) (are-well-formed text short v.0)))
gives-thinned-formed (Err e) text short h = tt
