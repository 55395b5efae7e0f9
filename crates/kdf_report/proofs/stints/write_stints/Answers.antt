use Rattle.std.proofs.Common.{◌≡◌, ℕ, ◌+◌, ◌<◌, List, [], ◌∷◌, ◌++◌, length, take, Option, Some, None, IfSome, ap, refl, ◌∙◌, append-nil, arith}
use Rattle.std.specs.Prelude.{slice_get}
use Rattle.std.specs.List.{flat_map}
use Rattle.std.proofs.lemmas.List.{take_more}
use Rattle.std.proofs.lemmas.List.Concat.{flat_map-append}
use Rattle.std.proofs.lemmas.Option.{get_or_from_slice_get, slice_get_cases}
use Rattle.kdf_processor.specs.State.{Lending, lendings}
use Rattle.kdf_text.specs.Text.{text}
use Rattle.kdf_text.proofs.Texts.{text_more}
use Rattle.kdf_report.specs.Devices.{stint_lines}
use Rattle.kdf_report.proofs.stints.write_stints.Goals as goal

-- one stint more is taken of the list
taken_more : (xs : List Lending) (i : ℕ) (x : Lending) → i < length xs → slice_get xs i ≡ Some x
    → flat_map stint_lines (take (i + 1) xs) ≡ flat_map stint_lines (take i xs) ++ stint_lines x
taken_more xs i x lt at =
    ap (flat_map stint_lines) (take_more xs i x lt ∙ ap (λ (y : Lending). take i xs ++ y ∷ []) (get_or_from_slice_get xs i x x at))
    ∙ flat_map-append stint_lines (take i xs) (x ∷ []) ∙ ap (λ (ls : List (List ℕ)). flat_map stint_lines (take i xs) ++ ls) (append-nil (stint_lines x))

stints_more : (xs : List Lending) (i : ℕ) (old mid new : List ℕ) → i < length xs → mid ≡ old ++ text (flat_map stint_lines (take i xs))
    → IfSome (slice_get xs i) (λ (x : Lending). new ≡ mid ++ text (stint_lines x)) → new ≡ old ++ text (flat_map stint_lines (take (i + 1) xs))
stints_more xs i old mid new lt before one = go (slice_get xs i) refl one
  where
    go : (o : Option Lending) → slice_get xs i ≡ o → IfSome o (λ (x : Lending). new ≡ mid ++ text (stint_lines x))
        → new ≡ old ++ text (flat_map stint_lines (take (i + 1) xs))
    go None e one = absurd (grind (arith, slice_get_cases xs i))
    go (Some x) e one = rw (taken_more xs i x lt e) (text_more old mid new _ _ before one)

pub loop-i-preserved : goal.loop-i-preserved
loop-i-preserved g c = record {
  written = stints_more (lendings (g.P.Program.state c.args.program.now).stock) c.loop-i.i _ _ _ (omega arith)
      c.loop-i.invariant.written c.in_ok-write_stint.ensures;
  most = omega arith;
}
