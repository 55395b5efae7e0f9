use Rattle.std.proofs.Common.{◌≡◌, ℕ, List, [], Bool, true, false, map, ap, sym, subst, ◌∙◌, if◌then◌else◌, string_bytes, Global, IfOk}
use Rattle.std.specs.Str.{is_utf8}
use Rattle.std.specs.Str.Lines.{lines}
use Rattle.std.proofs.lemmas.Bool.{false_from_ne_true}
use Rattle.std.proofs.lemmas.Str.{IsUtf8-from_is_utf8, is_utf8-from_IsUtf8}
use Rattle.kdf_engine.specs.Words.{words_in}
use Rattle.kdf_engine.proofs.words.words_of.Goals as goal

words_of_utf8 : (bs : List ℕ) → is_utf8 bs ≡ true → words_in bs ≡ lines bs
words_of_utf8 bs e = ap (λ (b : Bool). if b then lines bs else []) e

no_words : (bs : List ℕ) → is_utf8 bs ≡ false → words_in bs ≡ []
no_words bs e = ap (λ (b : Bool). if b then lines bs else []) e

pub returns-in_default : goal.returns-in_default
returns-in_default c =
    let none = no_words c.args.words.now (false_from_ne_true _ (λ e. c.in_default.ensures.cases.0 (IsUtf8-from_is_utf8 _ e))) in
    ap (map (string_bytes {Z = Global})) c.new.ensures.items ∙ sym none

pub returns : goal.returns
returns c =
    let text = c.in-Ok.ensures.cases in
    let same = ap lines text.0 ∙ sym (words_of_utf8 _ (is_utf8-from_IsUtf8 _ text.1)) in
    subst (λ (ws : List (List ℕ)). IfOk c.words_of_text.result (λ all. map (string_bytes {Z = Global}) all.items ≡ ws)) same c.words_of_text.ensures
