-- The text of stops, part by part.
use Rattle.std.proofs.Common.{◌≡◌, ℕ, List, [], ◌∷◌, ◌++◌, map, ◌∙◌, subst}
use Rattle.kdf_text.specs.Text.{text}
use Rattle.kdf_text.proofs.Texts.{text_more}
use Rattle.kdf_top.specs.Due.{stop_line, stops_text, watch_line}

pub stops_whole : (slot address : ℕ) (stops none head mid all : List ℕ) → none ≡ [] → head ≡ none ++ text (watch_line slot address ∷ [])
    → mid ≡ head ++ text (map stop_line stops)
    → all ≡ mid → all ≡ stops_text slot address stops
stops_whole slot address stops none head mid all is_none first second last =
    let whole : mid ≡ none ++ stops_text slot address stops = text_more none head mid (watch_line slot address ∷ []) (map stop_line stops) first second in
    subst (λ xs. all ≡ xs ++ stops_text slot address stops) is_none (last ∙ whole)
