-- The places of the statements of a deck rise, and are below its length.
use Rattle.std.proofs.Common.{◌≡◌, ℕ, ◌+◌, ◌<◌, ◌≤◌, length, Bool, true, false, cond, eqb, List, [], ◌∷◌, ◌++◌, Some, None, refl, sym, subst, append_assoc}
use Rattle.std.proofs.Common.{arith}
use Rattle.kdf_usercode.specs.declared.bytes.ByteAt.{ByteAt}
use Rattle.kdf_usercode.specs.declared.phase.Phase.{Phase}
use Rattle.kdf_usercode.specs.Phase.{start}
use Rattle.kdf_usercode.specs.declared.statement.Statement.{Statement}
use Rattle.kdf_usercode.specs.Comments.{is_kept, inside_after, kept_from, kept}
use Rattle.kdf_usercode.specs.Parsed.{Parsed, statements_in, parses, parsed}
use Rattle.kdf_usercode.specs.Pieces.{onto, in_front, cut, codes_of}
use Rattle.kdf_usercode.specs.Grammar.{phase_after, statements_of, with_form, statements_from, statements}
use Rattle.std.proofs.lemmas.List.Concat.{flat_map-cons}
use Rattle.kdf_usercode.specs.Rising.{Rises}

abbrev BytesRise : ℕ → List ByteAt → ℕ → Type 0
BytesRise low [] high = Unit {0}
BytesRise low (k ∷ ks) high = (low ≤ k.at) × (k.at < high) × BytesRise (k.at + 1) ks high

abbrev ParsedRise : ℕ → List Parsed → ℕ → Type 0
ParsedRise low [] high = Unit {0}
ParsedRise low (w ∷ ws) high = (low ≤ w.place) × (w.place < high) × ParsedRise (w.place + 1) ws high

bytes-lower : (low low' high : ℕ) (ks : List ByteAt) → low' ≤ low → BytesRise low ks high
    → BytesRise low' ks high
bytes-lower low low' high [] le h = tt
bytes-lower low low' high (k ∷ ks) le h = (omega (arith, h.0), h.1, h.2)

parsed-lower : (low low' high : ℕ) (ws : List Parsed) → low' ≤ low → ParsedRise low ws high
    → ParsedRise low' ws high
parsed-lower low low' high [] le h = tt
parsed-lower low low' high (w ∷ ws) le h = (omega (arith, h.0), h.1, h.2)

pub rises-lower : (low low' high : ℕ) (ss : List Statement) → low' ≤ low → Rises low ss high
    → Rises low' ss high
rises-lower low low' high [] le h = tt
rises-lower low low' high (s ∷ ss) le h = (omega (arith, h.0), h.1, h.2)

-- the first bytes may be left out
bytes-skip : (low high : ℕ) (front ks : List ByteAt) → BytesRise low (front ++ ks) high
    → BytesRise low ks high
bytes-skip low high [] ks h = h
bytes-skip low high (k ∷ front) ks h =
    bytes-lower (k.at + 1) low high ks (omega (arith, h.0)) (bytes-skip (k.at + 1) high front ks h.2)

kept_from-rise : (inside : Bool) (at high : ℕ) (bytes : List ℕ) → at + length bytes ≤ high
    → BytesRise at (kept_from inside at bytes) high
kept_from-rise inside at high [] le = tt
kept_from-rise inside at high (b ∷ bytes) le =
    let rest = kept_from-rise (inside_after inside b bytes) (at + 1) high bytes (omega arith) in
    let later = kept_from (inside_after inside b bytes) (at + 1) bytes in
    elim (is_kept inside b bytes) as (λ v. BytesRise at (cond v (record { at = at; byte = b } ∷ []) [] ++ later) high)
    [ true ↦ (omega arith, omega arith, rest) | false ↦ bytes-lower (at + 1) at high later (omega arith) rest ]

-- all bytes of a cut
joined : List (List ByteAt) → List ByteAt → List ByteAt
joined [] tail = tail
joined (p ∷ ps) tail = p ++ joined ps tail

onto-joined : (front : List ByteAt) (ps : List (List ByteAt)) (tail : List ByteAt)
    → joined (onto front ps tail).pieces (onto front ps tail).tail ≡ front ++ joined ps tail
unfolding joined
onto-joined front [] tail = refl
onto-joined front (p ∷ ps) tail = append_assoc front p (joined ps tail)

cut-rise : (low high : ℕ) (ks : List ByteAt) → BytesRise low ks high
    → BytesRise low (joined (cut ks).pieces (cut ks).tail) high
unfolding joined
cut-rise low high [] h = tt
cut-rise low high (k ∷ ks) h =
    let c = cut ks in
    let rest = cut-rise (k.at + 1) high ks h.2 in
    elim (eqb k.byte 59) as (λ b. BytesRise low (joined (cond b (record { pieces = [] ∷ c.pieces; tail = c.tail }) (in_front (k ∷ []) c)).pieces
    (cond b (record { pieces = [] ∷ c.pieces; tail = c.tail }) (in_front (k ∷ []) c)).tail) high) [
      | true ↦ bytes-lower (k.at + 1) low high (joined c.pieces c.tail) (omega (arith, h.0)) rest
      | false ↦ subst (λ (x : List ByteAt). BytesRise low x high) (sym (onto-joined (k ∷ []) c.pieces c.tail)) (h.0, h.1, rest)
    ]

piece-rise : (low high : ℕ) (piece rest : List ByteAt) (ws : List Parsed)
    → ((l : ℕ) → BytesRise l rest high → ParsedRise l ws high) → BytesRise low (piece ++ rest) high
    → ParsedRise low (statements_in piece ++ ws) high
piece-rise low high [] rest ws f h = f low h
piece-rise low high (k ∷ ks) rest ws f h =
    elim (eqb k.byte 42) as (λ b. ParsedRise low (cond b (parsed k.at (42 ∷ []) ∷ statements_in ks) (parsed k.at (codes_of (k ∷ ks)) ∷ []) ++ ws) high) [
      | true ↦ (h.0, h.1, piece-rise (k.at + 1) high ks rest ws f h.2)
      | false ↦ (h.0, h.1, f (k.at + 1) (bytes-skip (k.at + 1) high ks rest h.2))
    ]

pieces-rise : (low high : ℕ) (ps : List (List ByteAt)) (tail : List ByteAt)
    → BytesRise low (joined ps tail) high
    → ParsedRise low (parses (record { pieces = ps; tail = tail })) high
unfolding joined
pieces-rise low high [] tail h = tt
pieces-rise low high (p ∷ ps) tail h =
    rw flat_map-cons (piece-rise low high p (joined ps tail) (parses (record { pieces = ps; tail = tail })) (λ l r. pieces-rise l high ps tail r) h)

statements-rise : (low high : ℕ) (phase : Phase) (ws : List Parsed) → ParsedRise low ws high
    → Rises low (statements_from phase ws) high
unfolding statements_of
statements-rise low high phase [] h = tt
statements-rise low high phase (w ∷ ws) h =
    let next = phase_after phase w in
    let rest = statements-rise (w.place + 1) high next ws h.2 in
    let later = statements_from next ws in
    elim w.form as (λ o. Rises low (with_form phase w o ++ later) high)
    [ None ↦ rises-lower (w.place + 1) low high later (omega (arith, h.0)) rest | Some f ↦ (h.0, h.1, rest) ]

pub rising : (text : List ℕ) → Rises 0 (statements text) (length text)
rising text =
    let c = cut (kept text) in
    statements-rise 0 (length text) start (parses c)
    (pieces-rise 0 (length text) c.pieces c.tail (cut-rise 0 (length text) (kept text) (kept_from-rise false 0 (length text) text (omega arith))))
