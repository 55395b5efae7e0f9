-- Every statement stands where the walk over those before it has come to.
use Rattle.std.proofs.Common.{◌≡◌, ℕ, ◌+◌, ◌-◌, ◌*◌, ◌/◌, ◌<◌, ◌≤◌, true, List, [], ◌∷◌, ◌++◌, length, length-append, get_or, sum, replicate, inl, inr, Some}
use Rattle.std.proofs.Common.{refl, sym, ap, ◌∙◌, append_assoc, arith}
use Rattle.std.proofs.lemmas.List.{append-nil, get_or_append_left, get_or-replicate, length-replicate}
use Rattle.kdf_syllable.specs.declared.order.Order.{Order}
use Rattle.kdf_syllable.specs.declared.order.Order.TheVariants.{Jump}
use Rattle.kdf_syllable.specs.Spelling.{spelling}
use Rattle.kdf_usercode.specs.declared.statement.Statement.{Statement}
use Rattle.kdf_usercode.specs.declared.statement.What.{What}
use Rattle.kdf_usercode.specs.declared.statement.What.TheVariants.{Program, Part, Star}
use Rattle.kdf_usercode.specs.WellFormed.{AreInRange}
use Rattle.kdf_place.specs.declared.here.Here.{Here}
use Rattle.kdf_place.specs.declared.here.Section.{Section}
use Rattle.kdf_place.specs.Layout.{stores, round_up, advance, section_after, after, walked, front, end_of}
use Rattle.kdf_place.specs.Names.{Names}
use Rattle.kdf_place.specs.Late.{wrong, wrongs}
use Rattle.kdf_place.specs.Placement.{order_of, spelt, filling, syllables_of, syllables, words_of, with_constants, jump_target, start_of, first_word, words}
use Rattle.kdf_place.specs.Stands.{syllable_at, Stand, IsFilled, begins_word}
use Rattle.kdf_place.proofs.Lengths.{round_up-above, length-statement, length-syllables, length-words_of, length-first, words-image}
use Rattle.kdf_place.proofs.Untouched.{Misses, one-untouched, untouched-before, untouched-later}
use Rattle.kdf_place.proofs.Walks.{nil-both, nil-founds, walked-append, walked-above, wrongs-append, constants-append, bytes, syllables-append, length-bytes}
use Rattle.kdf_place.proofs.Walks.{stores_end}
use Rattle.kdf_place.proofs.Syllables.{bytes-all, syllable-words_of, get_or-middle}

-- the words before the constants are put into them
abbrev plain : Names → List Statement → List ℕ
plain m ss = words_of (first_word m ++ syllables m front ss) ++ replicate (sum m.groups) 0

length-all : (m : Names) (ss : List Statement) → length (first_word m ++ syllables m front ss) ≡ round_up (end_of front ss)
length-all m ss = omega (arith, length-append (first_word m) (syllables m front ss), length-first m, length-syllables m front ss)

-- a syllable of a word that no constant goes into
syllable-plain : (m : Names) (ss : List Statement) (k : ℕ) → AreInRange ss → k < round_up (end_of front ss)
    → get_or (words m ss) (k / 6) 0 ≡ get_or (plain m ss) (k / 6) 0
    → syllable_at (words m ss) k ≡ get_or (first_word m ++ syllables m front ss) k 0
syllable-plain m ss k are lt same =
    let all = first_word m ++ syllables m front ss in
    let within : k / 6 < length (words_of all) = omega (arith, length-words_of all, length-all m ss, lt) in
    let word : get_or (words m ss) (k / 6) 0 ≡ get_or (words_of all) (k / 6) 0 =
    same ∙ get_or_append_left (words_of all) (replicate (sum m.groups) 0) 0 (k / 6) within in
    rw word (syllable-words_of all k (bytes-all m front ss are) within)

-- a word at or after this statement's place
one-before : (m : Names) (here : Here) (s : Statement) (ws : List ℕ) (w : ℕ) → wrongs m here (s ∷ []) ≡ []
    → 6 * (here.section.base + here.section.stores) ≤ here.at → here.at ≤ 6 * w + 5
    → get_or (with_constants m here (s ∷ []) ws) w 0 ≡ get_or ws w 0
one-before m here s ws w ok end low =
    let none = nil-founds s.place (wrong m here s.what) (nil-both _ [] ok).0 in
    one-untouched m here s.what ws w none (inl (omega arith))

-- the words that the statements before, this one and those after leave as they are
same-word : (m : Names) (before behind : List Statement) (s : Statement) (ws : List ℕ) (k : ℕ) → wrongs m front (before ++ s ∷ behind) ≡ []
    → (walked front before).at ≤ k → k < (after (walked front before) s).at → Misses (after (walked front before) s).section (k / 6)
    → get_or (with_constants m front (before ++ s ∷ behind) ws) (k / 6) 0 ≡ get_or ws (k / 6) 0
same-word m before behind s ws k ok low high misses =
    let here = walked front before in
    let both = nil-both (wrongs m front before) (wrongs m here (s ∷ behind)) (sym (wrongs-append m front before (s ∷ behind)) ∙ ok) in
    let founds = wrongs m here (s ∷ []) in
    let split : wrongs m here (s ∷ []) ++ wrongs m (after here s) behind ≡ [] = sym (wrongs-append m here (s ∷ []) behind) ∙ both.1 in
    let rest = nil-both founds (wrongs m (after here s) behind) split in
    let end = stores_end front before (omega arith) in
    let ws' = with_constants m front before ws in
    ap (λ (xs : List ℕ). get_or xs (k / 6) 0) (constants-append m front before (s ∷ behind) ws)
    ∙ untouched-later m (after here s) behind (with_constants m here (s ∷ []) ws') (k / 6) rest.1 misses (omega arith)
    ∙ one-before m here s ws' (k / 6) rest.0 end (omega arith)
    ∙ untouched-before m front before ws (k / 6) both.0 (omega arith) (omega arith)

-- the syllables of a statement stand at its place
stand-statement : (m : Names) (before behind : List Statement) (s : Statement) (k j : ℕ) → AreInRange (before ++ s ∷ behind)
    → wrongs m front (before ++ s ∷ behind) ≡ []
    → k ≡ (walked front before).at + j → j < length (syllables_of m (walked front before) s.what) → Misses (after (walked front before) s).section (k / 6)
    → syllable_at (words m (before ++ s ∷ behind)) k ≡ get_or (syllables_of m (walked front before) s.what) j 0
stand-statement m before behind s k j are ok is lt misses =
    let ss = before ++ s ∷ behind in
    let here = walked front before in
    let mid = syllables_of m here s.what in
    let back = syllables m (after here s) behind in
    let pre = first_word m ++ bytes m front before in
    let here_end = length-statement m here s.what in
    let end = walked-above m (after here s) behind in
    let goes : walked front ss ≡ walked (after here s) behind = walked-append front before (s ∷ behind) in
    let goes_at : (walked front ss).at ≡ (walked (after here s) behind).at = ap (λ (h : Here). h.at) goes in
    let joined : first_word m ++ syllables m front ss ≡ pre ++ (mid ++ back) =
    ap (λ (xs : List ℕ). first_word m ++ xs) (syllables-append m front before (s ∷ behind))
    ∙ sym (append_assoc (first_word m) (bytes m front before) (mid ++ back)) in
    let len : length pre ≡ here.at = omega (arith, length-append (first_word m) (bytes m front before), length-first m, length-bytes m front before) in
    syllable-plain m ss k are (omega (arith, is, lt, here_end, end, goes_at, round_up-above (walked front ss).at))
    (same-word m before behind s (plain m ss) k ok (omega arith) (omega (arith, is, lt, here_end)) misses)
    ∙ get_or-middle (first_word m ++ syllables m front ss) pre mid back here.at k j joined len is lt

order-syllables : (m : Names) (here : Here) (what : What) (order : Order) → order_of m here.section what ≡ Some order
    → syllables_of m here what ≡ spelling order
order-syllables m here Star order e = absurd cc
order-syllables m here (Program v) order e = absurd cc
order-syllables m here (Part p v) order e = absurd cc
order-syllables m here what order e = ap spelt e

order-section : (m : Names) (here : Here) (place : ℕ) (what : What) (order : Order) → order_of m here.section what ≡ Some order
    → section_after here place what ≡ here.section
order-section m here place (Program v) order e = absurd cc
order-section m here place (Part p v) order e = absurd cc
order-section m here place what order e = refl

-- the image reaches after each statement
within : (m : Names) (before behind : List Statement) (s : Statement) → (after (walked front before) s).at ≤ 6 * length (words m (before ++ s ∷ behind))
within m before behind s =
    let ss = before ++ s ∷ behind in
    let here = walked front before in
    let goes_at : (walked front ss).at ≡ (walked (after here s) behind).at = ap (λ (h : Here). h.at) (walked-append front before (s ∷ behind)) in
    omega (arith, words-image m ss, walked-above m (after here s) behind, goes_at)

pub stand-order : (m : Names) (before behind : List Statement) (s : Statement) (order : Order) → AreInRange (before ++ s ∷ behind)
    → wrongs m front (before ++ s ∷ behind) ≡ []
    → order_of m (walked front before).section s.what ≡ Some order
    → Stand (words m (before ++ s ∷ behind)) (walked front before).at (spelling order)
stand-order m before behind s order are ok e =
    let here = walked front before in
    let spelt_so = order-syllables m here s.what order e in
    let same = order-section m here s.place s.what order e in
    let end = stores_end front before (omega arith) in
    let sizes : length (syllables_of m here s.what) ≡ length (spelling order) = ap (λ (xs : List ℕ). length xs) spelt_so in (
      omega (arith, sizes, length-statement m here s.what, within m before behind s),
      λ k lt.
          let base : (after here s).section.base + (after here s).section.stores ≡ here.section.base + here.section.stores =
          ap (λ (x : Section). x.base + x.stores) same in
          stand-statement m before behind s (here.at + k) k are ok refl (omega (arith, sizes, lt)) (inl (omega (arith, base, end)))
          ∙ ap (λ (xs : List ℕ). get_or xs k 0) spelt_so,
    )

fills-opening : (at n j : ℕ) → j < round_up at - at → (j < length (filling at ++ replicate n 0)) × (get_or (filling at ++ replicate n 0) j 0 ≡ 1)
fills-opening at n j lt =
    let len = length-replicate {A = ℕ} (round_up at - at) 1 in (
      omega (arith, lt, len, length-append (filling at) (replicate n 0)),
      get_or_append_left (filling at) (replicate n 0) 0 j (omega (arith, lt, len)) ∙ get_or-replicate (round_up at - at) j 1 0 lt,
    )

filled-before : (here : Here) (place : ℕ) (what : What) → begins_word what ≡ true → round_up here.at ≤ advance here.at what
filled-before here place Star begins = omega arith
filled-before here place (Program v) begins = omega arith
filled-before here place (Part p v) begins = omega arith
filled-before here place what begins = absurd cc

-- what begins on a new word begins with the filling of the word before
fills : (m : Names) (here : Here) (what : What) (j : ℕ) → begins_word what ≡ true → j < round_up here.at - here.at
    → (j < length (syllables_of m here what)) × (get_or (syllables_of m here what) j 0 ≡ 1)
fills m here Star j begins lt = (
  omega (arith, lt, length-replicate {A = ℕ} (round_up here.at - here.at) 1),
  get_or-replicate (round_up here.at - here.at) j 1 0 lt,
)
fills m here (Program v) j begins lt = fills-opening here.at (6 * stores v) j lt
fills m here (Part p v) j begins lt = fills-opening here.at (6 * stores v) j lt
fills m here what j begins lt = absurd cc

misses-filling : (here : Here) (place : ℕ) (what : What) (k : ℕ) → begins_word what ≡ true → 6 * (here.section.base + here.section.stores) ≤ here.at
    → here.at ≤ k → k < round_up here.at → Misses (section_after here place what) (k / 6)
misses-filling here place Star k begins end low high = inl (omega arith)
misses-filling here place (Program v) k begins end low high = inr (omega arith)
misses-filling here place (Part p v) k begins end low high = inr (omega arith)
misses-filling here place what k begins end low high = absurd cc

pub stand-filling : (m : Names) (before behind : List Statement) (s : Statement) → AreInRange (before ++ s ∷ behind)
    → wrongs m front (before ++ s ∷ behind) ≡ []
    → begins_word s.what ≡ true → IsFilled (words m (before ++ s ∷ behind)) (walked front before).at
stand-filling m before behind s are ok begins =
    let here = walked front before in
    let end = stores_end front before (omega arith) in (
      omega (arith, within m before behind s, filled-before here s.place s.what begins),
      λ k low high.
          let part = fills m here s.what (k - here.at) begins (omega arith) in
          stand-statement m before behind s k (k - here.at) are ok (omega arith) part.0 (misses-filling here s.place s.what k begins end low high)
          ∙ part.1,
    )

-- the filling of the last word
pub stand-last : (m : Names) (ss : List Statement) → AreInRange ss → wrongs m front ss ≡ [] → IsFilled (words m ss) (walked front ss).at
stand-last m ss are ok =
    let here = walked front ss in
    let pre = first_word m ++ bytes m front ss in
    let joined : first_word m ++ syllables m front ss ≡ pre ++ (filling here.at ++ []) =
    ap (λ (xs : List ℕ). first_word m ++ xs) (ap (λ (ss' : List Statement). syllables m front ss') (sym (append-nil ss)) ∙ syllables-append m front ss [])
    ∙ sym (append_assoc (first_word m) (bytes m front ss) (filling here.at))
    ∙ ap (λ (xs : List ℕ). pre ++ xs) (sym (append-nil (filling here.at))) in
    let len : length pre ≡ here.at = omega (arith, length-append (first_word m) (bytes m front ss), length-first m, length-bytes m front ss) in (
      omega (arith, words-image m ss),
      λ k low high.
          let there : k - here.at < round_up here.at - here.at = omega arith in
          syllable-plain m ss k are high (untouched-before m front ss (plain m ss) (k / 6) ok (omega arith) (omega arith))
          ∙ get_or-middle (first_word m ++ syllables m front ss) pre (filling here.at) [] here.at k (k - here.at) joined len (omega arith)
          (omega (arith, there, length-replicate {A = ℕ} (round_up here.at - here.at) 1))
          ∙ get_or-replicate (round_up here.at - here.at) (k - here.at) 1 0 there,
    )

-- word 0
pub stand-start : (m : Names) (ss : List Statement) → AreInRange ss → wrongs m front ss ≡ []
    → Stand (words m ss) 0 (spelling (Jump 0x20 (jump_target (start_of m))))
unfolding spelling
stand-start m ss are ok =
    let jump = spelling (Jump 0x20 (jump_target (start_of m))) in
    let above = walked-above m front ss in
    let rest : List ℕ = 1 ∷ 1 ∷ 1 ∷ [] in (
      omega (arith, words-image m ss, above),
      λ k lt.
          let three : k < 3 = lt in
          syllable-plain m ss (0 + k) are (omega (arith, three, above))
          (untouched-later m front ss (plain m ss) ((0 + k) / 6) ok (inl (omega arith)) (omega arith))
          ∙ get_or-middle (first_word m ++ syllables m front ss) [] jump (rest ++ syllables m front ss) 0 (0 + k) k refl refl refl lt,
    )
