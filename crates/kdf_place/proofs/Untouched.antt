-- The constants go into V-stores, and change no other word.
use Rattle.std.proofs.Common.{◌≡◌, ◌≢◌, ℕ, ◌+◌, ◌*◌, ◌<◌, ◌≤◌, ◌⊎◌, inl, inr, List, [], ◌∷◌, map, get_or, Some, Err, refl, ◌∙◌, arith}
use Rattle.std.proofs.lemmas.Bool.{cases_lt, le-ltb}
use Rattle.std.proofs.lemmas.List.{get_or-set_other}
use Rattle.kdf_usercode.specs.declared.fault.DeckFault.TheVariants.{VRange}
use Rattle.kdf_usercode.specs.declared.statement.Statement.{Statement}
use Rattle.kdf_usercode.specs.declared.statement.What.{What}
use Rattle.kdf_usercode.specs.declared.statement.What.TheVariants.{Program, Part, Constant}
use Rattle.kdf_usercode.specs.Faults.{FoundFault, found}
use Rattle.kdf_place.specs.declared.here.Here.{Here}
use Rattle.kdf_place.specs.declared.here.Section.{Section}
use Rattle.kdf_place.specs.Layout.{section_after, after, walked}
use Rattle.kdf_place.specs.Names.{Names, store_at, v_store}
use Rattle.kdf_place.specs.Late.{fault_in, value_faults, wrong, wrongs}
use Rattle.kdf_place.specs.Placement.{value, with_constant, with_constants}
use Rattle.kdf_place.proofs.Walks.{nil-both, nil-founds, after-above, walked-above, stores_end}

-- word w is no V-store of this part
abbrev pub Misses : Section → ℕ → Type 0
Misses section w = (section.base + section.stores ≤ w) ⊎ (w < section.base)

pub store-there : (base count n : ℕ) → fault_in (store_at base count VRange n) ≡ [] → n < count
store-there base count n ok =
    elim (cases_lt n count) [
      | inl lt ↦ lt
      | inr ge ↦ let wrong : fault_in (Err VRange) ≡ [] = rw (le-ltb n count ge) at ok in absurd cc
    ]

pub one-untouched : (names : Names) (here : Here) (what : What) (ws : List ℕ) (w : ℕ) → wrong names here what ≡ [] → Misses here.section w
    → get_or (with_constant names here.section what ws) w 0 ≡ get_or ws w 0
one-untouched names here (Constant n constant) ws w ok misses =
    let ok_store = nil-both (fault_in (v_store (Some here.section) n)) (value_faults names here.section constant) ok in
    let there = store-there here.section.base here.section.stores n ok_store.0 in
    let far : w ≢ here.section.base + n = elim misses [ inl behind ↦ omega arith | inr before ↦ omega arith ] in
    get_or-set_other ws (here.section.base + n) w (value names here.section constant) 0 far
one-untouched names here what ws w ok misses = refl

misses-after : (here : Here) (place : ℕ) (what : What) (w : ℕ) → Misses here.section w → 6 * w < here.at → Misses (section_after here place what) w
misses-after here place (Program v) w misses low = inr (omega arith)
misses-after here place (Part p v) w misses low = inr (omega arith)
misses-after here place what w misses low = misses

-- a word before this place that is no V-store of this part
pub untouched-later : (names : Names) (here : Here) (ss : List Statement) (ws : List ℕ) (w : ℕ) → wrongs names here ss ≡ []
    → Misses here.section w → 6 * w < here.at → get_or (with_constants names here ss ws) w 0 ≡ get_or ws w 0
untouched-later names here [] ws w ok misses low = refl
untouched-later names here (s ∷ ss) ws w ok misses low =
    let founds : List FoundFault = map (λ fault. found fault s.place) (wrong names here s.what) in
    let both = nil-both founds (wrongs names (after here s) ss) ok in
    untouched-later names (after here s) ss (with_constant names here.section s.what ws) w both.1
    (misses-after here s.place s.what w misses low) (omega (arith, low, after-above names here s))
    ∙ one-untouched names here s.what ws w (nil-founds s.place (wrong names here s.what) both.0) misses

-- a word after all these statements
pub untouched-before : (names : Names) (here : Here) (ss : List Statement) (ws : List ℕ) (w : ℕ) → wrongs names here ss ≡ []
    → 6 * (here.section.base + here.section.stores) ≤ here.at → (walked here ss).at ≤ 6 * w + 5
    → get_or (with_constants names here ss ws) w 0 ≡ get_or ws w 0
untouched-before names here [] ws w ok end high = refl
untouched-before names here (s ∷ ss) ws w ok end high =
    let founds : List FoundFault = map (λ fault. found fault s.place) (wrong names here s.what) in
    let both = nil-both founds (wrongs names (after here s) ss) ok in
    let above = walked-above names (after here s) ss in
    let step = after-above names here s in
    untouched-before names (after here s) ss (with_constant names here.section s.what ws) w both.1
    (stores_end here (s ∷ []) end) high
    ∙ one-untouched names here s.what ws w (nil-founds s.place (wrong names here s.what) both.0) (inl (omega (arith, end, high, above, step)))
