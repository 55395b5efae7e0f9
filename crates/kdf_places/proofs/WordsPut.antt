-- Words that a transfer moves, as its program sees them.
use Rattle.std.proofs.Common.{◌≡◌, ◌≢◌, ℕ, zero, suc, ◌+◌, ◌-◌, ◌/◌, ◌%◌, ◌<◌, ◌≤◌, ◌⊎◌, inl, inr, true, false, List, [], ◌∷◌, length, get_or, set, take, drop}
use Rattle.std.proofs.Common.{Option, Some, None, cond, eqb, leb, ltb, ◌&&◌, refl, sym, ap, ◌∙◌, subst, ⊎_elim, arith}
use Rattle.std.proofs.Math.Path.{fun_ext}
use Rattle.std.proofs.lemmas.Bool.{cases_Bool, cases_eq, and_parts, leb-true, ltb-true}
use Rattle.std.proofs.lemmas.List.{get_or-set_same, get_or-set_other, length-set}
use Rattle.kdf_lockout.specs.Groups.{Cells, Lent, group_at, with_lent_word, AreFull}
use Rattle.kdf_transfer.specs.declared.order.TransferOrder.{TransferOrder}
use Rattle.kdf_transfer.specs.AtOnce.{is_backward, at_addresses, down_addresses, addressed, written}
use Rattle.kdf_transfer.specs.InFlight.{put_words}
use Rattle.kdf_places.specs.Words.{own_words, has_group, with_lease}
use Rattle.kdf_transfer.specs.ByNumber.{device_count}
use Rattle.kdf_places.specs.Words as physical
use Rattle.kdf_places.proofs.WordsHereAndOut.{with_lease_is, with_lease_other, own_words_changed, own_words_other, word_of-with_lent_word}

-- addresses of a window, as places of the store
abbrev pub shift : ℕ → List (ℕ × ℕ) → List (ℕ × ℕ)
shift base [] = []
shift base (m ∷ ms) = (base + m.0, m.1) ∷ shift base ms

-- each of the words is between two addresses
abbrev pub AreWithin : ℕ → ℕ → List (ℕ × ℕ) → Type 0
AreWithin first last [] = Unit {0}
AreWithin first last (m ∷ ms) = (first ≤ m.0) × (m.0 ≤ last) × AreWithin first last ms

pub within-drop : (n first last : ℕ) (ms : List (ℕ × ℕ)) → AreWithin first last ms → AreWithin first last (drop n ms)
within-drop zero first last ms h = h
within-drop (suc n) first last [] h = h
within-drop (suc n) first last (m ∷ ms) h = within-drop n first last ms h.2

pub within-take : (n first last : ℕ) (ms : List (ℕ × ℕ)) → AreWithin first last ms → AreWithin first last (take n ms)
within-take zero first last ms h = tt
within-take (suc n) first last [] h = h
within-take (suc n) first last (m ∷ ms) h = (h.0, h.1, within-take n first last ms h.2)

within-at : (first last a : ℕ) (ws : List ℕ) → first ≤ a → a + length ws ≤ last + 1 → AreWithin first last (at_addresses a ws)
within-at first last a [] low high = tt
within-at first last a (w ∷ ws) low high = (low, omega arith, within-at first last (a + 1) ws (omega arith) (omega arith))

within-down : (first last a : ℕ) (ws : List ℕ) → a ≤ last → first + length ws ≤ a + 1 → AreWithin first last (down_addresses a ws)
within-down first last a [] low high = tt
within-down first last a (w ∷ []) low high = (omega arith, low, tt)
within-down first last a (w ∷ v ∷ ws) low high = (omega arith, low, within-down first last (a - 1) (v ∷ ws) (omega arith) (omega arith))

pub within-addressed : (o : TransferOrder) (first last : ℕ) (ws : List ℕ) → length ws ≤ last + 1 - first → first ≤ last
    → AreWithin first last (addressed o first last ws)
within-addressed o first last ws few rising =
    ⊎_elim
    (λ (is : is_backward o ≡ true). subst (λ b. AreWithin first last (cond b (down_addresses last ws) (at_addresses first ws))) (sym is)
    (within-down first last last ws (omega arith) (omega arith)))
    (λ (not : is_backward o ≡ false). subst (λ b. AreWithin first last (cond b (down_addresses last ws) (at_addresses first ws))) (sym not)
    (within-at first last first ws (omega arith) (omega arith)))
    (cases_Bool (is_backward o))

shift-at : (base a : ℕ) (ws : List ℕ) → at_addresses (base + a) ws ≡ shift base (at_addresses a ws)
shift-at base a [] = refl
shift-at base a (w ∷ ws) = ap (λ k. (base + a, w) ∷ at_addresses k ws) (let e : base + a + 1 ≡ base + (a + 1) = omega arith in e)
    ∙ ap (λ ms. (base + a, w) ∷ ms) (shift-at base (a + 1) ws)

shift-down : (base a : ℕ) (ws : List ℕ) → length ws ≤ a + 1 → down_addresses (base + a) ws ≡ shift base (down_addresses a ws)
shift-down base a [] few = refl
shift-down base a (w ∷ []) few = refl
shift-down base a (w ∷ v ∷ ws) few =
    ap (λ k. (base + a, w) ∷ down_addresses k (v ∷ ws)) (let e : base + a - 1 ≡ base + (a - 1) = omega arith in e)
    ∙ ap (λ ms. (base + a, w) ∷ ms) (shift-down base (a - 1) (v ∷ ws) (omega arith))

-- the moves over an area of a window
pub shift-addressed : (o : TransferOrder) (base first last : ℕ) (ws : List ℕ) → length ws ≤ last + 1
    → addressed o (base + first) (base + last) ws ≡ shift base (addressed o first last ws)
shift-addressed o base first last ws few =
    ⊎_elim
    (λ (is : is_backward o ≡ true).
    ap (λ b. cond b (down_addresses (base + last) ws) (at_addresses (base + first) ws)) is ∙ shift-down base last ws few
    ∙ sym (ap (λ b. shift base (cond b (down_addresses last ws) (at_addresses first ws))) is))
    (λ (not : is_backward o ≡ false).
    ap (λ b. cond b (down_addresses (base + last) ws) (at_addresses (base + first) ws)) not ∙ shift-at base first ws
    ∙ sym (ap (λ b. shift base (cond b (down_addresses last ws) (at_addresses first ws))) not))
    (cases_Bool (is_backward o))

pub shift-drop : (base n : ℕ) (ms : List (ℕ × ℕ)) → drop n (shift base ms) ≡ shift base (drop n ms)
shift-drop base zero ms = refl
shift-drop base (suc n) [] = refl
shift-drop base (suc n) (m ∷ ms) = shift-drop base n ms

pub shift-take : (base n : ℕ) (ms : List (ℕ × ℕ)) → take n (shift base ms) ≡ shift base (take n ms)
shift-take base zero ms = refl
shift-take base (suc n) [] = refl
shift-take base (suc n) (m ∷ ms) = ap (λ xs. (base + m.0, m.1) ∷ xs) (shift-take base n ms)

-- a lease keeps its groups where a word is written into it
pub has-with : (l : Lent) (place w g : ℕ) → has_group (Some (with_lent_word l place w)) g ≡ has_group (Some l) g
has-with l place w g = ap (λ k. leb l.first g && ltb g (l.first + k)) (length-set l.groups (place / 32 - l.first) _)

pub full-with : (l : Lent) (place w : ℕ) → AreFull l → AreFull (with_lent_word l place w)
full-with l place w full i lt =
    let inside : i < length l.groups = omega
    (arith, length-set l.groups (place / 32 - l.first) (set (get_or l.groups (place / 32 - l.first) []) (place % 32) w)) in
    ⊎_elim
    (λ (same : i ≡ place / 32 - l.first).
    let there : place / 32 - l.first < length l.groups = omega arith in
    ap (λ j. length (get_or (with_lent_word l place w).groups j [])) same
    ∙ ap length (get_or-set_same l.groups (place / 32 - l.first) _ [] there)
    ∙ length-set (get_or l.groups (place / 32 - l.first) []) (place % 32) w
    ∙ full (place / 32 - l.first) there)
    (λ (ne : i ≢ place / 32 - l.first). ap length (get_or-set_other l.groups (place / 32 - l.first) i _ [] ne) ∙ full i inside)
    (cases_eq i (place / 32 - l.first))

lease-same : (d : ℕ) (l : Option Lent) (leases : ℕ → Option Lent) → leases d ≡ l → with_lease d l leases ≡ leases
lease-same d l leases is =
    fun_ext
    (λ e. ⊎_elim
    (λ (same : e ≡ d). with_lease_is e d l leases same ∙ sym (ap leases same ∙ is))
    (λ (ne : e ≢ d). with_lease_other e d l leases ne)
    (cases_eq e d))

lease-twice : (d : ℕ) (k l : Option Lent) (leases : ℕ → Option Lent) → with_lease d k (with_lease d l leases) ≡ with_lease d k leases
lease-twice d k l leases =
    fun_ext
    (λ e. ⊎_elim
    (λ (same : e ≡ d). with_lease_is e d k (with_lease d l leases) same ∙ sym (with_lease_is e d k leases same))
    (λ (ne : e ≢ d). with_lease_other e d k (with_lease d l leases) ne ∙ with_lease_other e d l leases ne ∙ sym (with_lease_other e d k leases ne))
    (cases_eq e d))

-- what is known of a lease and the groups of others
pub record IsLentAlone (store : Cells) (d : ℕ) (leases : ℕ → Option Lent) (l : Lent) : Type 0 where
  pub lent : leases d ≡ Some l
  pub full : AreFull l
  pub out : (g : ℕ) → has_group (Some l) g ≡ true → group_at store g ≡ None
  pub alone : (e g : ℕ) → e ≢ d → has_group (Some l) g ≡ true → has_group (leases e) g ≡ false

-- the groups between two places are in the lease
abbrev pub HasAll : Lent → ℕ → ℕ → Type 0
HasAll l first last = (place : ℕ) → first ≤ place → place ≤ last → has_group (Some l) (place / 32) ≡ true

alone-with : (store : Cells) (d : ℕ) (leases : ℕ → Option Lent) (l : Lent) (place w : ℕ) → IsLentAlone store d leases l
    → IsLentAlone store d (with_lease d (Some (with_lent_word l place w)) leases) (with_lent_word l place w)
alone-with store d leases l place w h =
    record {
      lent = with_lease_is d d (Some (with_lent_word l place w)) leases refl;
      full = full-with l place w h.full;
      out = λ g has. h.out g (sym (has-with l place w g) ∙ has);
      alone = λ e g ne has. ap (λ x. has_group x g) (with_lease_other e d (Some (with_lent_word l place w)) leases ne)
          ∙ h.alone e g ne (sym (has-with l place w g) ∙ has);
    }

-- one word
one_word : (store : Cells) (d : ℕ) (leases : ℕ → Option Lent) (l : Lent) (place w : ℕ) → d < device_count → IsLentAlone store d leases l
    → has_group (Some l) (place / 32) ≡ true → (x : ℕ) → physical.word_at_place store (with_lease d (Some (with_lent_word l place w)) leases) x
    ≡ cond (eqb x place) w (physical.word_at_place store leases x)
one_word store d leases l place w small h has x =
    let low = leb-true l.first (place / 32) (and_parts _ _ has).0 in
    let high = ltb-true (place / 32) (l.first + length l.groups) (and_parts _ _ has).1 in
    let index : place / 32 - l.first < length l.groups = omega arith in
    let within : place % 32 < length (get_or l.groups (place / 32 - l.first) []) = (let e = h.full (place / 32 - l.first) index in omega arith) in
    word_of-with_lent_word store leases d l place w small h.lent has (h.out (place / 32) has) (λ e ne. h.alone e (place / 32) ne has) within x

-- the words of the program whose transfer it is
pub puts_own : (store : Cells) (d base size first last : ℕ) (ms : List (ℕ × ℕ)) (l : Lent) (leases : ℕ → Option Lent) → d < device_count
    → IsLentAlone store d leases l → HasAll l (base + first) (base + last) → AreWithin first last ms
    → own_words base size store (with_lease d (Some (put_words (shift base ms) l)) leases) ≡ written ms (own_words base size store leases)
puts_own store d base size first last [] l leases small h all within = ap (own_words base size store) (lease-same d (Some l) leases h.lent)
puts_own store d base size first last (m ∷ ms) l leases small h all within =
    let low = within.0 in
    let high = within.1 in
    let l' = with_lent_word l (base + m.0) m.1 in
    let leases' = with_lease d (Some l') leases in
    let has = all (base + m.0) (omega arith) (omega arith) in
    ap (own_words base size store) (sym (lease-twice d (Some (put_words (shift base ms) l')) (Some l') leases))
    ∙ puts_own store d base size first last ms l' leases' small (alone-with store d leases l (base + m.0) m.1 h)
    (λ place a b. has-with l (base + m.0) m.1 (place / 32) ∙ all place a b) within.2
    ∙ ap (written ms) (own_words_changed base size m.0 m.1 store store leases leases' (one_word store d leases l (base + m.0) m.1 small h has))

-- the words of another program
pub puts_other : (store : Cells) (d base first last base' size' : ℕ) (ms : List (ℕ × ℕ)) (l : Lent) (leases : ℕ → Option Lent) → d < device_count
    → IsLentAlone store d leases l → HasAll l (base + first) (base + last) → AreWithin first last ms → (base + last < base') ⊎ (base' + size' ≤ base + first)
    → own_words base' size' store (with_lease d (Some (put_words (shift base ms) l)) leases) ≡ own_words base' size' store leases
puts_other store d base first last base' size' [] l leases small h all within apart = ap (own_words base' size' store) (lease-same d (Some l) leases h.lent)
puts_other store d base first last base' size' (m ∷ ms) l leases small h all within apart =
    let low = within.0 in
    let high = within.1 in
    let l' = with_lent_word l (base + m.0) m.1 in
    let leases' = with_lease d (Some l') leases in
    let has = all (base + m.0) (omega arith) (omega arith) in
    let outside : (base + m.0 < base') ⊎ (base' + size' ≤ base + m.0) = ⊎_elim (λ (a : base + last < base'). inl (omega arith))
    (λ (b : base' + size' ≤ base + first). inr (omega arith)) apart in
    ap (own_words base' size' store) (sym (lease-twice d (Some (put_words (shift base ms) l')) (Some l') leases))
    ∙ puts_other store d base first last base' size' ms l' leases' small (alone-with store d leases l (base + m.0) m.1 h)
    (λ place a b. has-with l (base + m.0) m.1 (place / 32) ∙ all place a b) within.2 apart
    ∙ own_words_other base' size' (base + m.0) m.1 store store leases leases' outside (one_word store d leases l (base + m.0) m.1 small h has)
