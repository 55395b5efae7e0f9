-- Words here and out.
use Rattle.std.proofs.Common.{◌≡◌, ◌≢◌, ℕ, zero, suc, ◌+◌, ◌-◌, ◌/◌, ◌%◌, ◌<◌, ◌≤◌, ◌⊎◌, inl, inr, true, false, ◌&&◌, eqb, ltb, leb, List, [], ◌++◌, length}
use Rattle.std.proofs.Common.{get_or, set, take, drop, map, replicate, Option, Some, None, cond, refl, sym, ap, ap₂, ◌∙◌, subst, ⊎_elim, arith, is_none}
use Rattle.std.proofs.Math.Path.{fun_ext}
use Rattle.std.specs.List.{range_with_len}
use Rattle.std.proofs.lemmas.Bool.{and_parts, and_from, cases_Bool, cases_eq, cases_lt, eq-eqb, ne_eqb, le-leb, lt-ltb, leb-true, ltb-true, false_from_ne_true}
use Rattle.std.proofs.lemmas.List.{get_or-set_same, get_or-set_other, length-set, ext_get_or, get_or_append_left, get_or-append_right, length-take-le}
use Rattle.std.proofs.lemmas.List.{length-take, length-drop, length-map, length-replicate, get_or-take, get_or-drop, get_or-replicate, get_or-map}
use Rattle.std.proofs.lemmas.List.FromFn.{length-map-range_with_len, get_or-map-range_with_len}
use Rattle.kdf_lockout.specs.Groups.{Lent, group_at, words_in, with_lent_word, Cells, is_out, word_here}
use Rattle.kdf_transfer.specs.InFlight.{lent_at}
use Rattle.kdf_places.specs.Words.{has_group, word_out, word_where, word_at_place, own_words, with_lease}
use Rattle.kdf_transfer.specs.ByNumber.{device_count}
use Rattle.std.specs.Prelude.{unwrap_or, []}
use Rattle.kdf_places.specs.Words as physical

-- the store after a word is written to a group with these words
abbrev pub put_word : List (Option (List ℕ)) → List ℕ → ℕ → ℕ → List (Option (List ℕ))
put_word store words place w = set store (place / 32) (Some (set words (place % 32) w))

-- the store without n groups, the lease of them, and the store with the groups of a lease again
abbrev pub without : List (Option (List ℕ)) → ℕ → ℕ → List (Option (List ℕ))
without store from n = take from store ++ (replicate n None ++ drop (from + n) store)

abbrev pub taken : List (Option (List ℕ)) → ℕ → ℕ → Lent
taken store from n = record { first = from; groups = map words_in (take n (drop from store)) }

abbrev pub brought : List (Option (List ℕ)) → Lent → List (Option (List ℕ))
brought store l = take l.first store ++ (map Some l.groups ++ drop (l.first + length l.groups) store)

-- a word that is written where its group is
pub word_of-put_word : (store : List (Option (List ℕ))) (leases : ℕ → Option Lent) (words : List ℕ) (place w x : ℕ) → group_at store (place / 32) ≡ Some words
    → place / 32 < length store → place % 32 < length words → word_at_place (put_word store words place w) leases x ≡ cond (eqb x place) w
    (word_at_place store leases x)
word_of-put_word store leases words place w x here inside within =
    ⊎_elim
    (λ (same : x / 32 ≡ place / 32).
    let there : group_at (put_word store words place w) (x / 32) ≡ Some (set words (place % 32) w) =
    ap (group_at (put_word store words place w)) same ∙ get_or-set_same store (place / 32) _ None inside in
    ap (word_where leases x) there
    ∙ ⊎_elim
    (λ (is : x ≡ place).
    ap (λ y. get_or (set words (place % 32) w) (y % 32) 0) is
    ∙ get_or-set_same words (place % 32) w 0 within
    ∙ sym (ap (λ b. cond b w (word_at_place store leases x)) (eq-eqb x place is)))
    (λ (not : x ≢ place).
    let ne : x % 32 ≢ place % 32 = λ e. not (omega arith) in
    get_or-set_other words (place % 32) (x % 32) w 0 ne
    ∙ sym (ap (word_where leases x) (ap (group_at store) same ∙ here))
    ∙ sym (ap (λ b. cond b w (word_at_place store leases x)) (ne_eqb x place not)))
    (cases_eq x place))
    (λ (other : x / 32 ≢ place / 32).
    let not : x ≢ place = λ e. other (ap (λ y. y / 32) e) in
    ap (word_where leases x) (get_or-set_other store (place / 32) (x / 32) _ None other)
    ∙ sym (ap (λ b. cond b w (word_at_place store leases x)) (ne_eqb x place not)))
    (cases_eq (x / 32) (place / 32))

-- a change at one place changes one of a program's words, or none
pub own_words_changed : (base size a w : ℕ) (store store' : List (Option (List ℕ))) (leases leases' : ℕ → Option Lent)
    → ((x : ℕ) → word_at_place store' leases' x ≡ cond (eqb x (base + a)) w (word_at_place store leases x))
    → own_words base size store' leases' ≡ set (own_words base size store leases) a w
own_words_changed base size a w store store' leases leases' change =
    ext_get_or 0 _ _ (length-map-range_with_len f' 0 size ∙ sym (length-set (own_words base size store leases) a w ∙ length-map-range_with_len f 0 size))
    (λ i lt.
    let within : i < size = omega (arith, length-map-range_with_len f' 0 size) in
    get_or-map-range_with_len f' 0 size i i 0 within (omega arith)
    ∙ change (base + i)
    ∙ ⊎_elim
    (λ (same : i ≡ a).
    let inside : a < length (own_words base size store leases) = omega (arith, length-map-range_with_len f 0 size) in
    let e : base + i ≡ base + a = omega arith in
    ap (λ b. cond b w (f i)) (eq-eqb (base + i) (base + a) e)
    ∙ sym (ap (λ j. get_or (set (own_words base size store leases) a w) j 0) same ∙ get_or-set_same (own_words base size store leases) a w 0 inside))
    (λ (ne : i ≢ a).
    let differ : base + i ≢ base + a = omega arith in
    ap (λ b. cond b w (f i)) (ne_eqb (base + i) (base + a) differ)
    ∙ sym (get_or-set_other (own_words base size store leases) a i w 0 ne ∙ get_or-map-range_with_len f 0 size i i 0 within (omega arith)))
    (cases_eq i a))
  where
    f : ℕ → ℕ
    f i = word_at_place store leases (base + i)

    f' : ℕ → ℕ
    f' i = word_at_place store' leases' (base + i)

-- what a lease does to a word that is out
abbrev look : Option Lent → ℕ → ℕ → ℕ
look l x rest = cond (has_group l (x / 32)) (lent_at l x) rest

look_apart : (l : Option Lent) (x rest : ℕ) → has_group l (x / 32) ≡ false → look l x rest ≡ rest
look_apart l x rest not = ap (λ b. cond b (lent_at l x) rest) not

look_in : (l : Option Lent) (x rest : ℕ) → has_group l (x / 32) ≡ true → look l x rest ≡ lent_at l x
look_in l x rest is = ap (λ b. cond b (lent_at l x) rest) is

pub with_lease_is : (n d : ℕ) (l : Option Lent) (leases : ℕ → Option Lent) → n ≡ d → with_lease d l leases n ≡ l
with_lease_is n d l leases same = ap (λ b. cond b l (leases n)) (eq-eqb n d same)

pub with_lease_other : (n d : ℕ) (l : Option Lent) (leases : ℕ → Option Lent) → n ≢ d → with_lease d l leases n ≡ leases n
with_lease_other n d l leases ne = ap (λ b. cond b l (leases n)) (ne_eqb n d ne)

-- the word of a group that one device alone has
pub word_out_one : (n d : ℕ) (leases : ℕ → Option Lent) (x : ℕ) → d < n → has_group (leases d) (x / 32) ≡ true
    → ((e : ℕ) → e ≢ d → has_group (leases e) (x / 32) ≡ false) → word_out n leases x ≡ lent_at (leases d) x
word_out_one zero d leases x lt is others = absurd (omega arith)
word_out_one (suc n) d leases x lt is others =
    ⊎_elim
    (λ (same : n ≡ d). ap (λ y. look (leases y) x (word_out n leases x)) same ∙ look_in (leases d) x _ is)
    (λ (ne : n ≢ d). look_apart (leases n) x _ (others n ne) ∙ word_out_one n d leases x (omega arith) is others)
    (cases_eq n d)

-- a lease that neither has the group now nor had it
word_out_kept : (n d : ℕ) (l : Option Lent) (leases : ℕ → Option Lent) (x : ℕ) → has_group l (x / 32) ≡ false → has_group (leases d) (x / 32) ≡ false
    → word_out n (with_lease d l leases) x ≡ word_out n leases x
word_out_kept zero d l leases x new old = refl
word_out_kept (suc n) d l leases x new old =
    ⊎_elim
    (λ (same : n ≡ d).
    ap (λ y. look y x (word_out n (with_lease d l leases) x)) (with_lease_is n d l leases same)
    ∙ look_apart l x _ new
    ∙ word_out_kept n d l leases x new old
    ∙ sym (look_apart (leases n) x _ (subst (λ y. has_group (leases y) (x / 32) ≡ false) (sym same) old)))
    (λ (ne : n ≢ d). ap₂ (λ y r. look y x r) (with_lease_other n d l leases ne) (word_out_kept n d l leases x new old))
    (cases_eq n d)

word_out_alike : (n : ℕ) (ls ms : ℕ → Option Lent) (x : ℕ) → ((d r : ℕ) → look (ls d) x r ≡ look (ms d) x r) → word_out n ls x ≡ word_out n ms x
word_out_alike zero ls ms x same = refl
word_out_alike (suc n) ls ms x same = same n (word_out n ls x) ∙ ap (look (ms n) x) (word_out_alike n ls ms x same)

-- a list with a part put in
pub splice_in : {X : Type 0} (xs ys : List X) (from g : ℕ) (d : X) → from + length ys ≤ length xs → from ≤ g → g < from + length ys
    → get_or (take from xs ++ (ys ++ drop (from + length ys) xs)) g d ≡ get_or ys (g - from) d
splice_in xs ys from g d fits low high =
    let front : length (take from xs) ≡ from = length-take-le from xs (omega arith) in
    let within : g - from < length ys = omega arith in
    get_or-append_right (take from xs) (ys ++ drop (from + length ys) xs) from g d front low
    ∙ get_or_append_left ys (drop (from + length ys) xs) d (g - from) within

pub splice_out : {X : Type 0} (xs ys : List X) (from g : ℕ) (d : X) → from + length ys ≤ length xs → (g < from) ⊎ (from + length ys ≤ g)
    → get_or (take from xs ++ (ys ++ drop (from + length ys) xs)) g d ≡ get_or xs g d
splice_out xs ys from g d fits out =
    let front : length (take from xs) ≡ from = length-take-le from xs (omega arith) in
    ⊎_elim
    (λ (low : g < from).
    let inside : g < length (take from xs) = omega arith in
    get_or_append_left (take from xs) (ys ++ drop (from + length ys) xs) d g inside ∙ get_or-take from xs g d low)
    (λ (high : from + length ys ≤ g).
    let past : length ys ≤ g - from = omega arith in
    let e : from + length ys + (g - from - length ys) ≡ g = omega arith in
    get_or-append_right (take from xs) (ys ++ drop (from + length ys) xs) from g d front (omega arith)
    ∙ get_or-append_right ys (drop (from + length ys) xs) (length ys) (g - from) d refl past
    ∙ get_or-drop (from + length ys) xs (g - from - length ys) d
    ∙ ap (λ i. get_or xs i d) e)
    out

-- a group is in a range, or not
pub in_range : (from n g : ℕ) → ((from ≤ g) × (g < from + n)) ⊎ ((g < from) ⊎ (from + n ≤ g))
in_range from n g =
    ⊎_elim
    (λ (low : g < from). inr (inl low))
    (λ (le : from ≤ g). ⊎_elim (λ (lt : g < from + n). inl (le, lt)) (λ (high : from + n ≤ g). inr (inr high)) (cases_lt g (from + n)))
    (cases_lt g from)

pub has_out : (l : Lent) (g : ℕ) → (g < l.first) ⊎ (l.first + length l.groups ≤ g) → has_group (Some l) g ≡ false
has_out l g out =
    false_from_ne_true _ (λ is.
    let parts = and_parts _ _ is in
    let low = leb-true l.first g parts.0 in
    let high = ltb-true g (l.first + length l.groups) parts.1 in
    ⊎_elim (λ (a : g < l.first). absurd (omega arith)) (λ (b : l.first + length l.groups ≤ g). absurd (omega arith)) out)

here_kept : (leases leases' : ℕ → Option Lent) (x : ℕ) (o : Option (List ℕ)) → word_out device_count leases x ≡ word_out device_count leases' x
    → word_where leases x o ≡ word_where leases' x o
here_kept leases leases' x None same = same
here_kept leases leases' x (Some ws) same = refl

-- groups that are lent keep their words
module _ (store : List (Option (List ℕ))) (leases : ℕ → Option Lent) (d from n : ℕ) (small : d < device_count) (fits : from + n ≤ length store)
    (idle : leases d ≡ None) (here : (g : ℕ) → from ≤ g → g < from + n → (ws : List ℕ) × (group_at store g ≡ Some ws)) (free : (e g : ℕ) → from ≤ g
    → g < from + n → has_group (leases e) g ≡ false) where
  counted : length (replicate n (let o : Option (List ℕ) = None in o)) ≡ n
  counted = length-replicate n None

  groups_counted : length (taken store from n).groups ≡ n
  groups_counted = omega (arith, length-map (take n (drop from store)) words_in, length-take n (drop from store), length-drop from store)

  store_is : without store from n ≡ take from store ++ (replicate n None ++ drop (from + length (replicate n (let o : Option (List ℕ) = None in o))) store)
  store_is = ap (λ k. take from store ++ (replicate n None ++ drop (from + k) store)) (sym counted)

  pub word_of-lent : (x : ℕ) → word_at_place (without store from n) (with_lease d (Some (taken store from n)) leases) x ≡ word_at_place store leases x
  word_of-lent x = ⊎_elim lent_case kept_case (in_range from n (x / 32))
    where
      lent_case : (from ≤ x / 32) × (x / 32 < from + n) → word_at_place (without store from n) (with_lease d (Some (taken store from n)) leases) x
          ≡ word_at_place store leases x
      lent_case range =
          let low = range.0 in
          let high = range.1 in
          let within : x / 32 - from < n = omega arith in
          let front : x / 32 < from + length (replicate n (let o : Option (List ℕ) = None in o)) = omega (arith, counted) in
          let full : from + length (replicate n (let o : Option (List ℕ) = None in o)) ≤ length store = omega (arith, counted) in
          let gone : group_at (without store from n) (x / 32) ≡ None =
          ap (λ s. group_at s (x / 32)) store_is ∙ splice_in store (replicate n None) from (x / 32) None full low front
          ∙ get_or-replicate n (x / 32 - from) None None within in
          let ws = here (x / 32) low high in
          let inside : x / 32 - from < length (take n (drop from store)) = omega (arith, length-take n (drop from store), length-drop from store) in
          let e : from + (x / 32 - from) ≡ x / 32 = omega arith in
          let group : get_or (taken store from n).groups (x / 32 - from) [] ≡ ws.0 =
          get_or-map words_in (take n (drop from store)) (x / 32 - from) None [] inside
          ∙ ap words_in (get_or-take n (drop from store) (x / 32 - from) None within ∙ get_or-drop from store (x / 32 - from) None ∙ ap (group_at store) e
          ∙ ws.1) in
          let has : has_group (Some (taken store from n)) (x / 32) ≡ true =
          and_from _ _ (le-leb from (x / 32) low) (lt-ltb (x / 32) (from + length (taken store from n).groups) (omega (arith, groups_counted))) in
          ap (word_where (with_lease d (Some (taken store from n)) leases) x) gone
          ∙ word_out_one device_count d (with_lease d (Some (taken store from n)) leases) x small
          (ap (λ l. has_group l (x / 32)) (with_lease_is d d (Some (taken store from n)) leases refl) ∙ has)
          (λ e ne. ap (λ l. has_group l (x / 32)) (with_lease_other e d (Some (taken store from n)) leases ne) ∙ free e (x / 32) low high)
          ∙ ap (λ l. lent_at l x) (with_lease_is d d (Some (taken store from n)) leases refl)
          ∙ ap (λ g. get_or g (x % 32) 0) group
          ∙ sym (ap (word_where leases x) ws.1)

      kept_case : (x / 32 < from) ⊎ (from + n ≤ x / 32) → word_at_place (without store from n) (with_lease d (Some (taken store from n)) leases) x
          ≡ word_at_place store leases x
      kept_case out =
          let full : from + length (replicate n (let o : Option (List ℕ) = None in o)) ≤ length store = omega (arith, counted) in
          let out' : (x / 32 < from) ⊎ (from + length (replicate n (let o : Option (List ℕ) = None in o)) ≤ x / 32) =
          ⊎_elim inl (λ (h : from + n ≤ x / 32). inr (omega (arith, counted))) out in
          let out'' : (x / 32 < from) ⊎ (from + length (taken store from n).groups ≤ x / 32) =
          ⊎_elim inl (λ (h : from + n ≤ x / 32). inr (omega (arith, groups_counted))) out in
          let same : group_at (without store from n) (x / 32) ≡ group_at store (x / 32) =
          ap (λ s. group_at s (x / 32)) store_is ∙ splice_out store (replicate n None) from (x / 32) None full out' in
          ap (word_where (with_lease d (Some (taken store from n)) leases) x) same
          ∙ here_kept (with_lease d (Some (taken store from n)) leases) leases x (group_at store (x / 32))
          (word_out_kept device_count d (Some (taken store from n)) leases x (has_out (taken store from n) (x / 32) out'')
          (ap (λ l. has_group l (x / 32)) idle))

-- groups that come back keep their words
module _ (store : List (Option (List ℕ))) (leases : ℕ → Option Lent) (d : ℕ) (l : Lent) (small : d < device_count)
    (fits : l.first + length l.groups ≤ length store) (lent : leases d ≡ Some l) (out : (g : ℕ) → l.first ≤ g → g < l.first + length l.groups
    → group_at store g ≡ None) (alone : (e g : ℕ) → e ≢ d → l.first ≤ g → g < l.first + length l.groups → has_group (leases e) g ≡ false) where
  somes : length (map Some l.groups) ≡ length l.groups
  somes = length-map l.groups Some

  back_is : brought store l ≡ take l.first store ++ (map Some l.groups ++ drop (l.first + length (map Some l.groups)) store)
  back_is = ap (λ k. take l.first store ++ (map Some l.groups ++ drop (l.first + k) store)) (sym somes)

  pub word_of-back : (x : ℕ) → word_at_place (brought store l) (with_lease d None leases) x ≡ word_at_place store leases x
  word_of-back x = ⊎_elim back_case kept_case (in_range l.first (length l.groups) (x / 32))
    where
      back_case : (l.first ≤ x / 32) × (x / 32 < l.first + length l.groups) → word_at_place (brought store l) (with_lease d None leases) x
          ≡ word_at_place store leases x
      back_case range =
          let low = range.0 in
          let high = range.1 in
          let within : x / 32 - l.first < length l.groups = omega arith in
          let full : l.first + length (map Some l.groups) ≤ length store = omega (arith, somes) in
          let front : x / 32 < l.first + length (map Some l.groups) = omega (arith, somes) in
          let has : has_group (Some l) (x / 32) ≡ true = and_from _ _ (le-leb l.first (x / 32) low) (lt-ltb (x / 32) (l.first + length l.groups) high) in
          ap (word_where (with_lease d None leases) x)
          (ap (λ s. group_at s (x / 32)) back_is ∙ splice_in store (map Some l.groups) l.first (x / 32) None full low front
          ∙ get_or-map Some l.groups (x / 32 - l.first) [] None within)
          ∙ sym (ap (word_where leases x) (out (x / 32) low high)
          ∙ word_out_one device_count d leases x small (ap (λ y. has_group y (x / 32)) lent ∙ has) (λ e ne. alone e (x / 32) ne low high)
          ∙ ap (λ y. lent_at y x) lent)

      kept_case : (x / 32 < l.first) ⊎ (l.first + length l.groups ≤ x / 32) → word_at_place (brought store l) (with_lease d None leases) x
          ≡ word_at_place store leases x
      kept_case range =
          let full : l.first + length (map Some l.groups) ≤ length store = omega (arith, somes) in
          let range' : (x / 32 < l.first) ⊎ (l.first + length (map Some l.groups) ≤ x / 32) =
          ⊎_elim inl (λ (h : l.first + length l.groups ≤ x / 32). inr (omega (arith, somes))) range in
          ap (word_where (with_lease d None leases) x) (ap (λ s. group_at s (x / 32)) back_is
          ∙ splice_out store (map Some l.groups) l.first (x / 32) None full range')
          ∙ here_kept (with_lease d None leases) leases x (group_at store (x / 32))
          (word_out_kept device_count d None leases x refl (ap (λ y. has_group y (x / 32)) lent ∙ has_out l (x / 32) range))

-- a word that is written to a lease
module _ (store : List (Option (List ℕ))) (leases : ℕ → Option Lent) (d : ℕ) (l : Lent) (place w : ℕ) (small : d < device_count) (lent : leases d ≡ Some l)
    (has : has_group (Some l) (place / 32) ≡ true) (out : group_at store (place / 32) ≡ None) (alone : (e : ℕ) → e ≢ d
    → has_group (leases e) (place / 32) ≡ false) (within : place % 32 < length (get_or l.groups (place / 32 - l.first) [])) where
  same_groups : length (with_lent_word l place w).groups ≡ length l.groups
  same_groups = length-set l.groups (place / 32 - l.first) _

  has_same : (g : ℕ) → has_group (Some (with_lent_word l place w)) g ≡ has_group (Some l) g
  has_same g = ap (λ k. leb l.first g && ltb g (l.first + k)) same_groups

  bounds : (l.first ≤ place / 32) × (place / 32 < l.first + length l.groups)
  bounds = (leb-true l.first (place / 32) (and_parts _ _ has).0, ltb-true (place / 32) (l.first + length l.groups) (and_parts _ _ has).1)

  lent_now : (x : ℕ) → x / 32 ≡ place / 32 → word_at_place store (with_lease d (Some (with_lent_word l place w)) leases) x
      ≡ lent_at (Some (with_lent_word l place w)) x
  lent_now x same =
      ap (word_where (with_lease d (Some (with_lent_word l place w)) leases) x) (ap (group_at store) same ∙ out)
      ∙ word_out_one device_count d (with_lease d (Some (with_lent_word l place w)) leases) x small
      (ap (λ y. has_group y (x / 32)) (with_lease_is d d (Some (with_lent_word l place w)) leases refl)
      ∙ (has_same (x / 32) ∙ (ap (has_group (Some l)) same ∙ has)))
      (λ e ne. ap (λ y. has_group y (x / 32)) (with_lease_other e d (Some (with_lent_word l place w)) leases ne)
      ∙ (ap (has_group (leases e)) same ∙ alone e ne))
      ∙ ap (λ y. lent_at y x) (with_lease_is d d (Some (with_lent_word l place w)) leases refl)

  lent_before : (x : ℕ) → x / 32 ≡ place / 32 → word_at_place store leases x ≡ lent_at (Some l) x
  lent_before x same =
      ap (word_where leases x) (ap (group_at store) same ∙ out)
      ∙ word_out_one device_count d leases x small (ap (λ y. has_group y (x / 32)) lent ∙ (ap (has_group (Some l)) same ∙ has))
      (λ e ne. ap (has_group (leases e)) same ∙ alone e ne)
      ∙ ap (λ y. lent_at y x) lent

  pub word_of-with_lent_word : (x : ℕ) → word_at_place store (with_lease d (Some (with_lent_word l place w)) leases) x ≡ cond (eqb x place) w
      (word_at_place store leases x)
  word_of-with_lent_word x = ⊎_elim same_group other_group (cases_eq (x / 32) (place / 32))
    where
      same_group : x / 32 ≡ place / 32 → word_at_place store (with_lease d (Some (with_lent_word l place w)) leases) x ≡ cond (eqb x place) w
          (word_at_place store leases x)
      same_group same =
          let inside : place / 32 - l.first < length l.groups = (let low = bounds.0 in let high = bounds.1 in omega arith) in
          lent_now x same
          ∙ ap (λ g. get_or (get_or (with_lent_word l place w).groups (g - l.first) []) (x % 32) 0) same
          ∙ ap (λ ws. get_or ws (x % 32) 0) (get_or-set_same l.groups (place / 32 - l.first) _ [] inside)
          ∙ ⊎_elim
          (λ (is : x ≡ place).
          ap (λ y. get_or (set (get_or l.groups (place / 32 - l.first) []) (place % 32) w) (y % 32) 0) is
          ∙ get_or-set_same (get_or l.groups (place / 32 - l.first) []) (place % 32) w 0 within
          ∙ sym (ap (λ b. cond b w (word_at_place store leases x)) (eq-eqb x place is)))
          (λ (not : x ≢ place).
          let ne : x % 32 ≢ place % 32 = λ e. not (omega arith) in
          get_or-set_other (get_or l.groups (place / 32 - l.first) []) (place % 32) (x % 32) w 0 ne
          ∙ sym (ap (λ g. get_or (get_or l.groups (g - l.first) []) (x % 32) 0) same)
          ∙ sym (lent_before x same)
          ∙ sym (ap (λ b. cond b w (word_at_place store leases x)) (ne_eqb x place not)))
          (cases_eq x place)

      other_group : x / 32 ≢ place / 32 → word_at_place store (with_lease d (Some (with_lent_word l place w)) leases) x ≡ cond (eqb x place) w
          (word_at_place store leases x)
      other_group other =
          let not : x ≢ place = λ e. other (ap (λ y. y / 32) e) in
          here_kept (with_lease d (Some (with_lent_word l place w)) leases) leases x (group_at store (x / 32))
          (word_out_alike device_count _ _ x (λ e r. alike e r other))
          ∙ sym (ap (λ b. cond b w (word_at_place store leases x)) (ne_eqb x place not))
        where
          new_old : (r : ℕ) → x / 32 ≢ place / 32 → look (Some (with_lent_word l place w)) x r ≡ look (Some l) x r
          new_old r ne =
              ⊎_elim
              (λ (in' : has_group (Some l) (x / 32) ≡ true).
              let low = leb-true l.first (x / 32) (and_parts _ _ in').0 in
              let low' = bounds.0 in
              let differ : x / 32 - l.first ≢ place / 32 - l.first = λ e. ne (omega arith) in
              look_in (Some (with_lent_word l place w)) x r (has_same (x / 32) ∙ in')
              ∙ ap (λ ws. get_or ws (x % 32) 0) (get_or-set_other l.groups (place / 32 - l.first) (x / 32 - l.first) _ [] differ)
              ∙ sym (look_in (Some l) x r in'))
              (λ (out' : has_group (Some l) (x / 32) ≡ false).
              look_apart (Some (with_lent_word l place w)) x r (has_same (x / 32) ∙ out') ∙ sym (look_apart (Some l) x r out'))
              (cases_Bool (has_group (Some l) (x / 32)))

          alike : (e r : ℕ) → x / 32 ≢ place / 32 → look (with_lease d (Some (with_lent_word l place w)) leases e) x r ≡ look (leases e) x r
          alike e r ne =
              ⊎_elim
              (λ (same : e ≡ d).
              ap (λ y. look y x r) (with_lease_is e d (Some (with_lent_word l place w)) leases same)
              ∙ new_old r ne
              ∙ sym (ap (λ y. look y x r) (ap leases same ∙ lent)))
              (λ (off : e ≢ d). ap (λ y. look y x r) (with_lease_other e d (Some (with_lent_word l place w)) leases off))
              (cases_eq e d)

-- where no word changes, no program's words do
pub own_words_same : (base size : ℕ) (store store' : List (Option (List ℕ))) (leases leases' : ℕ → Option Lent)
    → ((x : ℕ) → word_at_place store' leases' x ≡ word_at_place store leases x) → own_words base size store' leases' ≡ own_words base size store leases
own_words_same base size store store' leases leases' same = ap (λ f. map f (range_with_len 0 size)) (fun_ext (λ a. same (base + a)))

-- and a change outside a window changes none of its words
pub own_words_other : (base size place w : ℕ) (store store' : List (Option (List ℕ))) (leases leases' : ℕ → Option Lent)
    → (place < base) ⊎ (base + size ≤ place) → ((x : ℕ) → word_at_place store' leases' x ≡ cond (eqb x place) w (word_at_place store leases x))
    → own_words base size store' leases' ≡ own_words base size store leases
own_words_other base size place w store store' leases leases' outside change =
    ext_get_or 0 _ _ (length-map-range_with_len f' 0 size ∙ sym (length-map-range_with_len f 0 size))
    (λ i lt.
    let within : i < size = omega (arith, length-map-range_with_len f' 0 size) in
    let differ : base + i ≢ place = λ e. ⊎_elim (λ (low : place < base). omega arith) (λ (high : base + size ≤ place). omega arith) outside in
    get_or-map-range_with_len f' 0 size i i 0 within (omega arith)
    ∙ change (base + i)
    ∙ ap (λ b. cond b w (f i)) (ne_eqb (base + i) place differ)
    ∙ sym (get_or-map-range_with_len f 0 size i i 0 within (omega arith)))
  where
    f : ℕ → ℕ
    f i = word_at_place store leases (base + i)

    f' : ℕ → ℕ
    f' i = word_at_place store' leases' (base + i)

-- one whose group is here
pub here_word : (cells : Cells) (leases : ℕ → Option Lent) (place : ℕ) → is_out cells (place / 32) ≡ false
    → physical.word_at_place cells leases place ≡ word_here cells place
here_word cells leases place here = at_group (group_at cells (place / 32)) here
  where
    at_group : (o : Option (List ℕ)) → is_none o ≡ false → physical.word_where leases place o ≡ get_or (unwrap_or o []) (place % 32) 0
    at_group None h = cc
    at_group (Some ws) h = refl
