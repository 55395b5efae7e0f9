-- Places are given up one by one.
use Rattle.std.proofs.Common.{◌≡◌, ℕ, suc, ◌+◌, ◌-◌, ◌<◌, ◌≤◌, true, false, List, [], ◌∷◌, ◌++◌, length, get_or, set, map, replicate, Option, Some, None}
use Rattle.std.proofs.Common.{is_none, ◌/◌, cond, refl, sym, ap, ap₂, ◌∙◌, subst, ⊎_elim, arith}
use Rattle.std.proofs.lemmas.Bool.{cases_Bool, cases_lt}
use Rattle.std.proofs.lemmas.List.{length-map, length-replicate, get_or-replicate, get_or_past}
use Rattle.kdf_lockout.specs.Groups.{Cells, Lent, group_at, is_out}
use Rattle.kdf_places.specs.Words.{has_group, word_out}
use Rattle.kdf_transfer.specs.ByNumber.{device_count}
use Rattle.kdf_transfer.specs.InFlight.{lent_at}
use Rattle.kdf_places.specs.declared.place.Place.{Place}
use Rattle.kdf_places.specs.declared.place.Place.TheVariants.{Absent}
use Rattle.kdf_places.specs.Spots.{Spot, no_spot, spot_of, lease_held, leases_of}
use Rattle.kdf_places.specs.Shared.{Shared, shared_in, IsSound, padded, left_in}
use Rattle.kdf_places.specs.Transfers.{back_cells, IsBack}
use Rattle.kdf_places.proofs.OnePlaceChanges.{spot_there}
use Rattle.kdf_places.proofs.GroupsComeBack.{back-lease, sound-land}

pub none_of : {X : Type 0} (xs : List X) → length xs ≡ 0 → xs ≡ []
none_of [] e = refl
none_of (x ∷ xs) e = absurd (omega (arith, e))

append_none : {X : Type 0} (xs : List X) → xs ++ [] ≡ xs
append_none [] = refl
append_none (x ∷ xs) = ap (λ ys. x ∷ ys) (append_none xs)

append_one : {X : Type 0} (xs : List X) (x : X) (ys : List X) → (xs ++ x ∷ []) ++ ys ≡ xs ++ (x ∷ ys)
append_one [] x ys = refl
append_one (z ∷ xs) x ys = ap (λ zs. z ∷ zs) (append_one xs x ys)

length_one : {X : Type 0} (xs : List X) (x : X) → length (xs ++ x ∷ []) ≡ length xs + 1
length_one [] x = refl
length_one (z ∷ xs) x = let e = length_one xs x in omega arith

set_there : {X : Type 0} (xs : List X) (x y : X) (ys : List X) → set (xs ++ (x ∷ ys)) (length xs) y ≡ xs ++ (y ∷ ys)
set_there [] x y ys = refl
set_there (z ∷ xs) x y ys = ap (λ zs. z ∷ zs) (set_there xs x y ys)

get_there : {X : Type 0} (xs : List X) (x d : X) (ys : List X) → get_or (xs ++ (x ∷ ys)) (length xs) d ≡ x
get_there [] x d ys = refl
get_there (z ∷ xs) x d ys = get_there xs x d ys

map_one : (xs : List Place) (x : Place) → map spot_of (xs ++ x ∷ []) ≡ map spot_of xs ++ spot_of x ∷ []
map_one [] x = refl
map_one (z ∷ xs) x = ap (λ zs. spot_of z ∷ zs) (map_one xs x)

pub nothing_at : (n d : ℕ) → get_or (replicate n no_spot) d no_spot ≡ no_spot
nothing_at n d =
    ⊎_elim
    (λ (lt : d < n). get_or-replicate n d no_spot no_spot lt)
    (λ (past : n ≤ d). get_or_past (replicate n no_spot) d no_spot (omega (arith, length-replicate n no_spot)))
    (cases_lt d n)

-- the last place
module _ (cells : Cells) (all xs : List Place) (x : Place) (is : all ≡ xs ++ x ∷ []) (few : length all ≤ device_count) (sound : IsSound (left_in cells all))
  where
    abbrev ys : List Spot
    ys = map spot_of xs

    abbrev rest : List Spot
    rest = replicate (device_count - length (ys ++ spot_of x ∷ [])) no_spot

    small : length ys < device_count
    small = omega (arith, few, ap length is, length_one xs x, length-map xs spot_of)

    spots_are : (left_in cells all).spots ≡ ys ++ (spot_of x ∷ rest)
    spots_are = ap (λ zs. padded (map spot_of zs)) is ∙ ap padded (map_one xs x) ∙ append_one ys (spot_of x) rest

    lease_is : leases_of (left_in cells all).spots (length ys) ≡ lease_held (spot_of x).flight
    lease_is = ap (λ ss. leases_of ss (length ys)) spots_are ∙ ap (λ (s : Spot). lease_held s.flight) (get_there ys (spot_of x) no_spot rest)

    pub back_last : IsBack cells (lease_held (spot_of x).flight)
    back_last = back-lease (left_in cells all) (length ys) _ sound lease_is

    spots_left : set (left_in cells all).spots (length ys) no_spot ≡ padded ys
    spots_left =
        ap (λ ss. set ss (length ys) no_spot) spots_are
        ∙ set_there ys (spot_of x) no_spot rest
        ∙ ap (λ n. ys ++ replicate n no_spot) (let e : suc (device_count - length (ys ++ spot_of x ∷ [])) ≡ device_count - length ys =
        omega (arith, small, length_one ys (spot_of x)) in e)

    pub sound_left : IsSound (left_in (back_cells (lease_held (spot_of x).flight) cells) xs)
    sound_left =
        subst IsSound (ap₂ (λ l ss. (let m : Shared = record { cells = back_cells l cells; spots = ss } in m)) lease_is spots_left)
        (sound-land (left_in cells all) (length ys) no_spot sound small refl)

-- all places, as they are at first
pub sound_first : (cells : Cells) (all : List Place) → length all ≡ device_count → IsSound (shared_in cells all) → IsSound (left_in cells all)
sound_first cells all count sound =
    subst (λ ss. IsSound (record { cells = cells; spots = ss })) (sym none) sound
  where
    none : padded (map spot_of all) ≡ map spot_of all
    none =
        ap (λ n. map spot_of all ++ replicate n no_spot) (let e : device_count - length (map spot_of all) ≡ 0 =
        omega (arith, count, length-map all spot_of) in e)
        ∙ append_none (map spot_of all)

-- with no place left all groups are here
pub all_back : (cells : Cells) (all : List Place) → all ≡ [] → IsSound (left_in cells all) → (g : ℕ) → g < length cells → is_out cells g ≡ false
all_back cells all is sound g lt =
    ⊎_elim
    (λ (out : is_out cells g ≡ true).
    let d = sound.held g lt (missing (group_at cells g) out) in
    cc (sym (ap (λ zs. has_group (leases_of (padded (map spot_of zs)) d.0) g) is
    ∙ ap (λ (s : Spot). has_group (lease_held s.flight) g) (nothing_at (device_count - 0) d.0)) ∙ d.1))
    (λ (here : is_out cells g ≡ false). here)
    (cases_Bool (is_out cells g))
  where
    missing : (o : Option (List ℕ)) → is_none o ≡ true → o ≡ None
    missing None h = refl
    missing (Some ws) h = cc

-- the word of a place, in the lease of one device or in those below it
pub lent_is : (places : List Place) (x e : ℕ) (place : Place) (r : Option ℕ) → place ≡ get_or places e Absent
    → r ≡ cond (has_group (lease_held (spot_of place).flight) (x / 32)) (Some (lent_at (lease_held (spot_of place).flight) x)) None
    → r ≡ cond (has_group (leases_of (map spot_of places) e) (x / 32)) (Some (lent_at (leases_of (map spot_of places) e) x)) None
lent_is places x e place r is h =
    h ∙ ap (λ (s : Spot). cond (has_group (lease_held s.flight) (x / 32)) (Some (lent_at (lease_held s.flight) x)) None)
    (ap spot_of is ∙ sym (spot_there places e))

pub out_here : (leases : ℕ → Option Lent) (x d e w : ℕ) → d ≡ suc e → Some w ≡ cond (has_group (leases e) (x / 32)) (Some (lent_at (leases e) x)) None
    → w ≡ word_out d leases x
out_here leases x d e w is h =
    ⊎_elim
    (λ (yes' : has_group (leases e) (x / 32) ≡ true).
    (let same : w ≡ lent_at (leases e) x = cc (h ∙ ap (λ b. cond b (Some (lent_at (leases e) x)) None) yes') in same)
    ∙ sym (ap (λ n. word_out n leases x) is ∙ ap (λ b. cond b (lent_at (leases e) x) (word_out e leases x)) yes'))
    (λ (no' : has_group (leases e) (x / 32) ≡ false). cc (h ∙ ap (λ b. cond b (Some (lent_at (leases e) x)) None) no'))
    (cases_Bool (has_group (leases e) (x / 32)))

pub out_below : (leases : ℕ → Option Lent) (x d e : ℕ) → d ≡ suc e → None ≡ cond (has_group (leases e) (x / 32)) (Some (lent_at (leases e) x)) None
    → word_out d leases x ≡ word_out e leases x
out_below leases x d e is h =
    ⊎_elim
    (λ (yes' : has_group (leases e) (x / 32) ≡ true). cc (h ∙ ap (λ b. cond b (Some (lent_at (leases e) x)) None) yes'))
    (λ (no' : has_group (leases e) (x / 32) ≡ false). ap (λ n. word_out n leases x) is ∙ ap (λ b. cond b (lent_at (leases e) x) (word_out e leases x)) no')
    (cases_Bool (has_group (leases e) (x / 32)))
