-- Words move, however the moves are cut.
use Rattle.std.proofs.Common.{◌≡◌, ℕ, ◌+◌, ◌-◌, ◌<◌, ◌≤◌, min, true, false, List, [], ◌∷◌, ◌++◌, length, get_or, take, drop, Option, Some, None, cond, refl}
use Rattle.std.proofs.Common.{sym, ap, ◌∙◌, ⊎_elim, arith, length-drop}
use Rattle.std.specs.Option.{option_map}
use Rattle.std.proofs.lemmas.Bool.{cases_Bool}
use Rattle.std.proofs.lemmas.List.{drop_min, drop-drop, take_min}
use Rattle.kdf_lockout.specs.Groups.{Lent, with_lent_word}
use Rattle.kdf_transfer.specs.declared.order.TransferOrder.{TransferOrder}
use Rattle.kdf_transfer.specs.Devices.{Fixture, DeviceProgress}
use Rattle.kdf_transfer.specs.AtOnce.{is_input, is_output, given, offered, place_of, stopped, addressed}
use Rattle.kdf_transfer.specs.InFlight.{Motion, area_words, all_words, words_in_flight, total_of, moves_of, put_words, lease_by, moved_by}
use Rattle.kdf_transfer.proofs.Addresses.{addressed-drop, length-addressed, take_two}

-- the words of an input order don't depend on the lease
offer-lease : (o : TransferOrder) (first last : ℕ) (l l' : Option Lent) (f : Fixture) (p : DeviceProgress) → (is_input o ≡ false → l ≡ l')
    → offered o first last (area_words o first last l) f p ≡ offered o first last (area_words o first last l') f p
unfolding offered
offer-lease o first last l l' f p same =
    ⊎_elim
    (λ (is : is_input o ≡ true).
    let input : List ℕ = take (last + 1 - first) (given o f p) in
    ap (λ b. cond b input (cond (is_output o) (area_words o first last l) [])) is
    ∙ sym (ap (λ b. cond b input (cond (is_output o) (area_words o first last l') [])) is))
    (λ (not : is_input o ≡ false). ap (λ k. offered o first last (area_words o first last k) f p) (same not))
    (cases_Bool (is_input o))

pub words-lease : (o : TransferOrder) (first last : ℕ) (l l' : Option Lent) (f : Fixture) (p : DeviceProgress) → (is_input o ≡ false → l ≡ l')
    → all_words o first last l f p ≡ all_words o first last l' f p
unfolding all_words
words-lease o first last l l' f p same = ap (stopped o) (offer-lease o first last l l' f p same)

pub put_words-append : (xs ys : List (ℕ × ℕ)) (l : Lent) → put_words (xs ++ ys) l ≡ put_words ys (put_words xs l)
put_words-append [] ys l = refl
put_words-append (x ∷ xs) ys l = put_words-append xs ys (with_lent_word l x.0 x.1)

map_two : {X Y Z : Type 0} (f : X → Y) (g : Y → Z) (o : Option X) → option_map g (option_map f o) ≡ option_map (λ x. g (f x)) o
map_two f g None = refl
map_two f g (Some x) = refl

map_same : {X Y : Type 0} (f g : X → Y) → ((x : X) → f x ≡ g x) → (o : Option X) → option_map f o ≡ option_map g o
map_same f g same None = refl
map_same f g same (Some x) = ap Some (same x)

-- the words that move stay the same while they move
pub words-moved : (n : ℕ) (t : Motion) → words_in_flight (moved_by n t) ≡ words_in_flight t
unfolding moved_by
words-moved n t =
    words-lease t.order t.first t.last (lease_by n t) t.lease t.fixture t.progress
    (λ not. ap (λ b. cond b (option_map (put_words (take n (drop t.moved (moves_of t)))) t.lease) t.lease) not)

-- two moves are one
pub moved_two : (a b : ℕ) (t : Motion) → t.moved ≤ total_of t → moved_by b (moved_by a t) ≡ moved_by (a + b) t
unfolding moved_by
moved_two a b t within =
    λ i. record { order = t.order; first = t.first; last = t.last; fixture = t.fixture; progress = t.progress; lease = leases i; moved = counts i }
  where
    u : Motion
    u = moved_by a t

    same : words_in_flight u ≡ words_in_flight t
    same = words-moved a t

    counts : min (u.moved + b) (total_of u) ≡ min (t.moved + (a + b)) (total_of t)
    counts =
        let e : min (min (t.moved + a) (total_of t) + b) (total_of t) ≡ min (t.moved + (a + b)) (total_of t) = omega arith in
        ap (λ ws. min (min (t.moved + a) (total_of t) + b) (length ws)) same ∙ e

    ms : List (ℕ × ℕ)
    ms = moves_of t

    rest : drop u.moved (moves_of u) ≡ drop a (drop t.moved ms)
    rest =
        ap (λ ws. drop u.moved (addressed t.order t.first t.last ws)) same
        ∙ ap (λ n. drop (min (t.moved + a) n) ms) (sym (length-addressed t.order t.first t.last (words_in_flight t)))
        ∙ drop_min (t.moved + a) ms
        ∙ sym (drop-drop a t.moved ms)

    one : (l : Lent) → put_words (take b (drop u.moved (moves_of u))) (put_words (take a (drop t.moved ms)) l) ≡ put_words (take (a + b) (drop t.moved ms)) l
    one l =
        ap (λ ys. put_words (take b ys) (put_words (take a (drop t.moved ms)) l)) rest
        ∙ sym (put_words-append (take a (drop t.moved ms)) (take b (drop a (drop t.moved ms))) l)
        ∙ ap (λ xs. put_words xs l) (take_two a b (drop t.moved ms))

    leases : lease_by b u ≡ lease_by (a + b) t
    leases =
        ⊎_elim
        (λ (is : is_input t.order ≡ true).
        ap (λ c. cond c (option_map (put_words (take b (drop u.moved (moves_of u)))) (lease_by a t)) (lease_by a t)) is
        ∙ ap (λ c. option_map (put_words (take b (drop u.moved (moves_of u)))) (cond c (option_map (put_words (take a (drop t.moved ms))) t.lease) t.lease)) is
        ∙ map_two (put_words (take a (drop t.moved ms))) (put_words (take b (drop u.moved (moves_of u)))) t.lease
        ∙ map_same _ _ one t.lease
        ∙ sym (ap (λ c. cond c (option_map (put_words (take (a + b) (drop t.moved ms))) t.lease) t.lease) is))
        (λ (not : is_input t.order ≡ false).
        ap (λ c. cond c (option_map (put_words (take b (drop u.moved (moves_of u)))) (lease_by a t)) (lease_by a t)) not
        ∙ ap (λ c. cond c (option_map (put_words (take a (drop t.moved ms))) t.lease) t.lease) not
        ∙ sym (ap (λ c. cond c (option_map (put_words (take (a + b) (drop t.moved ms))) t.lease) t.lease) not))
        (cases_Bool (is_input t.order))

-- no move
pub moved_none : (t : Motion) → t.moved ≤ total_of t → moved_by 0 t ≡ t
unfolding moved_by
moved_none t within =
    λ i. record { order = t.order; first = t.first; last = t.last; fixture = t.fixture; progress = t.progress; lease = leases i; moved = counts i }
  where
    counts : min (t.moved + 0) (total_of t) ≡ t.moved
    counts = omega arith

    nothing : (o : Option Lent) → option_map (put_words []) o ≡ o
    nothing None = refl
    nothing (Some l) = refl

    leases : lease_by 0 t ≡ t.lease
    leases =
        ⊎_elim
        (λ (is : is_input t.order ≡ true). ap (λ c. cond c (option_map (put_words []) t.lease) t.lease) is ∙ nothing t.lease)
        (λ (not : is_input t.order ≡ false). ap (λ c. cond c (option_map (put_words []) t.lease) t.lease) not)
        (cases_Bool (is_input t.order))

-- one word more
pub moved_one : (t : Motion) (w : ℕ) → t.moved < total_of t → w ≡ get_or (words_in_flight t) t.moved 0
    → (let u : Motion = record t {
      moved = t.moved + 1;
      lease =
          cond (is_input t.order) (option_map (λ l. with_lent_word l (place_of t.order t.first t.last t.moved) w) t.lease) t.lease;
    } in u) ≡ moved_by 1 t
unfolding moved_by
moved_one t w more is =
    λ i. record { order = t.order; first = t.first; last = t.last; fixture = t.fixture; progress = t.progress; lease = leases i; moved = counts i }
  where
    counts : t.moved + 1 ≡ min (t.moved + 1) (total_of t)
    counts = omega arith

    next : take 1 (drop t.moved (moves_of t)) ≡ (place_of t.order t.first t.last t.moved, w) ∷ []
    next =
        ap (take 1) (addressed-drop t.order t.first t.last t.moved (words_in_flight t) more)
        ∙ ap (λ x. (place_of t.order t.first t.last t.moved, x) ∷ []) (sym is)

    leases : cond (is_input t.order) (option_map (λ l. with_lent_word l (place_of t.order t.first t.last t.moved) w) t.lease) t.lease ≡ lease_by 1 t
    leases = ap (λ (ms : List (ℕ × ℕ)). cond (is_input t.order) (option_map (put_words ms) t.lease) t.lease) (sym next)

-- more moves than words remain
pub moved_min : (n : ℕ) (t : Motion) → t.moved ≤ total_of t → moved_by (min n (total_of t - t.moved)) t ≡ moved_by n t
unfolding moved_by
moved_min n t within =
    λ i. record { order = t.order; first = t.first; last = t.last; fixture = t.fixture; progress = t.progress; lease = leases i; moved = counts i }
  where
    counts : min (t.moved + min n (total_of t - t.moved)) (total_of t) ≡ min (t.moved + n) (total_of t)
    counts = omega arith

    left : length (drop t.moved (moves_of t)) ≡ total_of t - t.moved
    left = length-drop t.moved (moves_of t) ∙ ap (λ k. k - t.moved) (length-addressed t.order t.first t.last (words_in_flight t))

    leases : lease_by (min n (total_of t - t.moved)) t ≡ lease_by n t
    leases =
        ap (λ k. cond (is_input t.order) (option_map (put_words (take (min n k) (drop t.moved (moves_of t)))) t.lease) t.lease) (sym left)
        ∙ ap (λ ms. cond (is_input t.order) (option_map (put_words ms) t.lease) t.lease) (take_min n (drop t.moved (moves_of t)))

-- what remains of a transfer brings it to one end
moved-past : (k : ℕ) (t : Motion) → t.moved ≤ total_of t → total_of t ≤ k → moved_by k t ≡ moved_by (total_of t) t
moved-past k t within past =
    let e : min k (total_of t - t.moved) ≡ min (total_of t) (total_of t - t.moved) = omega arith in
    sym (moved_min k t within) ∙ ap (λ j. moved_by j t) e ∙ moved_min (total_of t) t within

pub moved_rest : (n : ℕ) (t : Motion) → t.moved ≤ total_of t → moved_by (total_of (moved_by n t)) (moved_by n t) ≡ moved_by (total_of t) t
moved_rest n t within =
    ap (λ (ws : List ℕ). moved_by (length ws) (moved_by n t)) (words-moved n t)
    ∙ moved_two n (total_of t) t within
    ∙ moved-past (n + total_of t) t within (omega arith)

-- the lease after the first n words
pub lease_input : (n : ℕ) (t : Motion) → t.moved ≡ 0 → is_input t.order ≡ true → (moved_by n t).lease ≡ option_map (put_words (take n (moves_of t))) t.lease
unfolding moved_by
lease_input n t start is =
    ap (λ b. cond b (option_map (put_words (take n (drop t.moved (moves_of t)))) t.lease) t.lease) is
    ∙ ap (λ m. option_map (put_words (take n (drop m (moves_of t)))) t.lease) start

pub lease_output : (n : ℕ) (t : Motion) → is_input t.order ≡ false → (moved_by n t).lease ≡ t.lease
unfolding moved_by
lease_output n t not = ap (λ b. cond b (option_map (put_words (take n (drop t.moved (moves_of t)))) t.lease) t.lease) not
