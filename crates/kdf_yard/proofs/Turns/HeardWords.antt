-- The word of which a program's order asks the service, over the fields of the machine.
use Rattle.std.proofs.Common.{◌≡◌, ℕ, ◌<◌, ◌||◌, not, Bool, true, false, List, [], ◌∷◌, length, get_or, Option, Some, None, cond, refl, sym, ap, ◌∙◌}
use Rattle.std.specs.Prelude.{find, is_some}
use Rattle.std.specs.List.{range_with_len}
use Rattle.std.proofs.lemmas.Bool.{and_from, and_parts}
use Rattle.kdf_journal.specs.declared.kind.Kind.{Kind}
use Rattle.kdf_transfer.specs.ByNumber.{device_count}
use Rattle.kdf_transfer.specs.Devices.{is_kind}
use Rattle.kdf_journal.specs.declared.need.Need.{Need}
use Rattle.kdf_journal.specs.declared.need.Need.TheVariants.{Group, Device, Pool}
use Rattle.kdf_processor.specs.Lone.{is_live}
use Rattle.kdf_processor.specs.View.{first_pending, is_pending}
use Rattle.kdf_processor.specs.Ahead.{act_word, word_ahead, word_asked}
use Rattle.kdf_processor.specs.Needs.{needs, next_effect}
use Rattle.kdf_processor.specs.Outcome.{done, held_or}
use Rattle.kdf_processor.proofs.Words.{done_word, unserved_word, untold_word}
use Rattle.kdf_theory.specs.Holders.{held_by}
use Rattle.kdf_yard.specs.Fields.Parts.{Part, Reach, Seat, in_pool, is_lent_by, part_in}
use Rattle.kdf_places.specs.Shared.{Shared}
use Rattle.kdf_yard.specs.Fields.Running.{hold_of, own_state, part_at, reach_at, seat_at, IsRunning}
use Rattle.kdf_places.specs.Spots.{own_from}
use Rattle.kdf_yard.specs.Fields.Shared.{Setting, free_in, is_free_in, is_pool_taken, is_taken_by, moment, view}
use Rattle.kdf_yard.specs.Fields.Turned.{told, word_over}
use Rattle.kdf_yard.proofs.Turns.Borrowers.{has_now}
use Rattle.kdf_yard.proofs.Turns.OneOrder as turn
use Rattle.kdf_yard.proofs.Turns.OrdersTried.{kind_some}

-- the order of a program that isn't served asks nothing, nor does one that no word on top tells
pub none_served : (x : Seat) (r : Reach) (s : Shared) → r.served ≡ false → word_over x r s ≡ None
none_served x r s = unserved_word (view (part_in x r) (told x (held_by []) (moment 0 0)) s) x.registers

pub none_told : (x : Seat) (r : Reach) (s : Shared) → word_ahead x.registers.nest ≡ None → word_over x r s ≡ None
none_told x r s = untold_word (view (part_in x r) (told x (held_by []) (moment 0 0)) s) x.registers

-- where none is found, none is of which less holds
fewer_found : {X : Type 0} (f g : X → Bool) → ((x : X) → g x ≡ true → f x ≡ true) → (xs : List X) → find f xs ≡ None → find g xs ≡ None
fewer_found f g le [] none = refl
fewer_found {X} f g le (x ∷ xs) none = of (f x) (g x) refl refl none (λ rest. fewer_found f g le xs rest)
  where
    of : (a b : Bool) → f x ≡ a → g x ≡ b → cond a (Some x) (find f xs) ≡ None → (find f xs ≡ None → find g xs ≡ None) → find g (x ∷ xs) ≡ None
    of true b is is' none later = cc
    of false true is is' none later = cc (sym is ∙ le x is')
    of false false is is' none later = ap (λ c. cond c (Some x) (find g xs)) is' ∙ later none

-- where all of a kind are taken, all are where more are
more_taken : (q : Part) (x y : ℕ → Bool) → ((d : ℕ) → in_pool q d ≡ true → x d ≡ true → y d ≡ true) → (kind : Kind) → is_pool_taken q.pool x kind ≡ true
    → is_pool_taken q.pool y kind ≡ true
unfolding free_in
more_taken q x y le kind all =
    ap (λ (o : Option ℕ). not (is_some o))
    (fewer_found (is_free_in q.pool x kind) (is_free_in q.pool y kind) each (range_with_len 0 device_count)
    (none_of (find (is_free_in q.pool x kind) (range_with_len 0 device_count)) all))
  where
    none_of : (o : Option ℕ) → not (is_some o) ≡ true → o ≡ None
    none_of None is = refl
    none_of (Some d) is = cc

    each : (d : ℕ) → is_free_in q.pool y kind d ≡ true → is_free_in q.pool x kind d ≡ true
    each d free =
        let parts = and_parts (is_kind kind (get_or q.pool d None)) (not (y d)) free in
        and_from (is_kind kind (get_or q.pool d None)) (not (x d)) parts.0 (of (x d) refl (kind_some kind (get_or q.pool d None) parts.0) parts.1)
      where
        of : (b : Bool) → x d ≡ b → in_pool q d ≡ true → not (y d) ≡ true → not (x d) ≡ true
        of true is pooled not_y = cc (sym (ap not (le d pooled is)) ∙ not_y)
        of false is pooled not_y = ap not is

-- so nothing is pending where nothing is with more taken
none_pending : (q : Part) (t w : Setting) (s : Shared) → ((d : ℕ) → in_pool q d ≡ true → w.taken d ≡ true → t.taken d ≡ true) → (ns : List Need)
    → first_pending (view q t s) ns ≡ None → first_pending (view q w s) ns ≡ None
none_pending q t w s le ns none = fewer_found (is_pending (view q t s)) (is_pending (view q w s)) each ns none
  where
    each : (n : Need) → is_pending (view q w s) n ≡ true → is_pending (view q t s) n ≡ true
    each (Group g) is = is
    each (Device d) is = is
    each (Pool kind) is = more_taken q w.taken t.taken le kind is

-- of an order that nothing holds up, the word is that of its effect, by the program's own state
pub word_is : (reaches : List Reach) (seats : List Seat) (s : Shared) (i : ℕ) → IsRunning reaches seats s → i < length seats
    → is_live (seat_at seats i).registers.state ≡ true → hold_of reaches seats s i ≡ None → (n : ℕ) → word_over (seat_at seats i) (reach_at reaches i) s
    ≡ word_asked (next_effect (own_state reaches seats s n i))
unfolding own_state hold_of
word_is reaches seats s i run lt live free n =
    let t = moment 0 0 in
    let q = part_at reaches seats i in
    let w = told (seat_at seats i) (held_by []) t in
    let e = turn.e reaches seats t s i run lt in
    let none = none_pending q (turn.told_by seats t) w s claimed_taken (needs (own_state reaches seats s 0 i) (own_from (seat_at seats i).p 0 s.spots)) free in
    ap (λ (o : Option Need). act_word (held_or (seat_at seats i).registers o (done (view q w s) (seat_at seats i).registers e)).act) none
    ∙ done_word (view q w s) (seat_at seats i).registers e
  where
    marked : (b : Bool) → (b || false) ≡ true → b ≡ true
    marked true is = refl
    marked false is = is

    -- a device that the program has claimed is its own
    claimed_taken : (d : ℕ) → in_pool (part_at reaches seats i) d ≡ true → is_taken_by (seat_at seats i).claimed (held_by []) d ≡ true
        → is_lent_by seats d ≡ true
    claimed_taken d pooled is =
        ap is_some (has_now reaches seats s run i lt d (sym ((run.active i lt live).marks d pooled) ∙ marked (get_or (seat_at seats i).claimed d false) is))
