-- A yard as its fields have it: one of its programs, its turn, and what of that is seen.
use Rattle.std.specs.Prelude.{find, is_some, not}
use Rattle.std.specs.List.{range_with_len}
use Rattle.std.proofs.Common.{◌≡◌, ℕ, ◌+◌, ◌-◌, ◌*◌, ◌%◌, ◌<◌, ◌≤◌, ◌&&◌, eqb, Bool, true, false, List, [], length, get_or, map, set, Option, Some, None, refl}
use Rattle.std.proofs.Common.{sym, ap, ap₂, ◌∙◌, subst, arith}
use Rattle.std.proofs.Math.Seq.{map-set_same}
use Rattle.std.proofs.lemmas.List.{get_or-map, get_or-set_same, length-map, length-set, map-set, set-get_or}
use Rattle.kdf_journal.specs.declared.entry.Entry.{Entry}
use Rattle.kdf_lockout.specs.Groups.{Cells}
use Rattle.kdf_places.specs.Shared.{Shared, shared_in}
use Rattle.kdf_places.specs.Spots.{AreDry, spot_of}
use Rattle.kdf_places.specs.declared.place.Place.{Place}
use Rattle.kdf_processor.specs.declared.registers.Life.TheVariants as life
use Rattle.kdf_journal.specs.declared.need.Need.{Need}
use Rattle.kdf_journal.specs.declared.need.Need.TheVariants.{Group, Device, Pool}
use Rattle.kdf_processor.specs.declared.step.Step.{Step}
use Rattle.kdf_processor.specs.Lone.{is_live}
use Rattle.kdf_transfer.proofs.Numbers.{limit_is}
use Rattle.kdf_yard.specs.declared.moment.Moment.{Moment}
use Rattle.kdf_yard.specs.declared.remark.Remark.{Remark}
use Rattle.kdf_yard.specs.declared.program.Program.{Program}
use Rattle.kdf_yard.specs.declared.slot.Loaded.{Loaded}
use Rattle.kdf_yard.specs.declared.yard.Yard.TheInside.{Inside}
use Rattle.kdf_theory.specs.Holders.{held_by, is_held}
use Rattle.kdf_yard.specs.Fields.Batches.{of_seat, of_seats, AreQuiet, HasBatch, HasTurnedOn, Passes}
use Rattle.kdf_yard.specs.Fields.Going.{goes, is_stopped, place_of, IsNearHold}
use Rattle.kdf_yard.specs.Fields.Shared.{is_pool_taken}
use Rattle.kdf_yard.specs.Fields.Keeping.{IsActive, IsKept}
use Rattle.kdf_yard.specs.Fields.CanTurn.{CanTurn}
use Rattle.kdf_yard.specs.Fields.Parts.{Part, Reach, Seat, in_pool, is_lent_by, part_in, reach_of, seat_of}
use Rattle.kdf_yard.specs.Fields.Running.{no_seat, part_at, reach_at, reaches_in, seat_at, seats_in, IsRunning}
use Rattle.kdf_yard.specs.Fields.Standing.{Standing, standing, IsSameYard, IsYard}
use Rattle.kdf_yard.specs.Fields.Turned.{word_over, HasRun}
use Rattle.kdf_theory.specs.Asked.{HasAsked}
use Rattle.kdf_yard.specs.Fields.Yards.{goes_in, hold_in, registers_in, word_in, AreLentIn, AreNear, HasTurnedIn, HasTurnedQuietly}
use Rattle.kdf_yard.proofs.Turns.AfterTheTry.{free_alike}
use Rattle.kdf_yard.proofs.Turns.Batching.{still_running, turns_by, turns_on}
use Rattle.kdf_theory.proofs.Course.HeardWords.{has_none}
use Rattle.kdf_yard.proofs.Turns.HeardWords.{none_served}

-- how things stand by the fields of a yard
abbrev pub stands : Inside → Standing
stands m = standing m.slots.items m.windows m.store m.programs.items m.places.items

-- the programs are over what they share
abbrev pub Runs : Standing → Type 0
Runs x = IsRunning x.reaches x.seats x.shared

abbrev no_reach : Reach
no_reach = record { base = 0; size = 0; devices = []; pool = []; served = false }

-- whether a program is held up still, where the same devices of its pool are taken
stopped_alike : (q : Part) (r : Reach) (s : Shared) (x y : ℕ → Bool) → r.pool ≡ q.pool → ((d : ℕ) → in_pool q d ≡ true → x d ≡ y d) → (hold : Option Need)
    → is_stopped r x s hold ≡ is_stopped r y s hold
stopped_alike q r s x y pool same None = refl
stopped_alike q r s x y pool same (Some (Group g)) = refl
stopped_alike q r s x y pool same (Some (Device d)) = refl
stopped_alike q r s x y pool same (Some (Pool kind)) =
    ap (λ ks. is_pool_taken ks x kind) pool ∙ ap (λ (o : Option ℕ). not (is_some o)) (free_alike q x y same kind)
    ∙ ap (λ ks. is_pool_taken ks y kind) (sym pool)

module _ (m : Inside) (yard : IsYard m.slots.items m.windows m.store m.programs.items m.places.items) where
  abbrev pub rs : List Reach
  rs = reaches_in m.windows m.slots.items

  abbrev pub ps : List Seat
  ps = seats_in m.programs.items

  abbrev pub s : Shared
  s = shared_in m.store m.places.items

  pub sixteen : length m.places.items ≡ 16
  sixteen = let spots = yard.running.sound.spots in omega (arith, limit_is, length-map m.places.items spot_of)

  -- it is one with other programs, if they run over what they share
  pub yard_then : (store : Cells) (programs : List Program) (places : List Place) → length programs ≡ length m.programs.items → AreDry places
      → Runs (standing m.slots.items m.windows store programs places)
      → IsYard m.slots.items m.windows store programs places
  yard_then store programs places many dry runs =
      record { placed = yard.placed; many = yard.many ∙ sym many; dry = dry; running = runs }

  -- it stands so, and this is one of its programs, in its slot
  module _ (y : Standing) (is : stands m ≡ y) (i : ℕ) (there : i < length y.seats) where
    pub lt : i < length m.programs.items
    lt = omega (arith, ap (λ (x : Standing). length x.seats) is, length-map m.programs.items seat_of)

    module _ (slot : Loaded) (slot_is : slot ≡ get_or m.slots.items i slot) where
      pub reach : reach_of m.windows slot ≡ reach_at rs i
      reach =
          ap (reach_of m.windows) slot_is
          ∙ sym (get_or-map (reach_of m.windows) m.slots.items i slot no_reach (let many = yard.many in omega (arith, lt)))

      pub served_is : (reach_at y.reaches i).served ≡ slot.served
      served_is = ap (λ (x : Standing). (reach_at x.reaches i).served) (sym is) ∙ sym (ap (λ (r : Reach). r.served) reach)

      pub asks_none : (answers : ℕ → ℕ → Type 0) → slot.served ≡ false → HasAsked answers (word_in y i) None
      asks_none answers unserved =
          has_none answers (word_in y i) (none_served (seat_at y.seats i) (reach_at y.reaches i) y.shared (served_is ∙ unserved))

      module _ (program : Program) (program_is : program ≡ get_or m.programs.items i program) where
        pub seat : seat_of program ≡ seat_at ps i
        seat = ap seat_of program_is ∙ sym (get_or-map seat_of m.programs.items i program no_seat lt)

        inside : i < length ps
        inside = omega (arith, lt, length-map m.programs.items seat_of)

        -- over what its slot reaches, and from its seat in the list
        at_place : (P : Reach → Seat → Type 0) → P (reach_of m.windows slot) (seat_of program) → P (reach_at rs i) (seat_at ps i)
        at_place P p = subst (λ r. P r (seat_at ps i)) reach (subst (P (reach_of m.windows slot)) seat p)

        held : hold_in (stands m) i ≡ program.hold
        held = get_or-map (λ (x : Program). x.hold) m.programs.items i program None lt ∙ sym (ap (λ (x : Program). x.hold) program_is)

        pub at_group : (reach_of m.windows slot).base % 32 ≡ 0
        at_group = subst (λ (r : Reach). r.base % 32 ≡ 0) (sym reach) (yard.running.at_group i inside)

        pub in_store : (reach_of m.windows slot).base + (reach_of m.windows slot).size ≤ 32 * length m.store
        in_store = subst (λ (r : Reach). r.base + r.size ≤ 32 * length m.store) (sym reach) (yard.running.in_store i inside)

        pub can_turn : (registers_in y i).state ≡ life.Live → CanTurn m.windows slot program m.store m.places.items
        can_turn live =
            record {
              at_group = at_group;
              in_store = in_store;
              sixteen = sixteen;
              dry = yard.dry;
              kept = at_seat (λ q. IsKept q s) (yard.running.kept i inside);
              active = at_seat IsActive (yard.running.active i inside (ap (λ (x : Standing). is_live (registers_in x i).state) is ∙ ap is_live live));
            }
          where
            at_seat : (P : Part → Type 0) → P (part_in (seat_at ps i) (reach_at rs i)) → P (part_in (seat_of program) (reach_of m.windows slot))
            at_seat P h =
                subst (λ (r : Reach). P (part_in (seat_of program) r)) (sym reach)
                (subst (λ x. P (part_in x (reach_at rs i))) (sym seat) h)

        pub near : AreNear y → IsNearHold (reach_of m.windows slot).size program.hold
        near are =
            subst (λ (r : Reach). IsNearHold r.size program.hold) (sym reach)
            (subst (IsNearHold (reach_at rs i).size) held
            (subst AreNear (sym is) are i (omega (arith, lt, length-map m.programs.items (λ (x : Program). x.hold)))))

        pub goes_there : (J : List Entry) → AreLentIn y J → goes (seat_of program) (reach_of m.windows slot) (is_held J) s program.hold ≡ goes_in y i
        goes_there J lent =
            ap₂ (λ x r. goes x r (is_held J) s program.hold) seat reach
            ∙ ap (λ b. is_live (seat_at ps i).registers.state && not b)
            (stopped_alike (part_at rs ps i) (reach_at rs i) s (is_held J) (is_lent_by ps) refl
            (λ d pooled. ap is_some (sym (subst (λ (x : Standing). AreLentIn x J) (sym is) lent i d inside pooled))) program.hold)
            ∙ ap (goes (seat_at ps i) (reach_at rs i) (is_lent_by ps) s) (sym held)
            ∙ ap (λ (x : Standing). goes_in x i) is

        pub asks : (answers : ℕ → ℕ → Type 0) (heard : Option ℕ) → HasAsked answers (word_over (seat_of program) (reach_of m.windows slot) s) heard
            → HasAsked answers (word_in y i) heard
        asks answers heard asked =
            subst (λ (x : Standing). HasAsked answers (word_in x i) heard) is
            (at_place (λ r x. HasAsked answers (word_over x r s) heard) asked)

        -- a new one stands in its place
        module _ (new : Program) where
          abbrev programs : List Program
          programs = set m.programs.items i new

          pub many : length programs ≡ length m.programs.items
          many = length-set m.programs.items i new

          seats_then : seat_of new ≡ seat_of program → seats_in programs ≡ ps
          seats_then same = map-set_same seat_of m.programs.items i new program (same ∙ ap seat_of program_is)

          holds_then : new.hold ≡ program.hold → map (λ (x : Program). x.hold) programs ≡ map (λ (x : Program). x.hold) m.programs.items
          holds_then same = map-set_same (λ (x : Program). x.hold) m.programs.items i new program (same ∙ ap (λ (x : Program). x.hold) program_is)

          -- that is as the one before, over the same store and places
          pub unheard : seat_of new ≡ seat_of program → new.hold ≡ program.hold → (store : Cells) → store ≡ m.store → (places : List Place)
              → places ≡ m.places.items
              → standing m.slots.items m.windows store programs places ≡ stands m
          unheard same hold store store_is places places_is =
              ap₂ (λ xs hs. record { slots = (stands m).slots; reaches = rs; seats = xs; holds = hs; shared = shared_in store places }) (seats_then same)
              (holds_then hold)
              ∙ ap₂ (λ a v. record { slots = (stands m).slots; reaches = rs; seats = ps; holds = (stands m).holds; shared = shared_in a v }) store_is places_is

          -- that took its turn
          module _ (live : (registers_in y i).state ≡ life.Live) (J : List Entry) (lent : AreLentIn y J) (t : Moment) (n : ℕ) (place : Option ℕ)
              (store : Cells) (places : List Place) where
            abbrev z : Standing
            z = standing m.slots.items m.windows store programs places

            on : is_live (seat_at ps i).registers.state ≡ true
            on = ap (λ (x : Standing). is_live (registers_in x i).state) is ∙ ap is_live live

            lent_there : AreLentIn (stands m) J
            lent_there = subst (λ (x : Standing). AreLentIn x J) (sym is) lent

            turned_then : (ended : Step) (noted : Remark) → HasBatch of_seat place (HasRun (reach_of m.windows slot) (held_by J) t) n (seat_of program) s
                (seat_of new) (shared_in store places) ended noted → HasTurnedIn t i n place (stands m) z ended noted
            turned_then ended noted ran =
                subst (λ xs. HasBatch (of_seats i) place (HasTurnedOn rs t i) n ps s xs (shared_in store places) ended noted)
                (sym (map-set seat_of m.programs.items i new))
                (turns_by rs (held_by J) t i place n ps s (seat_of new) (shared_in store places) ended noted yard.running lent_there inside on
                (at_place (λ r x. HasBatch of_seat place (HasRun r (held_by J) t) n x s (seat_of new) (shared_in store places) ended noted) ran))

            pub turned_in : (ended : Step) (noted : Remark) → HasBatch of_seat place (HasRun (reach_of m.windows slot) (held_by J) t) n (seat_of program) s
                (seat_of new) (shared_in store places) ended noted → HasTurnedIn t i n place y z ended noted
            turned_in ended noted ran = subst (λ (x : Standing). HasTurnedIn t i n place x z ended noted) is (turned_then ended noted ran)

            pub runs_then : (ended : Step) (noted : Remark) → HasBatch of_seat place (HasRun (reach_of m.windows slot) (held_by J) t) n (seat_of program) s
                (seat_of new) (shared_in store places) ended noted → Runs z
            runs_then ended noted ran = (turned_then ended noted ran).last.1

            still_then : AreQuiet (Passes of_seat place (HasRun (reach_of m.windows slot) (held_by J) t)) n (seat_of program) s (seat_of new)
                (shared_in store places) → HasTurnedQuietly t i n place (stands m) z
            still_then ran =
                subst (λ xs. AreQuiet (Passes (of_seats i) place (HasTurnedOn rs t i)) n ps s xs (shared_in store places))
                (sym (map-set seat_of m.programs.items i new))
                (turns_on rs (held_by J) t i place n ps s (seat_of new) (shared_in store places) yard.running lent_there inside on
                (at_place (λ r x. AreQuiet (Passes of_seat place (HasRun r (held_by J) t)) n x s (seat_of new) (shared_in store places)) ran)).0

            pub still_in : AreQuiet (Passes of_seat place (HasRun (reach_of m.windows slot) (held_by J) t)) n (seat_of program) s (seat_of new)
                (shared_in store places) → HasTurnedQuietly t i n place y z
            still_in ran = subst (λ (x : Standing). HasTurnedQuietly t i n place x z) is (still_then ran)

            pub runs_still : AreQuiet (Passes of_seat place (HasRun (reach_of m.windows slot) (held_by J) t)) n (seat_of program) s (seat_of new)
                (shared_in store places) → Runs z
            runs_still ran = still_running rs t i place n ps s (seats_in programs) (shared_in store places) yard.running (still_then ran)

            pub same_yard : new.hold ≡ program.hold → IsSameYard y z
            same_yard hold =
                record {
                  slots = ap (λ (x : Standing). x.slots) is;
                  reaches = ap (λ (x : Standing). x.reaches) is;
                  holds = holds_then hold ∙ ap (λ (x : Standing). x.holds) is;
                  many = length-map programs seat_of ∙ many ∙ sym (length-map m.programs.items seat_of) ∙ ap (λ (x : Standing). length x.seats) is;
                }

    -- what an order of its came to is entered: only what holds it changes
    module _ (program : Program) (program_is : program ≡ get_or m.programs.items i program) (new : Program) (same : seat_of new ≡ seat_of program) where
      pub seat_entered : seat_of program ≡ seat_at y.seats i
      seat_entered =
          ap seat_of program_is ∙ sym (get_or-map seat_of m.programs.items i program no_seat lt) ∙ ap (λ (x : Standing). seat_at x.seats i) is

      pub hold_entered : program.hold ≡ hold_in y i
      hold_entered =
          ap (λ (x : Program). x.hold) program_is ∙ sym (get_or-map (λ (x : Program). x.hold) m.programs.items i program None lt)
          ∙ ap (λ (x : Standing). hold_in x i) is

      abbrev entered : List Program
      entered = set m.programs.items i new

      abbrev e : Standing
      e = standing m.slots.items m.windows m.store entered m.places.items

      holds_entered : e.holds ≡ set (stands m).holds i new.hold
      holds_entered = map-set (λ (x : Program). x.hold) m.programs.items i new

      pub hold_new : new.hold ≡ hold_in e i
      hold_new =
          sym (ap (λ hs. get_or hs i None) holds_entered
          ∙ get_or-set_same (stands m).holds i new.hold None (omega (arith, lt, length-map m.programs.items (λ (x : Program). x.hold))))

      seats_entered : e.seats ≡ ps
      seats_entered = map-set seat_of m.programs.items i new ∙ ap (set ps i) (same ∙ seat_there) ∙ set-get_or_there
        where
          seat_there : seat_of program ≡ seat_at ps i
          seat_there = ap seat_of program_is ∙ sym (get_or-map seat_of m.programs.items i program no_seat lt)

          set-get_or_there : set ps i (seat_at ps i) ≡ ps
          set-get_or_there = set-get_or ps i no_seat

      pub rest_entered : e ≡ record y { holds = set y.holds i (hold_in e i) }
      rest_entered =
          ap₂ (λ xs hs. record (stands m) { seats = xs; holds = hs }) seats_entered (holds_entered ∙ ap (set (stands m).holds i) hold_new)
          ∙ ap (λ (x : Standing). record x { holds = set x.holds i (hold_in e i) }) is

      pub runs_entered : Runs e
      runs_entered = subst (λ xs. IsRunning rs xs s) (sym seats_entered) yard.running

      pub many_entered : length entered ≡ length m.programs.items
      many_entered = length-set m.programs.items i new

-- the number of a program
pub number_at : (programs : List Program) (i : ℕ) → i < length programs → (program : Program) → program ≡ get_or programs i program
    → (seat_at (seats_in programs) i).p ≡ program.p
number_at programs i lt program is = ap (λ (x : Seat). x.p) (get_or-map seat_of programs i program no_seat lt ∙ ap seat_of (sym is))

-- the search for the program in a slot begins at the first of all
pub place_first : (programs : List Program) (p : ℕ) → place_of (seats_in programs) p ≡ find (λ i. eqb (seat_at (seats_in programs) i).p p)
    (range_with_len 0 (length programs - 0))
unfolding place_of
place_first programs p =
    let count : length (seats_in programs) ≡ length programs - 0 = omega (arith, length-map programs seat_of) in
    ap (λ n. find (λ i. eqb (seat_at (seats_in programs) i).p p) (range_with_len 0 n)) count
