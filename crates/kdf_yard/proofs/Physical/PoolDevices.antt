-- What a device that is taken from the pool, or leaves a program, makes of what is shown of the programs.
use Rattle.std.specs.List.{All, list_any}
use Rattle.std.proofs.Common.{◌≡◌, ◌≢◌, ℕ, ◌+◌, ◌<◌, ◌||◌, Bool, true, false, List, [], ◌∷◌, ◌++◌, length, get_or, map, set, Option, Some, None, is_some, cond}
use Rattle.std.proofs.Common.{refl, sym, ap, ap₂, ◌∙◌, subst, ⊎_elim, arith}
use Rattle.std.specs.Option.{option_map}
use Rattle.std.proofs.Math.Path.{fun_ext}
use Rattle.std.proofs.lemmas.Bool.{and_parts, cases_Bool, cases_eq, eq-eqb, eqb-true, ne_eqb, or_parts, or_right}
use Rattle.std.proofs.lemmas.List.{ext_get_or, get_or-set_other, get_or-set_same, length-set, map_push}
use Rattle.std.proofs.lemmas.List.Elements.{All-map, All-push}
use Rattle.kdf_journal.specs.declared.kind.Kind.{Kind}
use Rattle.kdf_lockout.specs.Groups.{Cells}
use Rattle.kdf_transfer.specs.ByNumber.{device_count, by_number}
use Rattle.kdf_transfer.specs.Devices.{Fixture, DeviceProgress, blank_fixture, new_progress}
use Rattle.kdf_transfer.proofs.Numbers.{length-numbers, limit_is, number_at}
use Rattle.kdf_processor.specs.declared.spooled.Spooled.{Spooled}
use Rattle.kdf_processor.specs.Effect.{Releases}
use Rattle.kdf_processor.specs.Row.{handed, taking}
use Rattle.kdf_processor.specs.State.{StintState, Stock}
use Rattle.kdf_yard.specs.Fields.Keeping.{IsActive, IsKept}
use Rattle.kdf_yard.specs.Fields.Parts.{Part, back_from, has_device, in_pool, own_claims, own_fixture, own_progress, own_stock, pool_kind}
use Rattle.kdf_theory.specs.Loading.{owns}
use Rattle.kdf_places.specs.Shared.{Shared, IsSound}
use Rattle.kdf_places.specs.Words.{has_group, own_words}
use Rattle.kdf_theory.specs.Seen.{begun}
use Rattle.kdf_places.specs.Spots.{Spot, blank_spot, fixture_or, lease_held, leases_of, no_spot, spot_at}
use Rattle.kdf_yard.specs.Fields.Stints.{IsOfKind, Keeping, Loan, Lent, Left, is_left, is_lent, is_open_of, left_in, lends, stint_of, with_loan}
use Rattle.kdf_yard.proofs.Physical.OrdersAct.{claims, fixtures-set, progress_in, progress-same, stock}
use Rattle.kdf_yard.proofs.Physical.StintsChange.{IsNotLeft, apart_push, apart_with, by_open, device_with, left_here, left_there, lends_here, lends_open}
use Rattle.kdf_yard.proofs.Physical.StintsChange.{lends_push, lends_there, none_kept, open_others, stints_back, stints_left}
use Rattle.kdf_yard.proofs.Physical.PartsShow.{own_device}

-- what is shared, one place being another
abbrev pub with_spot : ℕ → Spot → Shared → Shared
with_spot d x s = record s { spots = set s.spots d x }

-- what holds at each place then
pub at_spot : (spots : List Spot) (d : ℕ) (x : Spot) → d < length spots → (P : ℕ → Spot → Type 0) → P d x → ((e : ℕ) → e ≢ d → P e (spot_at spots e)) → (e : ℕ)
    → P e (spot_at (set spots d x) e)
at_spot spots d x lt P here others e =
    ⊎_elim
    (λ (same : e ≡ d).
    subst (λ k. P k (spot_at (set spots d x) k)) (sym same) (subst (P d) (sym (get_or-set_same spots d x no_spot lt)) here))
    (λ (ne : e ≢ d). subst (P e) (sym (get_or-set_other spots d e x no_spot ne)) (others e ne))
    (cases_eq e d)

-- ---- places without a transfer

pub leases-idle : (spots : List Spot) (d : ℕ) (x : Spot) → d < length spots → (spot_at spots d).flight ≡ None → x.flight ≡ None
    → leases_of (set spots d x) ≡ leases_of spots
leases-idle spots d x lt idle none =
    fun_ext (at_spot spots d x lt (λ e y. lease_held y.flight ≡ leases_of spots e) (ap lease_held none ∙ sym (ap lease_held idle)) (λ e ne. refl))

pub sound-idle : (s : Shared) (d : ℕ) (x : Spot) → IsSound s → d < device_count → (spot_at s.spots d).flight ≡ None → x.flight ≡ None
    → IsSound (with_spot d x s)
sound-idle s d x sound small idle none =
    let leases = leases-idle s.spots d x (let e = sound.spots in omega arith) idle none in
    record {
      spots = length-set s.spots d x ∙ sound.spots;
      whole = sound.whole;
      full = λ e l is. sound.full e l (sym (ap (λ ls. ls e) leases) ∙ is);
      inside = λ e l is. sound.inside e l (sym (ap (λ ls. ls e) leases) ∙ is);
      out = λ e g has. sound.out e g (ap (λ ls. has_group (ls e) g) (sym leases) ∙ has);
      alone = λ e k g ne has. ap (λ ls. has_group (ls k) g) leases ∙ sound.alone e k g ne (ap (λ ls. has_group (ls e) g) (sym leases) ∙ has);
      held = λ g lt none. let found = sound.held g lt none in (found.0, ap (λ ls. has_group (ls found.0) g) leases ∙ found.1);
    }

-- what is shown of a program to which the place shows the same
pub stock-idle : (r : Part) (n : ℕ) (s : Shared) (d : ℕ) (x : Spot) → d < length s.spots → (spot_at s.spots d).flight ≡ None → x.flight ≡ None
    → (owns r.devices d ≡ true → x.fixture ≡ (spot_at s.spots d).fixture) → progress_in r d x ≡ progress_in r d (spot_at s.spots d)
    → own_stock r n (with_spot d x s) ≡ own_stock r n s
stock-idle r n s d x lt idle none fixture progress =
    ap₂ (λ fs ls. stock r (claims r (by_number fs)) n (own_words r.base r.size s.cells ls) (by_number (own_progress r (set s.spots d x))))
    (fixtures-set r s.spots d x lt fixture) (leases-idle s.spots d x lt idle none)
    ∙ ap (λ ps. stock r (own_claims r s) n (own_words r.base r.size s.cells (leases_of s.spots)) (by_number ps))
    (fun_ext (at_spot s.spots d x lt (λ e y. progress_in r e y ≡ own_progress r s.spots e) progress (λ e ne. refl)))

-- ---- what a program keeps

-- where a place shows the same of the pool's device
pub kept-spot : (r : Part) (s : Shared) (d : ℕ) (x : Spot) (cells : Cells) → d < length s.spots → IsKept r s
    → ((k : Kind) → pool_kind r d ≡ Some k → x.fixture ≡ Some (blank_fixture k)) → IsKept r (record { cells = cells; spots = set s.spots d x })
kept-spot r s d x cells lt kept there =
    record {
      few = kept.few;
      apart = kept.apart;
      there = at_spot s.spots d x lt (λ e y. (k : Kind) → pool_kind r e ≡ Some k → y.fixture ≡ Some (blank_fixture k)) there (λ e ne. kept.there e);
      pooled = kept.pooled;
      kinds = kept.kinds;
      one = kept.one;
    }

-- where the device stays
pub kept-same : (r : Part) (s : Shared) (d : ℕ) (x : Spot) (cells : Cells) → d < length s.spots → IsKept r s → x.fixture ≡ (spot_at s.spots d).fixture
    → IsKept r (record { cells = cells; spots = set s.spots d x })
kept-same r s d x cells lt kept fixture = kept-spot r s d x cells lt kept (λ k is. fixture ∙ kept.there d k is)

-- neither speaks of the words, or of what a program spooled; the first speaks of no marks
pub kept-cells : (q : Part) (s : Shared) (cells : Cells) → IsKept q s → IsKept q (record s { cells = cells })
kept-cells q s cells kept =
    record { few = kept.few; apart = kept.apart; there = kept.there; pooled = kept.pooled; kinds = kept.kinds; one = kept.one }

pub kept-marked : (q : Part) (s : Shared) (claimed : List Bool) → IsKept q s → IsKept (record q { claimed = claimed }) s
kept-marked q s claimed kept =
    record { few = kept.few; apart = kept.apart; there = kept.there; pooled = kept.pooled; kinds = kept.kinds; one = kept.one }

pub kept-spooled : (q : Part) (s : Shared) (spooled : List Spooled) → IsKept q s → IsKept (record q { spooled = spooled }) s
kept-spooled q s spooled kept =
    record { few = kept.few; apart = kept.apart; there = kept.there; pooled = kept.pooled; kinds = kept.kinds; one = kept.one }

pub active-spooled : (q : Part) (spooled : List Spooled) → IsActive q → IsActive (record q { spooled = spooled })
active-spooled q spooled active = record { sized = active.sized; marks = active.marks; none_left = active.none_left }

-- the mark of a device that isn't the pool's
pub active-marked : (q : Part) (d : ℕ) (is : Bool) → in_pool q d ≡ false → IsActive q → IsActive (record q { claimed = set q.claimed d is })
active-marked q d is own active =
    record {
      sized = length-set q.claimed d is ∙ active.sized;
      marks = λ e pooled. get_or-set_other q.claimed d e is false (λ same. cc (sym own ∙ (ap (in_pool q) (sym same) ∙ pooled))) ∙ active.marks e pooled;
      none_left = active.none_left;
    }

-- ---- a device of the pool that the program doesn't have is taken

pub record IsFree (q : Part) (t : ℕ) : Type 0 where
  pub pooled : in_pool q t ≡ true
  pub unlent : lends q.stints t ≡ false

-- the program that took it
abbrev pub taker : ℕ → Part → Part
taker t q = record q { claimed = set q.claimed t true; stints = q.stints ++ record { device = t; loan = Lent } ∷ [] }

or_none : (b : Bool) → (b || false) ≡ b
or_none true = refl
or_none false = refl

-- a device of the pool is none of the slot's
pub not_owned : (q : Part) (s : Shared) (d : ℕ) → IsKept q s → in_pool q d ≡ true → owns q.devices d ≡ false
not_owned q s d kept pooled =
    ⊎_elim (λ (own : owns q.devices d ≡ true). cc (sym (kept.apart d own) ∙ pooled)) (λ (not : owns q.devices d ≡ false). not) (cases_Bool (owns q.devices d))

-- so the program has it where a stint has it in its place
pub has_pooled : (q : Part) (s : Shared) (d : ℕ) → IsKept q s → in_pool q d ≡ true → has_device q d ≡ lends q.stints d
has_pooled q s d kept pooled = ap (λ b. b || lends q.stints d) (not_owned q s d kept pooled)

module _ (q : Part) (s : Shared) (t : ℕ) (kept : IsKept q s) (free : IsFree q t) where
  pub taken_kept : IsActive q → IsKept (taker t q) s
  taken_kept active =
      record {
        few = kept.few;
        apart = kept.apart;
        there = kept.there;
        pooled = All-push (λ (x : Keeping). in_pool q x.device ≡ true) q.stints (record { device = t; loan = Lent }) kept.pooled free.pooled;
        kinds = All-push (λ (x : Keeping). IsOfKind (pool_kind q x.device) x.loan) q.stints (record { device = t; loan = Lent }) kept.kinds refl;
        one = apart_push q.stints t kept.one (open_others q.stints t active.none_left free.unlent);
      }

  pub taken_there : lends (taker t q).stints t ≡ true
  taken_there = lends_push q.stints t t ∙ ap₂ (λ a b. a || b) free.unlent (eq-eqb t t refl)

  pub taken_elsewhere : (e : ℕ) → e ≢ t → lends (taker t q).stints e ≡ lends q.stints e
  taken_elsewhere e ne = lends_push q.stints t e ∙ ap (λ b. lends q.stints e || b) (ne_eqb t e (λ same. ne (sym same))) ∙ or_none (lends q.stints e)

  pub taken_active : IsActive q → IsActive (taker t q)
  taken_active active =
      record {
        sized = length-set q.claimed t true ∙ active.sized;
        marks = λ e pooled. ⊎_elim
            (λ (same : e ≡ t).
            ap (λ k. get_or (set q.claimed t true) k false) same
            ∙ get_or-set_same q.claimed t true false (let a = active.sized in let small = kept.few t free.pooled in omega (arith, limit_is))
            ∙ sym (ap (lends (taker t q).stints) same ∙ taken_there))
            (λ (ne : e ≢ t). get_or-set_other q.claimed t e true false ne ∙ active.marks e pooled ∙ sym (taken_elsewhere e ne))
            (cases_eq e t);
        none_left = All-push IsNotLeft q.stints (record { device = t; loan = Lent }) active.none_left refl;
      }

  -- it has moved nothing
  module _ (fresh : (spot_at s.spots t).progress ≡ new_progress) where
    -- so its progress is as that of a device that isn't the program's
    taken_progress : IsActive q → own_progress (taker t q) s.spots ≡ own_progress q s.spots
    taken_progress active =
        fun_ext
        (λ e. ⊎_elim
        (λ (same : e ≡ t).
        ap (own_progress (taker t q) s.spots) same
        ∙ ap (λ b. cond b (spot_at s.spots t).progress (left_in (taker t q).stints t)) (or_right (owns q.devices t) (lends (taker t q).stints t) taken_there)
        ∙ fresh
        ∙ sym (ap (own_progress q s.spots) same
        ∙ ap (λ b. cond b (spot_at s.spots t).progress (left_in q.stints t)) (has_pooled q s t kept free.pooled ∙ free.unlent)
        ∙ none_kept q.stints t active.none_left))
        (λ (ne : e ≢ t).
        ap₂ (λ b p. cond (owns q.devices e || b) (spot_at s.spots e).progress p) (taken_elsewhere e ne)
        (none_kept (taker t q).stints e (All-push IsNotLeft q.stints (record { device = t; loan = Lent }) active.none_left refl)
        ∙ sym (none_kept q.stints e active.none_left)))
        (cases_eq e t))

    pub taken_own : IsActive q → (n : ℕ) → own_stock (taker t q) (n + 1) s ≡ taking t (record (own_stock q n s) { asked = n + 1 })
    taken_own active n =
        ap₂ (λ xs ps. parted xs (by_number ps)) (map_push stint_of q.stints (record { device = t; loan = Lent })) (taken_progress active)
      where
        parted : List StintState → List DeviceProgress → Stock
        parted xs ps = record {
          claims = record {
            size = q.size;
            claimed = set q.claimed t true;
            fixtures = by_number (own_fixture q s.spots);
            pool =
                q.pool;
            served = q.served;
          };
          spooled = q.spooled;
          asked = n + 1;
          stints = xs;
          store = own_words q.base q.size s.cells (leases_of s.spots);
          devices = ps;
        }

-- ---- the device of a program leaves it

-- a device of the pool is the program's, and has no transfer
pub record IsIts (q : Part) (s : Shared) (d : ℕ) : Type 0 where
  pub pooled : in_pool q d ≡ true
  pub lent : lends q.stints d ≡ true
  pub idle : (spot_at s.spots d).flight ≡ None

-- the program, with these marks, whose stint has this device so
abbrev pub giver : List Bool → ℕ → Loan → Part → Part
giver claimed d loan q = record q { claimed = claimed; stints = map (with_loan d loan) q.stints }

abbrev pub emptied : ℕ → Shared → Shared
emptied d s = with_spot d (blank_spot (spot_at s.spots d)) s

-- what stands at each number, where one is another
pub number-set : {X : Type 0} (f g : ℕ → X) (d : ℕ) (x : X) → d < device_count → g d ≡ x → ((e : ℕ) → e ≢ d → g e ≡ f e) → by_number g ≡ set (by_number f) d x
number-set f g d x small here others =
    ext_get_or x _ _
    (length-numbers g ∙ sym (length-set (by_number f) d x ∙ length-numbers f))
    (λ i within.
    let i_lt : i < device_count = omega (arith, length-numbers g) in
    number_at g i x i_lt
    ∙ ⊎_elim
    (λ (same : i ≡ d).
    ap g same ∙ here
    ∙ sym (ap (λ j. get_or (set (by_number f) d x) j x) same ∙ get_or-set_same (by_number f) d x x (omega (arith, length-numbers f))))
    (λ (ne : i ≢ d).
    others i ne ∙ sym (get_or-set_other (by_number f) d i x x ne ∙ number_at f i x i_lt))
    (cases_eq i d))

module _ (q : Part) (s : Shared) (d : ℕ) (inside : d < length s.spots) (kept : IsKept q s) (its : IsIts q s d) where
  abbrev was : Spot
  was = spot_at s.spots d

  -- it is a blank one of its kind, but for what it moved
  pub back_kind : option_map blank_fixture (pool_kind q d) ≡ Some (fixture_or was.fixture)
  back_kind = of (pool_kind q d) refl its.pooled
    where
      of : (o : Option Kind) → pool_kind q d ≡ o → is_some o ≡ true → option_map blank_fixture o ≡ Some (fixture_or was.fixture)
      of None is some = cc
      of (Some k) is some = sym (ap (λ f. Some (fixture_or f)) (kept.there d k is))

  module _ (claimed : List Bool) (loan : Loan) (of_kind : IsOfKind (pool_kind q d) loan) (not_lent : is_lent loan ≡ false) where
    pub given_kept : IsKept (giver claimed d loan q) (emptied d s)
    given_kept =
        record {
          few = kept.few;
          apart = kept.apart;
          there = at_spot s.spots d (blank_spot was) inside (λ e y. (k : Kind) → pool_kind q e ≡ Some k → y.fixture ≡ Some (blank_fixture k))
              (λ k is. ap (option_map (λ (f : Fixture). blank_fixture f.kind)) (kept.there d k is)) (λ e ne. kept.there e);
          pooled = All-map (λ (y : Keeping). in_pool q y.device ≡ true) (with_loan d loan) q.stints
              (λ k z lt. ap (in_pool q) (device_with d loan (get_or q.stints k z)) ∙ kept.pooled k z lt);
          kinds = All-map (λ (y : Keeping). IsOfKind (pool_kind q y.device) y.loan) (with_loan d loan) q.stints
              (λ k z lt. by_open (λ y. IsOfKind (pool_kind q y.device) y.loan) d loan (get_or q.stints k z)
              (λ is. subst (λ e. IsOfKind (pool_kind q e) loan) (sym (eqb-true (get_or q.stints k z).device d (and_parts _ _ is).0)) of_kind)
              (λ _. kept.kinds k z lt));
          one = apart_with q.stints d loan kept.one;
        }

    pub given_none : is_left loan ≡ false → IsActive q → All IsNotLeft (map (with_loan d loan) q.stints)
    given_none not_left active =
        All-map IsNotLeft (with_loan d loan) q.stints
        (λ k z lt. by_open IsNotLeft d loan (get_or q.stints k z) (λ _. not_left) (λ _. active.none_left k z lt))

    -- without its mark, where the program goes on
    pub given_active : is_left loan ≡ false → IsActive q → IsActive (giver (set q.claimed d false) d loan q)
    given_active not_left active =
        record {
          sized = length-set q.claimed d false ∙ active.sized;
          marks = λ e pooled. ⊎_elim
              (λ (same : e ≡ d).
              ap (λ k. get_or (set q.claimed d false) k false) same
              ∙ get_or-set_same q.claimed d false false (let a = active.sized in let small = kept.few d its.pooled in omega (arith, limit_is))
              ∙ sym (ap (lends (map (with_loan d loan) q.stints)) same ∙ lends_here q.stints d loan not_lent))
              (λ (ne : e ≢ d). get_or-set_other q.claimed d e false false ne ∙ active.marks e pooled ∙ sym (lends_there q.stints d e loan ne))
              (cases_eq e d);
          none_left = given_none not_left active;
        }

module _ (q : Part) (s : Shared) (d : ℕ) (sound : IsSound s) (kept : IsKept q s) (its : IsIts q s d) where
  gone_small : d < device_count
  gone_small = kept.few d its.pooled

  pub gone_inside : d < length s.spots
  gone_inside = let e = sound.spots in let small = gone_small in omega arith

  abbrev x : Spot
  x = spot_at s.spots d

  pub gone_sound : IsSound (emptied d s)
  gone_sound = sound-idle s d (blank_spot x) sound gone_small its.idle refl

  -- the device is in a stint's place
  gone_open : list_any (is_open_of d) q.stints ≡ true
  gone_open = lends_open q.stints d its.lent

  pub has_it : has_device q d ≡ true
  has_it = or_right (owns q.devices d) (lends q.stints d) its.lent

  -- it is a blank one of its kind, but for what it moved
  pub gone_kind : option_map blank_fixture (pool_kind q d) ≡ Some (fixture_or x.fixture)
  gone_kind = back_kind q s d gone_inside kept its

  module _ (claimed : List Bool) (loan : Loan) (of_kind : IsOfKind (pool_kind q d) loan) (not_lent : is_lent loan ≡ false) where
    pub gone_kept : IsKept (giver claimed d loan q) (emptied d s)
    gone_kept = given_kept q s d gone_inside kept its claimed loan of_kind not_lent

    none_left : is_left loan ≡ false → IsActive q → All IsNotLeft (map (with_loan d loan) q.stints)
    none_left = given_none q s d gone_inside kept its claimed loan of_kind not_lent

    -- the program has it no longer
    pub gone_from : has_device (giver claimed d loan q) d ≡ false
    gone_from = ap₂ (λ a b. a || b) (not_owned q s d kept its.pooled) (lends_here q.stints d loan not_lent)

    pub gone_active : is_left loan ≡ false → IsActive q → IsActive (giver (set q.claimed d false) d loan q)
    gone_active = given_active q s d gone_inside kept its claimed loan of_kind not_lent

  -- what is shown where it is given back
  gone_progress : IsActive q → by_number (own_progress (giver (set q.claimed d false) d (back_from x) q) (emptied d s).spots)
      ≡ set (by_number (own_progress q s.spots)) d new_progress
  gone_progress active =
      number-set (own_progress q s.spots) (own_progress (giver (set q.claimed d false) d (back_from x) q) (emptied d s).spots) d new_progress gone_small
      (ap (progress_in (giver (set q.claimed d false) d (back_from x) q) d) (get_or-set_same s.spots d (blank_spot x) no_spot gone_inside)
      ∙ ap (λ b. cond b new_progress (left_in (map (with_loan d (back_from x)) q.stints) d)) (gone_from (set q.claimed d false) (back_from x) gone_kind refl)
      ∙ none_kept (map (with_loan d (back_from x)) q.stints) d (none_left (set q.claimed d false) (back_from x) gone_kind refl refl active))
      (λ e ne.
      ap (progress_in (giver (set q.claimed d false) d (back_from x) q) e) (get_or-set_other s.spots d e (blank_spot x) no_spot ne)
      ∙ ap₂ (λ b p. cond (owns q.devices e || b) (spot_at s.spots e).progress p) (lends_there q.stints d e (back_from x) ne)
      (left_there q.stints d e (back_from x) ne))

  pub gone_own : IsActive q → (n : ℕ) → own_stock (giver (set q.claimed d false) d (back_from x) q) n (emptied d s) ≡ begun (Releases true d) (own_stock q n s)
  gone_own active n =
      ap₂ (λ fs ls. parted (by_number fs) (map stint_of (map (with_loan d (back_from x)) q.stints)) (own_words q.base q.size s.cells ls)
      (by_number (own_progress (giver (set q.claimed d false) d (back_from x) q) (emptied d s).spots)))
      (fixtures-set q s.spots d (blank_spot x) gone_inside (λ has. cc (sym (kept.apart d has) ∙ its.pooled)))
      (leases-idle s.spots d (blank_spot x) gone_inside its.idle refl)
      ∙ ap₂ (λ xs ps. parted (by_number (own_fixture q s.spots)) xs (own_words q.base q.size s.cells (leases_of s.spots)) ps)
      (stints_back q.stints d (fixture_or x.fixture) x.progress
      ∙ ap (λ p. map (handed d p) (map stint_of q.stints)) (sym (own_device q n s d gone_small has_it)))
      (gone_progress active)
    where
      parted : List (Option Fixture) → List StintState → List ℕ → List DeviceProgress → Stock
      parted fs xs ws ps = record {
        claims = record { size = q.size; claimed = set q.claimed d false; fixtures = fs; pool = q.pool; served = q.served };
        spooled = q.spooled;
        asked = n;
        stints = xs;
        store = ws;
        devices = ps;
      }

  -- nothing, where the program is over and keeps it
  left_progress : own_progress (giver q.claimed d (Left (fixture_or x.fixture) x.progress) q) (emptied d s).spots ≡ own_progress q s.spots
  left_progress =
      fun_ext
      (at_spot s.spots d (blank_spot x) gone_inside (λ e y. progress_in (giver q.claimed d (Left (fixture_or x.fixture) x.progress) q) e y
      ≡ own_progress q s.spots e)
      (ap (λ b. cond b new_progress (left_in (map (with_loan d (Left (fixture_or x.fixture) x.progress)) q.stints) d))
      (gone_from q.claimed (Left (fixture_or x.fixture) x.progress) gone_kind refl)
      ∙ left_here q.stints d (fixture_or x.fixture) x.progress gone_open
      ∙ sym (ap (λ b. cond b x.progress (left_in q.stints d)) has_it))
      (λ e ne. ap₂ (λ b p. cond (owns q.devices e || b) (spot_at s.spots e).progress p) (lends_there q.stints d e (Left (fixture_or x.fixture) x.progress) ne)
      (left_there q.stints d e (Left (fixture_or x.fixture) x.progress) ne)))

  pub left_own : (n : ℕ) → own_stock (giver q.claimed d (Left (fixture_or x.fixture) x.progress) q) n (emptied d s) ≡ own_stock q n s
  left_own n =
      ap₂ (λ fs ls. parted (by_number fs) (map stint_of (map (with_loan d (Left (fixture_or x.fixture) x.progress)) q.stints))
      (own_words q.base q.size s.cells ls) (by_number (own_progress (giver q.claimed d (Left (fixture_or x.fixture) x.progress) q) (emptied d s).spots)))
      (fixtures-set q s.spots d (blank_spot x) gone_inside (λ has. cc (sym (kept.apart d has) ∙ its.pooled)))
      (leases-idle s.spots d (blank_spot x) gone_inside its.idle refl)
      ∙ ap₂ (λ xs ps. parted (by_number (own_fixture q s.spots)) xs (own_words q.base q.size s.cells (leases_of s.spots)) (by_number ps))
      (stints_left q.stints d (fixture_or x.fixture) x.progress)
      left_progress
    where
      parted : List (Option Fixture) → List StintState → List ℕ → List DeviceProgress → Stock
      parted fs xs ws ps = record { claims = claims q fs; spooled = q.spooled; asked = n; stints = xs; store = ws; devices = ps }

  -- and to another program, whose it isn't
  module _ (r : Part) (not_its : has_device r d ≡ false) where
    pub gone_other : (n : ℕ) → own_stock r n (emptied d s) ≡ own_stock r n s
    gone_other n =
        stock-idle r n s d (blank_spot x) gone_inside its.idle refl (λ has. cc (sym (or_parts (owns r.devices d) (lends r.stints d) not_its).0 ∙ has))
        (progress-same r d (blank_spot x) x (λ has. cc (sym not_its ∙ has)))

    pub gone_other_kept : IsKept r s → IsKept r (emptied d s)
    gone_other_kept other =
        kept-spot r s d (blank_spot x) s.cells gone_inside other
        (λ k is. ap (option_map (λ (f : Fixture). blank_fixture f.kind)) (other.there d k is))
