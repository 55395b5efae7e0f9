-- The devices of a program that is over leave their places, one after the other.
use Rattle.std.proofs.Common.{◌≡◌, ℕ, suc, ◌+◌, ◌<◌, Bool, true, false, cond, List, length, get_or, map, set, Option, sym, ap, ap₂, ◌∙◌, arith}
use Rattle.std.proofs.lemmas.List.{get_or-map, map-set}
use Rattle.kdf_processor.specs.declared.registers.Registers.{Registers}
use Rattle.kdf_processor.specs.declared.spooled.Spooled.{Spooled}
use Rattle.kdf_processor.specs.declared.step.Step.{Step}
use Rattle.kdf_processor.specs.Lone.{is_live}
use Rattle.kdf_lockout.specs.Groups.{Cells}
use Rattle.kdf_yard.specs.declared.moment.Moment.{Moment}
use Rattle.kdf_yard.specs.declared.remark.Remark.{Remark}
use Rattle.kdf_yard.specs.declared.stint.Stint.{Stint}
use Rattle.kdf_yard.specs.Fields.Parts.{Reach, Seat, seat}
use Rattle.kdf_places.specs.Shared.{Shared}
use Rattle.kdf_yard.specs.Fields.Settled.{Both, both_of, kept_from, leaves, retired, retired_at, settled}
use Rattle.kdf_places.specs.Spots.{Spot, spot_at}
use Rattle.kdf_yard.specs.Fields.Stints.{Keeping, keeping_of, no_keeping}
use Rattle.kdf_yard.specs.Fields.Turned.{HasRun, HasTried}

abbrev share : Cells → List Spot → Shared
share cells spots = record { cells = cells; spots = spots }

-- the device of one stint
pub retired_one : (cells : Cells) (p : ℕ) (r : Registers) (claimed : List Bool) (spooled : List Spooled) (stints : List Stint) (spots spots' : List Spot)
    (i : ℕ) (x x' y : Stint) → i < length stints → x ≡ get_or stints i y → keeping_of x' ≡ kept_from (keeping_of x) (spot_at spots x.d)
    → spots' ≡ set spots x.d (leaves (keeping_of x) (spot_at spots x.d)) → both_of (seat p r claimed spooled (map keeping_of (set stints i x')))
    (share cells spots') ≡ retired_at i (both_of (seat p r claimed spooled (map keeping_of stints)) (share cells spots))
retired_one cells p r claimed spooled stints spots spots' i x x' y lt here stint spot =
    let at : keeping_of x ≡ get_or (map keeping_of stints) i no_keeping = ap keeping_of here ∙ sym (get_or-map keeping_of stints i y no_keeping lt) in
    ap₂ (λ ks ss. both_of (seat p r claimed spooled ks) (share cells ss)) (map-set keeping_of stints i x' ∙ ap (set (map keeping_of stints) i) stint) spot
    ∙ ap (λ (k : Keeping). both_of (seat p r claimed spooled (set (map keeping_of stints) i (kept_from k (spot_at spots k.device))))
    (share cells (set spots k.device (leaves k (spot_at spots k.device))))) at

-- and so of one more
pub retired_more : (i : ℕ) (first before after : Both) → before ≡ retired i first → after ≡ retired_at i before → after ≡ retired (i + 1) first
retired_more i first before after so step =
    step ∙ ap (retired_at i) so ∙ ap (λ n. retired n first) (let e : suc i ≡ i + 1 = omega arith in e)

-- a program that is over gives all of them up, and a live one none
pub settled_over : (b x : Both) (n : ℕ) → is_live b.seat.registers.state ≡ false → length b.seat.stints ≡ n → x ≡ retired n b → x ≡ settled b
settled_over b x n over many is =
    is ∙ ap (λ k. retired k b) (sym many) ∙ sym (ap (λ l. cond l b (retired (length b.seat.stints) b)) over)

pub settled_on : (b : Both) → is_live b.seat.registers.state ≡ true → b ≡ settled b
settled_on b live = sym (ap (λ l. cond l b (retired (length b.seat.stints) b)) live)

-- after its order
pub run_by : (reach : Reach) (held : ℕ → Option ℕ) (m : Moment) (before : Seat) (s : Shared) (mid : Seat) (between : Shared) (after : Seat) (left : Shared)
    (ended : Step) (noted : Remark) → HasTried reach held m before s mid between ended noted → both_of after left ≡ settled (both_of mid between)
    → HasRun reach held m before s after left ended noted
run_by reach held m before s mid between after left ended noted tried is =
    record { step = tried.step; note = tried.note; both = is ∙ ap₂ (λ a b. settled (both_of a b)) tried.program tried.shared }
