-- A transfer that may begin: no group of its area is out.
use Rattle.std.proofs.Common.{◌≡◌, ℕ, ◌+◌, ◌-◌, ◌*◌, ◌/◌, ◌%◌, ◌≤◌, Bool, true, false, [], ◌∷◌, length, map, Some, None, cond, sym, ap, ap₂, ◌∙◌, ⊎_elim, arith}
use Rattle.std.specs.Prelude.{find}
use Rattle.std.specs.Option.{option_map}
use Rattle.std.specs.List.{range_with_len}
use Rattle.std.proofs.lemmas.Bool.{cases_Bool}
use Rattle.kdf_lockout.specs.Groups.{Cells, is_out}
use Rattle.kdf_transfer.specs.declared.order.TransferOrder.{TransferOrder}
use Rattle.kdf_transfer.specs.AtOnce.{has_area, IsArea}
use Rattle.kdf_journal.specs.declared.need.Need.TheVariants.{Group, Device}
use Rattle.kdf_processor.specs.View.{groups_of, order_groups}
use Rattle.kdf_processor.specs.View.{View, first_pending}
use Rattle.kdf_processor.proofs.Pending.{none_out_behind}
use Rattle.kdf_lockout.specs.Groups.{touched}
use Rattle.kdf_places.specs.Transfers.{IsFreeArea}
use Rattle.kdf_yard.proofs.Physical.ShiftedRanges.{find_shift}

-- the groups of an order's area, none of which is out
pub free_groups : (p : ℕ → Bool) (o : TransferOrder) (first last : ℕ) → find p (order_groups o first last) ≡ None → has_area o ≡ true
    → find p (groups_of first last) ≡ None
free_groups p o first last none has = ap (λ b. find p (cond b (groups_of first last) [])) (sym has) ∙ none

-- a device without a transfer, and an area none of whose groups is out
pub free_start : (v : View) (d : ℕ) (o : TransferOrder) (first last : ℕ) → first_pending v (Device d ∷ map Group (order_groups o first last)) ≡ None
    → (v.is_busy d ≡ false) × (find v.is_out (order_groups o first last) ≡ None)
free_start v d o first last none = (busy, none_out_behind v d (order_groups o first last) none)
  where
    busy : v.is_busy d ≡ false
    busy =
        ⊎_elim
        (λ (is : v.is_busy d ≡ true). cc (sym (ap (λ b. cond b (Some (Device d)) (first_pending v (map Group (order_groups o first last)))) is) ∙ none))
        (λ (not : v.is_busy d ≡ false). not)
        (cases_Bool (v.is_busy d))

-- the area of a transfer that may begin, in places of the store
pub free_area : (cells : Cells) (base size first last : ℕ) → base % 32 ≡ 0 → base + size ≤ 32 * length cells → IsArea first last size
    → find (λ g. is_out cells (base / 32 + g)) (groups_of first last) ≡ None → IsFreeArea cells (base + first) (base + last)
free_area cells base size first last at fits area none =
    let rising = area.rising in
    let inside = area.inside in
    let few = area.few in
    let low : (base + first) / 32 ≡ base / 32 + first / 32 = omega arith in
    let count : touched (base + first) (base + last) ≡ last / 32 + 1 - first / 32 = omega arith in
    record {
      rising = omega arith;
      few = omega arith;
      inside = omega arith;
      free =
          ap₂ (λ f n. find (is_out cells) (range_with_len f n)) low count
          ∙ find_shift (is_out cells) (base / 32) (first / 32) (last / 32 + 1 - first / 32)
          ∙ ap (option_map (λ g. base / 32 + g)) none;
    }
