-- Which orders have an area, and how many words it has.
use Rattle.std.proofs.Common.{◌≡◌, ℕ, ◌+◌, ◌-◌, ◌<◌, true, false, cond, sym, ap, ◌∙◌, ⊎_elim, arith}
use Rattle.std.specs.Prelude.{◌||◌}
use Rattle.std.proofs.lemmas.Bool.{or_left, or_right, cases_Bool}
use Rattle.kdf_transfer.specs.declared.order.TransferOrder.{TransferOrder}
use Rattle.kdf_transfer.specs.AtOnce.{is_input, is_output, has_area, area_len}

pub input_has : (o : TransferOrder) → is_input o ≡ true → has_area o ≡ true
input_has o is = or_left (is_input o) (is_output o) is

pub output_has : (o : TransferOrder) → is_output o ≡ true → has_area o ≡ true
output_has o is = or_right (is_input o) (is_output o) is

pub area_has : (o : TransferOrder) → has_area o ≡ true → is_input o ≡ false → is_output o ≡ true
area_has o has not = ap (λ x. x || is_output o) (sym not) ∙ has

pub len_is : (o : TransferOrder) (first last : ℕ) → has_area o ≡ true → area_len o first last ≡ last + 1 - first
len_is o first last has = ap (λ b. cond b (last + 1 - first) 0) has

-- an order whose area has a word has an area
pub len_has : (o : TransferOrder) (first last i : ℕ) → i < area_len o first last → has_area o ≡ true
len_has o first last i lt =
    ⊎_elim
    (λ (has : has_area o ≡ true). has)
    (λ (none : has_area o ≡ false). absurd (let e : area_len o first last ≡ 0 = ap (λ b. cond b (last + 1 - first) 0) none in omega arith))
    (cases_Bool (has_area o))
