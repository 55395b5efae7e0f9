-- A transfer begins: the lease of its area, and the store.
use Rattle.std.proofs.Common.{◌≡◌, ℕ, ◌+◌, ◌/◌, ◌≤◌, true, false, List, ◌++◌, length, take, drop, replicate, Option, Some, None, cond, refl, sym, ap, ◌∙◌}
use Rattle.std.proofs.Common.{subst, ⊎_elim, arith, length-take, length-drop, length-append}
use Rattle.std.proofs.lemmas.Bool.{cases_Bool}
use Rattle.std.proofs.lemmas.List.{length-map, length-replicate}
use Rattle.kdf_lockout.specs.Groups.{Cells, words_in, lent_groups, without_groups, touched}
use Rattle.kdf_transfer.specs.declared.order.TransferOrder.{TransferOrder}
use Rattle.kdf_transfer.specs.AtOnce.{has_area}
use Rattle.kdf_transfer.specs.InFlight.{Covers}
use Rattle.kdf_places.specs.Transfers.{start_lease, start_cells, IsFreeArea}

lent_count : (cells : Cells) (first n : ℕ) → first + n ≤ length cells → length (lent_groups cells first n).groups ≡ n
unfolding lent_groups
lent_count cells first n fits = omega (arith, length-map (take n (drop first cells)) words_in, length-take n (drop first cells), length-drop first cells)

lent_first : (cells : Cells) (first n : ℕ) → (lent_groups cells first n).first ≡ first
unfolding lent_groups
lent_first cells first n = refl

-- the lease of a free area covers it
pub start_covers : (o : TransferOrder) (first last : ℕ) (cells : Cells) → has_area o ≡ true → IsFreeArea cells first last
    → Covers (start_lease o first last cells) first last
start_covers o first last cells has h =
    let rising = h.rising in
    let inside = h.inside in
    let fits : first / 32 + touched first last ≤ length cells = omega arith in
    let covers : Covers (Some (lent_groups cells (first / 32) (touched first last))) first last =
    record {
      rising = h.rising;
      first_group = lent_first cells (first / 32) (touched first last);
      count =
          lent_count cells (first / 32) (touched first last) fits;
      few = h.few;
    } in
    subst (λ b. Covers (cond b (Some (lent_groups cells (first / 32) (touched first last))) None) first last) (sym has) covers

without_count : (cells : Cells) (f n : ℕ) → f + n ≤ length cells → length (without_groups cells f n) ≡ length cells
unfolding without_groups
without_count cells f n fits =
    omega (
      arith,
      length-append (take f cells) (replicate n None ++ drop (f + n) cells),
      length-append (replicate n None) (drop (f + n) cells),
      length-take f cells,
      length-drop (f + n) cells,
      length-replicate n (let o : Option (List ℕ) = None in o),
    )

-- the store keeps its length
pub length-start : (o : TransferOrder) (first last : ℕ) (cells : Cells) → (has_area o ≡ true → IsFreeArea cells first last)
    → length (start_cells o first last cells) ≡ length cells
length-start o first last cells h =
    ⊎_elim
    (λ (has : has_area o ≡ true).
    let free = h has in
    let rising = free.rising in
    let inside = free.inside in
    let fits : first / 32 + touched first last ≤ length cells = omega arith in
    ap (λ b. length (cond b (without_groups cells (first / 32) (touched first last)) cells)) has ∙ without_count cells (first / 32) (touched first last) fits)
    (λ (not : has_area o ≡ false). ap (λ b. length (cond b (without_groups cells (first / 32) (touched first last)) cells)) not)
    (cases_Bool (has_area o))
