-- Words that are written into a list, and words of a list that go out.
use Rattle.std.proofs.Common.{◌≡◌, ℕ, ◌+◌, ◌-◌, ◌<◌, ◌≤◌, ◌++◌, true, List, [], ◌∷◌, length, get_or, take, cond, refl, sym, ap, ◌∙◌, arith, length-take, ◌*◌}
use Rattle.std.specs.Prelude.{slice_set}
use Rattle.std.proofs.lemmas.List.{take_all}
use Rattle.kdf_word.specs.Characters.{codes_of_all}
use Rattle.kdf_transfer.specs.declared.order.TransferOrder.{TransferOrder}
use Rattle.kdf_transfer.specs.Devices.{Fixture, DeviceProgress}
use Rattle.kdf_transfer.specs.AtOnce.{is_input, is_output, area_len, given, stopped, offered, addressed, place_of, written, order_words, stored}
use Rattle.kdf_transfer.proofs.Addresses.{addressed-drop, length-addressed, take_two}
use Rattle.kdf_transfer.proofs.Areas.{input_has, len_is}
use Rattle.kdf_transfer.proofs.Codes.{length-codes}

written-append : (xs ys : List (ℕ × ℕ)) (ws : List ℕ) → written (xs ++ ys) ws ≡ written ys (written xs ws)
written-append [] ys ws = refl
written-append (x ∷ xs) ys ws = written-append xs ys (slice_set ws x.0 x.1)

-- one word more
pub written_next : (o : TransferOrder) (first last i w : ℕ) (moved ws : List ℕ) → i < length moved → w ≡ get_or moved i 0
    → slice_set (written (take i (addressed o first last moved)) ws) (place_of o first last i) w ≡ written (take (i + 1) (addressed o first last moved)) ws
written_next o first last i w moved ws lt is =
    ap (λ x. slice_set (written (take i ms) ws) (place_of o first last i) x) is
    ∙ sym (written-append (take i ms) ((place_of o first last i, get_or moved i 0) ∷ []) ws)
    ∙ ap (λ xs. written (take i ms ++ take 1 xs) ws) (sym (addressed-drop o first last i moved lt))
    ∙ ap (λ xs. written xs ws) (take_two i 1 ms)
  where
    ms : List (ℕ × ℕ)
    ms = addressed o first last moved

-- all words
pub written_all : (o : TransferOrder) (first last i : ℕ) (moved ws : List ℕ) → i ≡ length moved → written (take i (addressed o first last moved)) ws
    ≡ written (addressed o first last moved) ws
written_all o first last i moved ws all =
    ap (λ xs. written xs ws) (take_all i (addressed o first last moved) (omega (arith, length-addressed o first last moved)))

-- what an input order stores, and what no other does
pub stored_input : (o : TransferOrder) (first last : ℕ) (ws : List ℕ) (f : Fixture) (p : DeviceProgress) → is_input o ≡ true
    → written (addressed o first last (stopped o (take (last + 1 - first) (given o f p)))) ws ≡ stored o first last ws f p
unfolding offered
stored_input o first last ws f p is =
    sym (ap (λ b. cond b (written (addressed o first last
    (stopped o (cond b (take (last + 1 - first) (given o f p)) (cond (is_output o) (order_words o first last ws) [])))) ws) ws) is)

-- how many words are written, by the number of words of the area
pub counted : (o : TransferOrder) (first last n t : ℕ) (g : List ℕ) → is_input o ≡ true → n ≡ area_len o first last → t ≡ length (stopped o (take n g))
    → t ≡ length (stopped o (take (last + 1 - first) g))
counted o first last n t g is n-is t-is = t-is ∙ ap (λ k. length (stopped o (take k g))) (n-is ∙ len_is o first last (input_has o is))

-- there is room for the characters of one word more
pub room_for : (codes ws : List ℕ) (i room : ℕ) → codes ≡ codes_of_all (take i ws) → i < length ws → 8 * length ws ≤ room → length codes + 8 ≤ room
room_for codes ws i room is lt fits =
    let size : length codes ≡ 8 * length (take i ws) = ap length is ∙ length-codes (take i ws) in
    omega (arith, length-take i ws)
