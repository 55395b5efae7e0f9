-- What reading the whole table shows.
use Rattle.std.proofs.Common.{◌≡◌, ℕ, ◌<◌, ◌≤◌, true, false, not, Option, Some, None, IfSome, get_or, map, eqb, ltb, ltb-true, eqb-true, refl, inl, inr, sym}
use Rattle.std.proofs.Common.{◌∙◌, ap, arith}
use Rattle.std.specs.Bool.{then_some}
use Rattle.std.specs.Option.{unwrap_or}
use Rattle.std.specs.List.{range_with_len, list_all}
use Rattle.std.proofs.lemmas.Bool.{cases_lt}
use Rattle.std.proofs.lemmas.Bool.Decides.{nat_tests}
use Rattle.std.proofs.lemmas.List.{get_or_past}
use Rattle.std.proofs.lemmas.List.FromFn.{get_or-map-range_with_len}
use Rattle.std.proofs.lemmas.List.Quantifiers.{position-Some}
use Rattle.std.proofs.lemmas.List.Recursion.{and_at}
use Rattle.kdf_code.specs.declared.code.TheConstants.{HOST, CODES, OFF}
use Rattle.kdf_code.specs.Code.{code_of, host_of}

-- each code is the code of its byte
each_code : map (λ code. code_of (host_of code)) (range_with_len 0 64) ≡ map Some (range_with_len 0 64)
unfolding code_of host_of
each_code = refl

-- the second table has the code of each byte below 128, or 64
each_byte : map (λ byte. unwrap_or (code_of byte) OFF) (range_with_len 0 128) ≡ CODES
unfolding code_of
each_byte = refl

IfSome-from : (o : Option ℕ) (P : ℕ → Type 0) → ((x : ℕ) → o ≡ Some x → P x) → IfSome o P
IfSome-from None P h = tt
IfSome-from (Some x) P h = h x refl

-- all bytes of the table are below 128
each_ascii : list_all (λ byte. ltb byte 128) HOST ≡ true
each_ascii = refl

pub code_of-host_of : (code : ℕ) → code < 64 → code_of (host_of code) ≡ Some code
code_of-host_of code h =
    sym (get_or-map-range_with_len (λ c. code_of (host_of c)) 0 64 code code None h (omega arith))
    ∙ ap (λ codes. get_or codes code None) each_code
    ∙ get_or-map-range_with_len Some 0 64 code code None h (omega arith)

pub host_of-code_of : (byte code : ℕ) → code_of byte ≡ Some code → (code < 64) × (host_of code ≡ byte)
unfolding code_of host_of
host_of-code_of byte code e =
    let found = position-Some (λ b. eqb b byte) HOST code 0 e in (found.0, eqb-true _ _ found.1)

pub host_of-ascii : (code : ℕ) → code < 64 → host_of code < 128
unfolding host_of
host_of-ascii code h =
    ltb-true _ _ (and_at (list_all (λ byte. ltb byte 128)) (λ byte. ltb byte 128) refl (λ _ _. refl) HOST code 0 h each_ascii)

pub code_of-below : (byte : ℕ) → IfSome (code_of byte) (λ code. code < 64)
code_of-below byte =
    IfSome-from (code_of byte) (λ code. code < 64) (λ code e. (host_of-code_of byte code e).0)

none_from : (o : Option ℕ) → ((code : ℕ) → o ≡ Some code → ⊥) → o ≡ None
none_from None h = refl
none_from (Some code) h = absurd (h code refl)

code_of-not_ascii : (byte : ℕ) → 128 ≤ byte → code_of byte ≡ None
code_of-not_ascii byte h =
    none_from (code_of byte) (λ code e. let found = host_of-code_of byte code e in let ascii = host_of-ascii code found.0 in omega arith)

-- the second table has the code of each byte, and nothing past its end
pub get_or-CODES : (byte : ℕ) → get_or CODES byte OFF ≡ unwrap_or (code_of byte) OFF
get_or-CODES byte =
    elim (cases_lt byte 128) [
      | inl below ↦ sym (ap (λ codes. get_or codes byte OFF) each_byte) ∙ get_or-map-range_with_len (λ b. unwrap_or (code_of b) OFF) 0 128 byte byte OFF below
          (omega arith)
      | inr above ↦ get_or_past CODES byte OFF above ∙ sym (ap (λ o. unwrap_or o OFF) (code_of-not_ascii byte above))
    ]

-- a code of which 64 means none, read as an option
pub then_some-unwrap_or : (o : Option ℕ) → IfSome o (λ code. code < 64) → then_some (not (eqb (unwrap_or o OFF) OFF)) (unwrap_or o OFF) ≡ o
then_some-unwrap_or None h = refl
then_some-unwrap_or (Some code) h =
    let other : eqb code 64 ≡ false = grind (arith, nat_tests) in rw other
