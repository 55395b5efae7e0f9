-- Jumps: targets, conditions, and what they say.
use Rattle.std.specs.Prelude.{ℕ, ◌+◌, ◌==◌, List, [], ◌∷◌, ◌++◌, length, slice_index, Option, Some, None, if◌then◌else◌}
use lib.Chars.{codes}
use Rattle.kdf_usercode.specs.declared.range.Range.{Range}
use Rattle.kdf_usercode.specs.declared.statement.Target.{Target}
use Rattle.kdf_usercode.specs.declared.statement.What.{What}
use Rattle.kdf_usercode.specs.declared.statement.What.TheVariants as whats
use Rattle.kdf_usercode.specs.declared.jumps.Test.{Test}
use Rattle.kdf_usercode.specs.declared.jumps.Test.TheVariants.{Of, CountZero, CountNotZero}
use Rattle.kdf_usercode.specs.declared.jumps.TargetForm.{TargetForm}
use Rattle.kdf_usercode.specs.declared.jumps.TargetForm.TheVariants.{Reference, Part, Both}
use Rattle.kdf_usercode.specs.Parse.{◌>>=◌, ◌or◌, opt_map, row_in, strip}
use Rattle.kdf_usercode.specs.Range.{q_range, reference_range, part_range}

-- ---- forms

-- what may stand after the target, with `0` where a number stands
abbrev pub conditions : List (List ℕ × Test)
conditions =
    (codes "", Of 0x20) ∷
    (codes "=", Of 0x22) ∷
    (codes "#", Of 0x23) ∷
    (codes "=Z", Of 0x24) ∷
    (codes "#Z", Of 0x25) ∷
    (codes "GTZ", Of 0x26) ∷
    (codes "LTZ", Of 0x27) ∷
    (codes "GEZ", Of 0x28) ∷
    (codes "LEZ", Of 0x29) ∷
    (codes "V", Of 0x2a) ∷
    (codes "NV", Of 0x2b) ∷
    (codes "TR", Of 0x2c) ∷
    (codes "NTR", Of 0x2d) ∷
    (codes "EN", Of 0x2e) ∷
    (codes "NEN", Of 0x2f) ∷
    (codes "EJ", Of 0x30) ∷
    (codes "NEJ", Of 0x31) ∷
    (codes "C0Z", CountZero) ∷
    (codes "C0NZ", CountNotZero) ∷
    []

-- what stands after the target
unfoldable pub condition_of : List ℕ → Option Test
condition_of shape = row_in conditions shape

-- the target in front, and what stands after it
unfoldable pub target_form : List ℕ → Option (TargetForm × List ℕ)
target_form shape =
    opt_map (λ rest. (Both, rest)) (strip (codes "0P0") shape)
    or opt_map (λ rest. (Part, rest)) (strip (codes "P0") shape)
    or opt_map (λ rest. (Reference, rest)) (strip (codes "0") shape)

-- `JS` and a target
unfoldable pub subroutine_form : List ℕ → Option (Test × TargetForm)
subroutine_form shape = do
  rest ← strip (codes "JS") shape
  target ← target_form rest
  if length target.1 == 0 then Some (Of 0x21, target.0) else None

-- `J`, a target and a condition
unfoldable pub test_form : List ℕ → Option (Test × TargetForm)
test_form shape = do
  rest ← strip (codes "J") shape
  target ← target_form rest
  test ← condition_of target.1
  Some (test, target.0)

-- a jump with a target
unfoldable pub jump_form : List ℕ → Option (Test × TargetForm)
jump_form shape = subroutine_form shape or test_form shape

-- ---- ranges

abbrev pub target_ranges : TargetForm → List Range
target_ranges Reference = reference_range ∷ []
target_ranges Part = part_range ∷ []
target_ranges Both = reference_range ∷ part_range ∷ []

abbrev pub test_ranges : Test → List Range
test_ranges (Of c) = []
test_ranges CountZero = q_range ∷ []
test_ranges CountNotZero = q_range ∷ []

abbrev pub jump_ranges : Test → TargetForm → List Range
jump_ranges test target = target_ranges target ++ test_ranges test

-- ---- what they say

abbrev pub target_of : TargetForm → List ℕ → Target
target_of Reference ns = record { r = Some (slice_index ns 0); p = None }
target_of Part ns = record { r = None; p = Some (slice_index ns 0) }
target_of Both ns = record { r = Some (slice_index ns 0); p = Some (slice_index ns 1) }

-- the number after those of the target
abbrev pub behind_target : TargetForm → List ℕ → ℕ
behind_target Reference ns = slice_index ns 1
behind_target Part ns = slice_index ns 1
behind_target Both ns = slice_index ns 2

-- the code of a jump, which has the number of a Q-store in it where that counts
abbrev pub jump_code : Test → ℕ → ℕ
jump_code (Of c) q = c
jump_code CountZero q = q
jump_code CountNotZero q = 16 + q

abbrev pub go_of : Test → TargetForm → List ℕ → What
go_of test target ns = whats.Go (jump_code test (behind_target target ns)) (target_of target ns)
