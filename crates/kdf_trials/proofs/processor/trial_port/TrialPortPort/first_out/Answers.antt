-- What is found among the groups of an area, where one group is out.
use Rattle.std.proofs.Common.{◌≡◌, ℕ, zero, suc, ◌+◌, ◌-◌, ◌/◌, ◌<◌, ◌≤◌, eqb, Some, None, refl, sym, ap, ⊎_elim, arith}
use Rattle.std.specs.Prelude.{find}
use Rattle.std.specs.List.{range_with_len}
use Rattle.std.proofs.lemmas.Bool.Decides.{eqb_tells}
use Rattle.kdf_processor.specs.View.{groups_of}
use Rattle.kdf_trials.proofs.processor.trial_port.TrialPortPort.first_out.Goals as goal
use Rattle.kdf_trials.proofs.processor.trial_port.TrialPortPort.first_out.Goals.{then-self-first-via-then-self-first}
use Rattle.kdf_trials.proofs.processor.trial_port.TrialPortPort.first_out.Goals.{then-self-first-via-else-self-first+then-last-self}

found_in : (x a n : ℕ) → a ≤ x → x < a + n → find (λ g. eqb g x) (range_with_len a n) ≡ Some x
found_in x a zero least below = absurd (omega arith)
found_in x a (suc n) least below =
    ⊎_elim
    (λ is. rw is.0 (ap Some is.1))
    (λ not. rw not.0 (found_in x (a + 1) n (omega (arith, not.1)) (omega arith)))
    (eqb_tells a x)

none_before : (x a n : ℕ) → x < a → find (λ g. eqb g x) (range_with_len a n) ≡ None
none_before x a zero below = refl
none_before x a (suc n) below =
    ⊎_elim
    (λ is. absurd (omega (arith, is.1)))
    (λ not. rw not.0 (none_before x (a + 1) n (omega arith)))
    (eqb_tells a x)

none_behind : (x a n : ℕ) → a + n ≤ x → find (λ g. eqb g x) (range_with_len a n) ≡ None
none_behind x a zero above = refl
none_behind x a (suc n) above =
    ⊎_elim
    (λ is. absurd (omega (arith, is.1)))
    (λ not. rw not.0 (none_behind x (a + 1) n (omega arith)))
    (eqb_tells a x)

-- the group that is out is among those of the area
group_found : (x first last : ℕ) → first / 32 ≤ x → x ≤ last / 32 → find (λ g. eqb g x) (groups_of first last) ≡ Some x
group_found x first last least greatest =
    found_in x (first / 32) (last / 32 + 1 - first / 32) least (omega arith)

-- it stands before them
group_before : (x first last : ℕ) → x < first / 32 → find (λ g. eqb g x) (groups_of first last) ≡ None
group_before x first last below = none_before x (first / 32) (last / 32 + 1 - first / 32) below

-- or after them
group_behind : (x first last : ℕ) → first / 32 ≤ last / 32 → last / 32 < x → find (λ g. eqb g x) (groups_of first last) ≡ None
group_behind x first last order above =
    none_behind x (first / 32) (last / 32 + 1 - first / 32) (omega arith)

pub returns-then-self-first : goal.returns-then-self-first
returns-then-self-first c =
    elim c.then-self-first.branch [
      | then-self-first-via-then-self-first w ↦ sym (group_before c.args.self.now.out c.args.first c.args.last (omega arith))
      | then-self-first-via-else-self-first+then-last-self w ↦ sym (group_behind c.args.self.now.out c.args.first c.args.last (omega arith) (omega arith))
    ]

pub returns : goal.returns
returns c = sym (group_found c.args.self.now.out c.args.first c.args.last (omega arith) (omega arith))
