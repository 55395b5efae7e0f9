use Rattle.std.proofs.Common.{◌≡◌, ℕ, suc, ◌+◌, ◌-◌, ◌<◌, ◌≤◌, false, Option, refl, sym, ap, subst, ◌∙◌, arith}
use Rattle.kdf_processor.specs.declared.registers.Registers.{Registers}
use Rattle.kdf_processor.specs.declared.step.Step.{Step}
use Rattle.kdf_processor.specs.declared.step.Step.TheVariants.{Done}
use Rattle.kdf_yard.specs.declared.remark.Remark.{Remark}
use Rattle.kdf_yard.specs.declared.remark.Remark.TheVariants.{Quiet}
use Rattle.kdf_yard.specs.declared.machine_port.MachinePort.{MachinePort}
use Rattle.kdf_yard.specs.Fields.Batches.{of_seat, AreQuiet, Passes, is_at}
use Rattle.kdf_yard.specs.Fields.MachinePort.{held_in, reach_in, seat_in, shared, SameProgram}
use Rattle.kdf_yard.specs.Fields.Turned.{HasTried}
use Rattle.kdf_yard.proofs.Turns.Batching.{last_by, tried_over, went_on}
use Rattle.kdf_theory.proofs.GoingOn.{GoesOn}
use Rattle.kdf_yard.proofs.Turns.TurnsShow.{program_then}
use Rattle.kdf_yard.proofs.dispatch.obey_quiet.Goals as goal

-- an order was tried of a program that stood so in one turn, and the next turn was left, over what a turn reaches
abbrev TriesOver : MachinePort → MachinePort → MachinePort → Registers → Registers → Step → Type 0
TriesOver t u w r left ended =
    HasTried (reach_in t) (held_in t) t.moment (seat_in u r) (shared u) (seat_in w left) (shared w) ended w.note

-- so many were obeyed since a turn, of which nothing is noted, past a place
abbrev QuietSince : Option ℕ → MachinePort → Registers → ℕ → MachinePort → Registers → Type 0
QuietSince place t r n u left =
    AreQuiet (Passes of_seat place (HasTried (reach_in t) (held_in t) t.moment)) n (seat_in t r) (shared t) (seat_in u left) (shared u)

-- over the turn that there was at first
over : (t u w : MachinePort) (r left : Registers) (ended : Step) → SameProgram t u → TriesOver u u w r left ended → TriesOver t u w r left ended
over t u w r left ended same tried =
    tried_over t u same (seat_in u r) (shared u) (seat_in w left) (shared w) ended w.note tried

-- of a turn in which nothing was changed before
unchanged : (u u' w : MachinePort) (r r' left : Registers) (ended : Step) → r' ≡ r → u' ≡ u → TriesOver u' u' w r' left ended → TriesOver u u w r left ended
unchanged u u' w r r' left ended is is' tried = rw (sym is, sym is') tried

went : (t u w : MachinePort) (r left : Registers) → TriesOver t u w r left Done → GoesOn r left
went t u w r left tried =
    went_on (reach_in t) (held_in t) t.moment (seat_in u r) (shared u) (seat_in w left) (shared w) w.note tried

-- one more of which nothing is noted
quiet_on : (place : Option ℕ) (t u w : MachinePort) (first r left : Registers) (n : ℕ) → QuietSince place t first n u r → w.note ≡ Quiet
    → TriesOver t u w r left Done
    → is_at place left ≡ false → QuietSince place t first (n + 1) w left
quiet_on place t u w first r left n earlier quiet tried past =
    let one : suc n ≡ n + 1 = omega arith in
    subst (λ k. QuietSince place t first k w left) one (
      seat_in u r,
      shared u,
      earlier,
      (
        subst (λ (x : Remark). HasTried (reach_in t) (held_in t) t.moment (seat_in u r) (shared u) (seat_in w left) (shared w) Done x) quiet tried,
        past,
      ),
    )

-- so many orders since the first, once one more was obeyed
more : (first ran ran' : ℕ) → first ≤ ran → ran' ≡ ran + 1 → (ran - first) + 1 ≡ ran' - first
more first ran ran' least one = omega (arith, least, one)

-- so many before the last
before_last : (first ran ran' : ℕ) → first ≤ ran → ran' ≡ ran + 1 → ran - first ≡ ran' - first - 1
before_last first ran ran' least one = omega (arith, least, one)

-- one more was obeyed: fewer are left, and more were obeyed than at first
fewer : (last ran ran' : ℕ) → ran < last → ran' ≡ ran + 1 → last - ran' < last - ran
fewer last ran ran' few one = omega (arith, few, one)

later : (first ran ran' : ℕ) → first ≤ ran → ran' ≡ ran + 1 → first ≤ ran'
later first ran ran' least one = omega (arith, least, one)

-- and it wasn't the last
still_few : (last ran ran' : ℕ) → ran < last → ran' ≡ ran + 1 → (ran' ≡ last → ⊥) → ran' < last
still_few last ran ran' few one other = omega (arith, few, one, other)

-- fewer than so many were obeyed
since_few : (first most ran ran' : ℕ) → first ≤ ran → ran < first + most → ran' ≡ ran → ran' - first < most
since_few first most ran ran' least few same = omega (arith, least, few, same)

pub returns-then-registers-last-clause-tried : goal.returns-then-registers-last-clause-tried
returns-then-registers-last-clause-tried c =
    let before = c.loop-registers in
    let new = c.obey_at_hand.new in
    let tried = over c.args.turn.now before.turn new.turn before.registers new.registers Done before.invariant.same c.in-Some.ensures.tried in
    let gone = went c.args.turn.now before.turn new.turn before.registers new.registers tried in
    last_by (reach_in c.args.turn.now) (held_in c.args.turn.now) c.args.turn.now.moment c.args.place
    (before.registers.ran - c.args.registers.now.ran) _ _ _ _ _ _ _
    Done Done new.turn.note Quiet
    before.invariant.earlier (before_last c.args.registers.now.ran before.registers.ran new.registers.ran before.invariant.least gone.ran)
    tried refl (sym c.obey_at_hand.ensures.quiet)

pub loop-registers-smaller-in-Some : goal.loop-registers-smaller-in-Some
loop-registers-smaller-in-Some c =
    let before = c.loop-registers in
    let new = c.obey_at_hand.new in
    let gone = went c.args.turn.now before.turn new.turn before.registers new.registers
    (over c.args.turn.now before.turn new.turn before.registers new.registers Done before.invariant.same c.in-Some.ensures.tried) in
    fewer (c.args.registers.now.ran + c.args.most) before.registers.ran new.registers.ran before.invariant.few gone.ran

pub loop-registers-preserved-in-Some : goal.loop-registers-preserved-in-Some
loop-registers-preserved-in-Some c =
    let before = c.loop-registers in
    let new = c.obey_at_hand.new in
    let first = c.args.registers.now.ran in
    let tried = over c.args.turn.now before.turn new.turn before.registers new.registers Done before.invariant.same c.in-Some.ensures.tried in
    let gone = went c.args.turn.now before.turn new.turn before.registers new.registers tried in
    record {
      same = program_then c.args.turn.now before.turn new.turn before.invariant.same c.obey_at_hand.ensures.same;
      live = gone.state ∙ before.invariant.live;
      first = refl;
      last = refl;
      least = later first before.registers.ran new.registers.ran before.invariant.least gone.ran;
      few = still_few (first + c.args.most) before.registers.ran new.registers.ran before.invariant.few gone.ran c.if-registers-last.false;
      quiet = c.obey_at_hand.ensures.quiet;
      agrees = c.obey_at_hand.ensures.agrees;
      earlier =
          subst (λ n. QuietSince c.args.place c.args.turn.now c.args.registers.now n new.turn new.registers)
          (more first before.registers.ran new.registers.ran before.invariant.least gone.ran)
          (quiet_on c.args.place c.args.turn.now before.turn new.turn c.args.registers.now before.registers new.registers (before.registers.ran - first)
          before.invariant.earlier c.obey_at_hand.ensures.quiet tried (sym c.is_at.ensures ∙ c.if-is_at.false));
    }

pub returns-then-registers-last-2-clause-tried : goal.returns-then-registers-last-2-clause-tried
returns-then-registers-last-2-clause-tried c =
    let before = c.loop-registers in
    let left = c.in-None.ensures.left in
    let mid = c.obey_at_hand.new in
    let new = c.obey_next.new in
    let tried : TriesOver mid.turn mid.turn new.turn mid.registers new.registers Done =
    subst (TriesOver mid.turn mid.turn new.turn mid.registers new.registers) c.in-Ok-Done.field-0-is c.in-Ok-Done.ensures.tried in
    last_by (reach_in c.args.turn.now) (held_in c.args.turn.now) c.args.turn.now.moment c.args.place
    (before.registers.ran - c.args.registers.now.ran) _ _ _ _ _ _ _
    Done Done new.turn.note c.note.result
    before.invariant.earlier (ap (λ (r : Registers). r.ran - c.args.registers.now.ran) (sym left.0))
    (over c.args.turn.now before.turn new.turn before.registers new.registers Done before.invariant.same
    (unchanged before.turn mid.turn new.turn before.registers mid.registers new.registers Done left.0 left.1 tried))
    refl c.note.ensures

pub loop-registers-smaller : goal.loop-registers-smaller
loop-registers-smaller c =
    let before = c.loop-registers in
    let left = c.in-None.ensures.left in
    let mid = c.obey_at_hand.new in
    let new = c.obey_next.new in
    let here : TriesOver mid.turn mid.turn new.turn mid.registers new.registers Done =
    subst (TriesOver mid.turn mid.turn new.turn mid.registers new.registers) c.in-Ok-Done.field-0-is c.in-Ok-Done.ensures.tried in
    let gone = went c.args.turn.now before.turn new.turn before.registers new.registers
    (over c.args.turn.now before.turn new.turn before.registers new.registers Done before.invariant.same
    (unchanged before.turn mid.turn new.turn before.registers mid.registers new.registers Done left.0 left.1 here)) in
    fewer (c.args.registers.now.ran + c.args.most) before.registers.ran new.registers.ran before.invariant.few gone.ran

pub loop-registers-preserved : goal.loop-registers-preserved
loop-registers-preserved c =
    let before = c.loop-registers in
    let left = c.in-None.ensures.left in
    let mid = c.obey_at_hand.new in
    let new = c.obey_next.new in
    let first = c.args.registers.now.ran in
    let quiet : new.turn.note ≡ Quiet = c.is_quiet.ensures c.if-not-is_quiet.false in
    let here : TriesOver mid.turn mid.turn new.turn mid.registers new.registers Done =
    subst (TriesOver mid.turn mid.turn new.turn mid.registers new.registers) c.in-Ok-Done.field-0-is c.in-Ok-Done.ensures.tried in
    let tried =
    over c.args.turn.now before.turn new.turn before.registers new.registers Done before.invariant.same
    (unchanged before.turn mid.turn new.turn before.registers mid.registers new.registers Done left.0 left.1 here) in
    let gone = went c.args.turn.now before.turn new.turn before.registers new.registers tried in
    record {
      same = program_then c.args.turn.now mid.turn new.turn
          (program_then c.args.turn.now before.turn mid.turn before.invariant.same c.obey_at_hand.ensures.same) c.obey_next.ensures.same;
      live = gone.state ∙ before.invariant.live;
      first = refl;
      last = refl;
      least = later first before.registers.ran new.registers.ran before.invariant.least gone.ran;
      few = still_few (first + c.args.most) before.registers.ran new.registers.ran before.invariant.few gone.ran c.if-registers-last-2.false;
      quiet = quiet;
      agrees = c.obey_next.ensures.agrees;
      earlier =
          subst (λ n. QuietSince c.args.place c.args.turn.now c.args.registers.now n new.turn new.registers)
          (more first before.registers.ran new.registers.ran before.invariant.least gone.ran)
          (quiet_on c.args.place c.args.turn.now before.turn new.turn c.args.registers.now before.registers new.registers (before.registers.ran - first)
          before.invariant.earlier quiet tried (sym c.is_at-else-not-is_quiet.ensures ∙ c.if-is_at-2.false));
    }

pub returns-in-Ok : goal.returns-in-Ok
returns-in-Ok c =
    let before = c.loop-registers in
    let left = c.in-None.ensures.left in
    let mid = c.obey_at_hand.new in
    let new = c.obey_next.new in
    let same = ap (λ (r : Registers). r.ran - c.args.registers.now.ran) (sym left.0) in
    let tried = unchanged before.turn mid.turn new.turn before.registers mid.registers new.registers c.in-Ok.step left.0 left.1 c.in-Ok.ensures.tried in
    record {
      tried =
          last_by (reach_in c.args.turn.now) (held_in c.args.turn.now) c.args.turn.now.moment c.args.place (before.registers.ran - c.args.registers.now.ran)
          _ _ _ _ _ _ _ c.in-Ok.step c.in-Ok.step new.turn.note c.note-in-Ok.result
          before.invariant.earlier same
          (over c.args.turn.now before.turn new.turn before.registers new.registers c.in-Ok.step before.invariant.same tried)
          refl c.note-in-Ok.ensures;
      err = tt;
      within = since_few c.args.registers.now.ran c.args.most before.registers.ran mid.registers.ran before.invariant.least before.invariant.few
          (ap (λ (r : Registers). r.ran) left.0);
      same = program_then c.args.turn.now mid.turn new.turn
          (program_then c.args.turn.now before.turn mid.turn before.invariant.same c.obey_at_hand.ensures.same) c.obey_next.ensures.same;
    }
