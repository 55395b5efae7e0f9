use Rattle.std.proofs.Common.{eqb, length, sym, ap, ◌∙◌}
use Rattle.std.proofs.lemmas.Bool.{eq-eqb, ne_eqb}
use Rattle.kdf_processor.proofs.Finding.{found_behind, found_here}
use Rattle.kdf_yard.specs.Fields.Running.{seat_at, seats_in}
use Rattle.kdf_yard.proofs.Turns.YardTurns.{number_at, place_first}
use Rattle.kdf_yard.proofs.next.place_of.Goals as goal

pub loop-i-init : goal.loop-i-init
loop-i-init c = place_first c.args.programs.now c.args.p

pub returns-then-program-p-clause-result : goal.returns-then-program-p-clause-result
returns-then-program-p-clause-result c =
    sym (c.loop-i.invariant
    ∙ found_here (λ i. eqb (seat_at (seats_in c.args.programs.now) i).p c.args.p) c.loop-i.i (length c.args.programs.now) c.loop-i-test.true
    (ap (λ n. eqb n c.args.p) (number_at c.args.programs.now c.loop-i.i c.loop-i-test.true c.index-programs-i.result c.index-programs-i.is)
    ∙ eq-eqb c.index-programs-i.result.p c.args.p c.if-program-p.true))

pub loop-i-preserved : goal.loop-i-preserved
loop-i-preserved c =
    c.loop-i.invariant
    ∙ found_behind (λ i. eqb (seat_at (seats_in c.args.programs.now) i).p c.args.p) c.loop-i.i (length c.args.programs.now) c.loop-i-test.true
    (ap (λ n. eqb n c.args.p) (number_at c.args.programs.now c.loop-i.i c.loop-i-test.true c.index-programs-i.result c.index-programs-i.is)
    ∙ ne_eqb c.index-programs-i.result.p c.args.p c.if-program-p.false)
