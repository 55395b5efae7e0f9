use Rattle.std.proofs.Common.{true, false, sym, ◌∙◌}
use Rattle.kdf_fault.proofs.Least.{lesser-none}
use Rattle.kdf_usercode.specs.Faults.{number_of}
use Rattle.kdf_place.proofs.Firsts.{twice-step}
use Rattle.kdf_place.proofs.twice.first_twice.Goals as goal
use Rattle.kdf_place.proofs.twice.first_twice.Goals.{then-stood_before, else-stood_before}

pub loop-i-preserved : goal.loop-i-preserved
loop-i-preserved g c =
    let es = c.args.entries.now in
    let i = c.loop-i.i in
    let e = c.index-entries-i.result in
    let is = c.index-entries-i.is in
    let lt = c.loop-i-test.true in
    let stood = c.stood_before.ensures in
    elim c.if-stood_before.branch [
      | then-stood_before w ↦
          rw w.best-is (twice-step c.args.fault c.loop-i.best w.with_fault-best.result i es e true lt is (sym w.if-stood_before.true ∙ stood)
          w.with_fault-best.ensures ∙ c.loop-i.invariant)
      | else-stood_before w ↦
          rw w.best-is (twice-step c.args.fault c.loop-i.best c.loop-i.best i es e false lt is (sym w.if-stood_before.false ∙ stood)
          (sym (lesser-none number_of c.loop-i.best)) ∙ c.loop-i.invariant)
    ]
