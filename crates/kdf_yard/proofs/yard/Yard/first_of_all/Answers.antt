use Rattle.std.proofs.Common.{length, sym, ◌∙◌, arith}
use Rattle.kdf_processor.proofs.Finding.{found_behind, found_here}
use Rattle.kdf_yard.specs.Fields.Yards.{goes_in}
use Rattle.kdf_yard.proofs.Turns.FirstGoesOn.{first_is}
use Rattle.kdf_yard.proofs.yard.Yard.first_of_all.Goals as goal

pub loop-i-init : goal.loop-i-init
loop-i-init c = first_is c.args.self.now.reaches c.args.self.now.seats c.args.self.now.holds c.args.self.now.shared c.requires.numbered c.requires.four

pub returns-then-goes_at : goal.returns-then-goes_at
returns-then-goes_at c =
    sym (c.loop-i.invariant
    ∙ found_here (goes_in c.args.self.now) c.loop-i.i (length c.args.self.now.seats) (omega (arith, c.loop-i-test.true, c.count-i-end.ensures))
    (sym c.goes_at.ensures ∙ c.if-goes_at.true))

pub loop-i-preserved : goal.loop-i-preserved
loop-i-preserved c =
    c.loop-i.invariant
    ∙ found_behind (goes_in c.args.self.now) c.loop-i.i (length c.args.self.now.seats) (omega (arith, c.loop-i-test.true, c.count-i-end.ensures))
    (sym c.goes_at.ensures ∙ c.if-goes_at.false)
