use Rattle.std.proofs.Common.{◌≤◌, ◌^◌, length, ap, arith}
use Rattle.kdf_text.specs.Ahead.{ahead}
use Rattle.kdf_job.proofs.Passing.{short_ahead}
use Rattle.kdf_snapshot.proofs.Reading.{bounded, some_ahead, text-one}
use Rattle.kdf_snapshot.proofs.cursor.Cursor.take_line.Goals as goal

pub invariant_of-self : goal.invariant_of-self
invariant_of-self c =
    let old = c.args.self.now in
    let here = ap length c.take_line-line.ensures.text in
    let short : length c.take_line-line.result.text.now ≤ length old.lines.rest.now = omega (arith, here, short_ahead old.lines) in
    record {
      in_range = bounded (2 ^ 32) old.offset (length c.take_line-line.result.text.now) (length old.lines.rest.now) (length c.take_line-line.new.self.rest.now)
          old.lines.number c.take_line-line.new.self.number
          old.in_range short c.take_line-line.ensures.within (c.take_line-line.ensures.next (some_ahead old.lines.rest.now c.requires));
    }

pub returns-clause-passed : goal.returns-clause-passed
returns-clause-passed c =
    let some = some_ahead c.args.self.now.lines.rest.now c.requires in
    record {
      rest = c.take_line-line.ensures.rest;
      number = c.take_line-line.ensures.next some;
      offset = omega (arith, ap length c.take_line-line.ensures.text, text-one (ahead c.args.self.now.lines) some);
      within = some;
    }
