use Rattle.std.proofs.Common.{arith}
use Rattle.kdf_transfer.specs.Devices.{fixture_of, progress_of}
use Rattle.kdf_transfer.specs.InFlight.{all_words}
use Rattle.kdf_transfer.proofs.Words.{no_block, room_first}
use Rattle.kdf_transfer.proofs.transfer.Transfer.begin.Goals as goal

pub invariant_of-result : goal.invariant_of-result
invariant_of-result c =
    let ws = all_words c.args.order c.args.area.first c.args.area.last c.args.lease (fixture_of c.args.device) (progress_of c.args.device) in
    record {
      kind = c.requires.kind;
      spare = c.requires.spare;
      few = c.requires.few;
      lease = c.requires.lease;
      area = c.requires.area;
      total = c.count_words-total.ensures.value;
      moved = omega arith;
      ring = c.fill.ensures;
      block = no_block c.args.order ws c.args.block.items c.requires.block;
      room = room_first c.args.order c.args.area.first c.args.area.last c.count_words-total.result _ c.args.lease (fixture_of c.args.device)
          (progress_of c.args.device) c.count_words-total.ensures.value c.requires.room;
    }
