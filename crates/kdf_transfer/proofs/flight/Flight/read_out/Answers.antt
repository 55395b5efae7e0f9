use Rattle.std.proofs.Common.{◌≡◌, ◌≤◌, ◌∙◌, [], true, false, length, drop, take, is_some, cond, ap, sym, subst, arith}
use Rattle.std.specs.Option.{option_map}
use Rattle.kdf_word.specs.Characters.{codes_of_all}
use Rattle.kdf_word.proofs.Packing.{length-words_of}
use Rattle.kdf_transfer.specs.AtOnce.{addressed}
use Rattle.kdf_transfer.specs.Devices.{fixture_of, progress_of}
use Rattle.kdf_transfer.specs.InFlight.{Covers, all_words, moves_of, put_words, total_of, words_in_flight}
use Rattle.kdf_transfer.specs.Flying.{motion_of}
use Rattle.kdf_transfer.proofs.Moving.{words-lease}
use Rattle.kdf_transfer.proofs.Runs.{ended_input, ring_ended, run_all, run_given}
use Rattle.kdf_transfer.proofs.Words.{covers-moved, few_words, some-moved}
use Rattle.kdf_transfer.proofs.flight.Flight.read_out.Goals as goal
use Rattle.kdf_transfer.proofs.flight.Flight.read_out.Goals.{After-put_run}

pub put_run-requires-clause-inside : goal.put_run-requires-clause-inside
put_run-requires-clause-inside c =
    let f = c.args.self.now in
    omega (arith, c.requires.flying.total, few_words f.order f.area.first f.area.last f.lease (fixture_of f.device) (progress_of f.device))

pub put_run-requires-clause-given : goal.put_run-requires-clause-given
put_run-requires-clause-given c =
    let f = c.args.self.now in
    omega (
      arith,
      length-words_of c.in-Some.codes.now,
      run_given f.order f.area.first f.area.last f.lease (fixture_of f.device)
          (progress_of f.device) c.in-Some.codes.now f.total c.in-Some.ensures c.requires.flying.total,
    )

-- the lease has all words
lease_is : (c : After-put_run) → c.put_run.new.lease ≡ option_map (put_words (drop c.args.self.now.moved (moves_of (motion_of c.args.self.now))))
    c.args.self.now.lease
lease_is c =
    let f = c.args.self.now in
    c.put_run.ensures
    ∙ ap (λ ws. option_map (put_words (drop f.moved (addressed f.order f.area.first f.area.last ws))) f.lease)
    (run_all f.order f.area.first f.area.last f.lease (fixture_of f.device) (progress_of f.device) c.in-Some.codes.now f.total c.in-Some.ensures
    c.requires.flying.total)

-- the words stay the same
same : (c : After-put_run) → all_words c.args.self.now.order c.args.self.now.area.first c.args.self.now.area.last c.put_run.new.lease
    (fixture_of c.args.self.now.device) (progress_of c.args.self.now.device) ≡ words_in_flight (motion_of c.args.self.now)
same c =
    let f = c.args.self.now in
    words-lease f.order f.area.first f.area.last c.put_run.new.lease f.lease (fixture_of f.device) (progress_of f.device)
    (λ not. absurd (let e : true ≡ false = sym c.requires.input ∙ not in cc))

pub returns-in-Some-clause-motion : goal.returns-in-Some-clause-motion
returns-in-Some-clause-motion c =
    let f = c.args.self.now in
    let within : f.moved ≤ total_of (motion_of f) = omega (arith, c.requires.flying.moved, c.requires.flying.total) in
    ended_input (motion_of f) f.total c.put_run.new.lease within c.requires.flying.total c.requires.input
    (lease_is (goal.at.returns-in-Some-clause-motion c).After-put_run)

pub returns-in-Some-clause-flying : goal.returns-in-Some-clause-flying
returns-in-Some-clause-flying c =
    let at = (goal.at.returns-in-Some-clause-flying c).After-put_run in
    let f = c.args.self.now in
    let ms = drop f.moved (moves_of (motion_of f)) in
    let words = all_words f.order f.area.first f.area.last c.put_run.new.lease (fixture_of f.device) (progress_of f.device) in
    let all : f.total ≡ length words = c.requires.flying.total ∙ ap length (sym (same at)) in
    record {
      kind = c.requires.flying.kind;
      spare = c.requires.flying.spare;
      few = c.requires.flying.few;
      lease = ap is_some (lease_is at) ∙ some-moved true ms f.lease ∙ c.requires.flying.lease;
      area = λ has. subst (λ l. Covers l f.area.first f.area.last) (sym (lease_is at))
          (covers-moved true ms f.lease f.area.first f.area.last (c.requires.flying.area has));
      total = all;
      moved = omega arith;
      ring = c.clear.ensures ∙ ring_ended words f.total (omega (arith, all));
      block =
          c.requires.flying.block
          ∙ ap (λ b. cond b [] (codes_of_all (take f.moved (words_in_flight (motion_of f))))) c.requires.input
          ∙ sym (ap (λ b. cond b [] (codes_of_all (take f.total words))) c.requires.input);
      room = c.requires.flying.room;
    }
