use Rattle.std.proofs.Common.{◌≡◌, ◌≤◌, ◌∙◌, [], length, take, cond, ap, sym, arith}
use Rattle.std.proofs.lemmas.List.{take_all}
use Rattle.kdf_word.specs.Characters.{codes_of_all}
use Rattle.kdf_transfer.specs.Devices.{fixture_of, progress_of}
use Rattle.kdf_transfer.specs.InFlight.{moved_by, total_of, words_in_flight}
use Rattle.kdf_transfer.specs.Flying.{motion_of}
use Rattle.kdf_transfer.specs.Runs.{lent_words}
use Rattle.kdf_transfer.proofs.Moving.{moved_none}
use Rattle.kdf_transfer.proofs.Runs.{ended_other, none_left, out_words, ring_ended}
use Rattle.kdf_transfer.proofs.Words.{few_words}
use Rattle.kdf_transfer.proofs.flight.Flight.write_out.Goals as goal
use Rattle.kdf_transfer.proofs.flight.Flight.write_out.Goals.{In-Some}

pub push_run-requires-clause-inside : goal.push_run-requires-clause-inside
push_run-requires-clause-inside c =
    let f = c.args.self.now in
    omega (arith, c.requires.flying.total, few_words f.order f.area.first f.area.last f.lease (fixture_of f.device) (progress_of f.device))

words : (c : In-Some) → lent_words c.in-Some.lease c.args.self.now.area.first c.args.self.now.total ≡ words_in_flight (motion_of c.args.self.now)
words c =
    let f = c.args.self.now in
    out_words f.order f.area.first f.area.last f.lease (fixture_of f.device) (progress_of f.device) c.in-Some.lease f.total c.in-Some.is
    c.requires.flying.lease c.requires.output c.requires.flying.total

pub push_run-requires-clause-block : goal.push_run-requires-clause-block
push_run-requires-clause-block c =
    let f = c.args.self.now in
    c.requires.flying.block
    ∙ ap (λ b. cond b [] (codes_of_all (take f.moved (words_in_flight (motion_of f))))) c.requires.output
    ∙ ap (λ ws. codes_of_all (take f.moved ws)) (sym (words (goal.at.push_run-requires-clause-block c).In-Some))

pub returns-in-Some-clause-motion : goal.returns-in-Some-clause-motion
returns-in-Some-clause-motion c =
    let f = c.args.self.now in
    let within : f.moved ≤ total_of (motion_of f) = omega (arith, c.requires.flying.moved, c.requires.flying.total) in
    ended_other (motion_of f) f.total within c.requires.flying.total c.requires.output

pub returns-in-Some-clause-flying : goal.returns-in-Some-clause-flying
returns-in-Some-clause-flying c =
    let f = c.args.self.now in
    let ws = words_in_flight (motion_of f) in
    let few : length ws ≤ f.total = omega (arith, c.requires.flying.total) in
    record {
      kind = c.requires.flying.kind;
      spare = c.requires.flying.spare;
      few = c.requires.flying.few;
      lease = c.requires.flying.lease;
      area = c.requires.flying.area;
      total = c.requires.flying.total;
      moved = omega arith;
      ring = c.clear.ensures ∙ ring_ended ws f.total few;
      block =
          c.push_run.ensures.items
          ∙ ap codes_of_all (words (goal.at.returns-in-Some-clause-flying c).In-Some ∙ sym (take_all f.total ws few))
          ∙ sym (ap (λ b. cond b [] (codes_of_all (take f.total ws))) c.requires.output);
      room = λ not. c.push_run.ensures.room;
    }

pub returns-in-None-clause-motion : goal.returns-in-None-clause-motion
returns-in-None-clause-motion c =
    let f = c.args.self.now in
    let within : f.moved ≤ total_of (motion_of f) = omega (arith, c.requires.flying.moved, c.requires.flying.total) in
    let none : f.total ≡ 0 = c.requires.flying.total ∙ none_left f.order f.area.first f.area.last f.lease (fixture_of f.device)
    (progress_of f.device) c.in-None.is c.requires.flying.lease in
    sym (ap (λ n. moved_by n (motion_of f)) none ∙ moved_none (motion_of f) within)
