use Rattle.std.proofs.Common.{◌≡◌, ◌+◌, ◌-◌, ◌*◌, ◌<◌, ◌≤◌, ◌++◌, true, is_some, length, take, drop, ap, ◌∙◌, sym, subst, arith}
use Rattle.kdf_transfer.specs.AtOnce.{place_of, has_area, is_input}
use Rattle.kdf_transfer.specs.Devices.{fixture_of, progress_of}
use Rattle.kdf_transfer.specs.InFlight.{Motion, Covers, words_in_flight, total_of, all_words}
use Rattle.kdf_transfer.specs.Flying.{motion_of}
use Rattle.kdf_transfer.proofs.Moving.{words-lease, moved_one}
use Rattle.kdf_transfer.proofs.Words.{more_has, few_words, room_more, written_lease, some-written, covers-written, ring_front, ring_more, block_more}
use Rattle.kdf_transfer.proofs.flight.Flight.step.Goals as goal
use Rattle.kdf_transfer.proofs.flight.Flight.step.Goals.{After-pop-word, After-deliver}

more : (c : After-pop-word) → c.args.self.now.moved < total_of (motion_of c.args.self.now)
more c = omega (arith, c.requires.more, c.requires.flying.total)

has : (c : After-pop-word) → has_area c.args.self.now.order ≡ true
has c = let f = c.args.self.now in more_has f.order f.area.first f.area.last f.lease (fixture_of f.device) (progress_of f.device) f.moved (more c)

covers : (c : After-pop-word) → Covers c.args.self.now.lease c.args.self.now.area.first c.args.self.now.area.last
covers c = c.requires.flying.area (has c)

few : (c : After-pop-word) → total_of (motion_of c.args.self.now) ≤ c.args.self.now.area.last + 1 - c.args.self.now.area.first
few c = let f = c.args.self.now in few_words f.order f.area.first f.area.last f.lease (fixture_of f.device) (progress_of f.device)

pub deliver-requires-clause-lease : goal.deliver-requires-clause-lease
deliver-requires-clause-lease c = c.requires.flying.lease ∙ has (goal.at.deliver-requires-clause-lease c).After-pop-word

pub deliver-requires-clause-area : goal.deliver-requires-clause-area
deliver-requires-clause-area c = covers (goal.at.deliver-requires-clause-area c).After-pop-word

pub deliver-requires-clause-inside : goal.deliver-requires-clause-inside
deliver-requires-clause-inside c =
    let at = (goal.at.deliver-requires-clause-inside c).After-pop-word in
    omega (arith, more at, few at)

pub deliver-requires-clause-room : goal.deliver-requires-clause-room
deliver-requires-clause-room c = λ not.
    let f = c.args.self.now in
    let h = room_more (is_input f.order) f.block.items (words_in_flight (motion_of f)) f.moved f.total _ c.requires.flying.block c.requires.flying.total
    c.requires.more c.requires.flying.room not in
    omega (arith, h, f.block.ok.0)

pub overflow_add-self-2 : goal.overflow_add-self-2
overflow_add-self-2 c =
    let at = (goal.at.overflow_add-self-2 c).After-pop-word in
    omega (arith, more at, few at, (covers at).few)

-- the words stay the same
same : (c : After-deliver) → all_words c.args.self.now.order c.args.self.now.area.first c.args.self.now.area.last c.deliver.new.lease
    (fixture_of c.args.self.now.device) (progress_of c.args.self.now.device) ≡ words_in_flight (motion_of c.args.self.now)
same c =
    let f = c.args.self.now in
    words-lease f.order f.area.first f.area.last c.deliver.new.lease f.lease (fixture_of f.device) (progress_of f.device)
    (λ not. c.deliver.ensures.lease ∙ ap (λ b. written_lease b (place_of f.order f.area.first f.area.last f.moved) c.pop-word.result f.lease) not)

pub next_word-next-requires-clause-lease : goal.next_word-next-requires-clause-lease
next_word-next-requires-clause-lease c =
    let f = c.args.self.now in
    ap is_some c.deliver.ensures.lease ∙ some-written (is_input f.order) (place_of f.order f.area.first f.area.last f.moved) c.pop-word.result f.lease
    ∙ c.requires.flying.lease

pub next_word-next-requires-clause-area : goal.next_word-next-requires-clause-area
next_word-next-requires-clause-area c = λ has.
    let f = c.args.self.now in
    subst (λ l. Covers l f.area.first f.area.last) (sym c.deliver.ensures.lease)
    (covers-written (is_input f.order) (place_of f.order f.area.first f.area.last f.moved) c.pop-word.result f.area.first f.area.last f.lease
    (c.requires.flying.area has))

pub next_word-next-requires-clause-total : goal.next_word-next-requires-clause-total
next_word-next-requires-clause-total c = c.requires.flying.total ∙ ap length (sym (same (goal.at.next_word-next-requires-clause-total c).After-deliver))

pub returns-clause-motion : goal.returns-clause-motion
returns-clause-motion c =
    let at = (goal.at.returns-clause-motion c).After-pop-word in
    let f = c.args.self.now in
    let front =
    ring_front (words_in_flight (motion_of f)) f.moved c.pop-word.result c.pop-word.new.self (more at) (sym c.requires.flying.ring ∙ c.pop-word.ensures) in
    ap (λ l. let u : Motion = record (motion_of f) { moved = f.moved + 1; lease = l } in u) c.deliver.ensures.lease
    ∙ moved_one (motion_of f) c.pop-word.result (more at) front.0

pub returns-clause-flying : goal.returns-clause-flying
returns-clause-flying c =
    let at = (goal.at.returns-clause-flying c).After-pop-word in
    let later = (goal.at.returns-clause-flying c).After-deliver in
    let f = c.args.self.now in
    let ws = words_in_flight (motion_of f) in
    let front = ring_front ws f.moved c.pop-word.result c.pop-word.new.self (more at) (sym c.requires.flying.ring ∙ c.pop-word.ensures) in
    record {
      kind = c.requires.flying.kind;
      spare = c.requires.flying.spare;
      few = c.requires.flying.few;
      lease = ap is_some c.deliver.ensures.lease ∙ some-written (is_input f.order) (place_of f.order f.area.first f.area.last f.moved) c.pop-word.result
          f.lease ∙ c.requires.flying.lease;
      area = λ has. subst (λ l. Covers l f.area.first f.area.last) (sym c.deliver.ensures.lease)
          (covers-written (is_input f.order) (place_of f.order f.area.first f.area.last f.moved) c.pop-word.result f.area.first f.area.last f.lease
          (c.requires.flying.area has));
      total = c.requires.flying.total ∙ ap length (sym (same later));
      moved = omega (arith, c.requires.more);
      ring =
          c.refill.ensures
          ∙ ap (λ xs. c.pop-word.new.self ++ xs) c.next_word-next.ensures
          ∙ ap (λ xs. xs ++ take 1 (drop (f.moved + 1 + 7) (all_words f.order f.area.first f.area.last c.deliver.new.lease (fixture_of f.device)
          (progress_of f.device)))) front.1
          ∙ ap (λ xs. take 7 (drop (f.moved + 1) ws) ++ take 1 (drop (f.moved + 1 + 7) xs)) (same later)
          ∙ ring_more ws f.moved
          ∙ ap (λ xs. take 8 (drop (f.moved + 1) xs)) (sym (same later));
      block = block_more (is_input f.order) f.block.items c.deliver.new.block.items ws _ f.moved c.pop-word.result c.requires.flying.block
          c.deliver.ensures.block (more at) front.0 (same later);
      room = λ not. subst (λ n. 8 * f.total ≤ n) (sym c.deliver.ensures.capacity) (c.requires.flying.room not);
    }
