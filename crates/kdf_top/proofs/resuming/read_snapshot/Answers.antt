use Rattle.std.proofs.Common.{◌+◌, ◌-◌, length, length-drop, length-take, drop, take, ap, ◌∙◌, arith, refl}
use Rattle.kdf_job.specs.Shows.{shown_job}
use Rattle.kdf_top.proofs.Lines.{few_lines}
use Rattle.kdf_top.proofs.LoadedDecks.{all_decks}
use Rattle.kdf_top.proofs.Resumptions.{entries_read, is_read}
use Rattle.kdf_top.proofs.resuming.read_snapshot.Goals as goal

pub overflow_add-line : goal.overflow_add-line
overflow_add-line c =
    let text = c.args.text.now in
    omega (arith, c.line_count-line.ensures, few_lines (take c.in_ok-job.end text), length-take c.in_ok-job.end text, c.requires)

pub split-requires-clause-line : goal.split-requires-clause-line
split-requires-clause-line c =
    let text = c.args.text.now in
    omega (arith, c.line_count-line.ensures, few_lines (take c.in_ok-job.end text), length-take c.in_ok-job.end text, c.requires)

pub read_more-requires-clause-first : goal.read_more-requires-clause-first
read_more-requires-clause-first c =
    let text = c.args.text.now in
    let inside = c.in_ok-parts.ensures.inside in
    omega (
      arith,
      c.line_count-line.ensures,
      few_lines (take c.in_ok-job.end text),
      length-take c.in_ok-job.end text,
      length-drop c.in_ok-job.end text,
      c.in_ok-job.ensures.within,
      inside.line,
      inside.end,
      ap length c.rest-after.ensures,
      c.requires,
    )

pub assemble_decks-requires : goal.assemble_decks-requires
assemble_decks-requires c = rw c.deref.ensures.value (all_decks c.read_more.new.job c.in_ok-read_more.ensures.well_formed)

pub overflow_add-seal_line : goal.overflow_add-seal_line
overflow_add-seal_line c =
    let text = c.args.text.now in
    let inside = c.in_ok-parts.ensures.inside in
    omega (
      arith,
      c.len.ensures,
      c.in_ok-parts.parts.entries.ok.0,
      c.line_count-line.ensures,
      few_lines (take c.in_ok-job.end text),
      length-take c.in_ok-job.end text,
      length-drop c.in_ok-job.end text,
      c.in_ok-job.ensures.within,
      inside.entries,
      inside.seal,
      inside.more,
      inside.end,
      ap length c.rest-after.ensures,
      c.requires,
    )

pub overflow_add-seal_line-2 : goal.overflow_add-seal_line-2
overflow_add-seal_line-2 c =
    let text = c.args.text.now in
    let inside = c.in_ok-parts.ensures.inside in
    omega (
      arith,
      c.len.ensures,
      c.in_ok-parts.parts.entries.ok.0,
      c.line_count-line.ensures,
      few_lines (take c.in_ok-job.end text),
      length-take c.in_ok-job.end text,
      length-drop c.in_ok-job.end text,
      c.in_ok-job.ensures.within,
      inside.entries,
      inside.seal,
      inside.more,
      inside.end,
      ap length c.rest-after.ensures,
      c.requires,
    )

pub returns-clause-read : goal.returns-clause-read
returns-clause-read c =
    is_read c.args.text.now c.in_ok-job.end _ c.in_ok-parts.parts c.in_ok-job.ensures.offset (ap (λ n. n + 1) c.line_count-line.ensures)
    (rw c.rest-after.ensures at c.in_ok-parts.ensures.ok)
    _ (shown_job c.in_ok-job.job) c.requires c.in_ok-job.ensures.within refl c.in_ok-job.ensures.ok c.in_ok-job.ensures.shown
    (rw c.rest-after.ensures at c.in_ok-parts.ensures.inside)
    (rw (c.rest-further.ensures, c.rest-after.ensures) at c.in_ok-read_more.ensures.ok)
    (rw (c.rest-further.ensures, c.rest-after.ensures) at c.in_ok-read_more.ensures.joined)
    (c.len-first.ensures ∙ c.in_ok-job.job.events.ok.0) c.in_ok-read_more.ensures.well_formed (rw c.deref.ensures.value at c.in_ok-images.ensures.images)
    (rw c.deref.ensures.value at c.in_ok-images.ensures.ok)
    (ap (λ n. c.line_count-line.result + 1 + n + 2) (c.len.ensures ∙ c.in_ok-parts.parts.entries.ok.0))
    (c.in_ok-sealed.ensures.items ∙ c.part.ensures
    ∙ ap (λ bytes. take (c.in_ok-parts.parts.more_from - c.in_ok-parts.parts.seal_from) (drop c.in_ok-parts.parts.seal_from bytes)) c.rest-after.ensures)

pub returns-clause-entries : goal.returns-clause-entries
returns-clause-entries c =
    entries_read c.args.text.now c.in_ok-job.end _ c.in_ok-parts.parts c.in_ok-job.ensures.offset (ap (λ n. n + 1) c.line_count-line.ensures)
    (rw c.rest-after.ensures at c.in_ok-parts.ensures.ok)
