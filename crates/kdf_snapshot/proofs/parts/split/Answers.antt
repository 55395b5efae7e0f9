use Rattle.std.proofs.Common.{◌≡◌, false, Ok, ◌∙◌, subst, refl}
use Rattle.std.proofs.lemmas.Result.{err_from_is_err_and}
use Rattle.kdf_text.specs.Lines.{is_text, line, lines}
use Rattle.kdf_snapshot.specs.Snapshot.{journal_line}
use Rattle.kdf_snapshot.proofs.Dividing.{after-head, ended, headed, inside, made, no-end, no-journal, says-on, sealing}
use Rattle.kdf_snapshot.proofs.parts.split.Goals as goal

pub returns-in_err-pass_head-clause-fault : goal.returns-in_err-pass_head-clause-fault
returns-in_err-pass_head-clause-fault c =
    let p = err_from_is_err_and c.from_residual.result c.from_residual.ensures.1 in
    rw (p.1, p.2, c.in_err-pass_head.ensures.fault.1, c.new-at.ensures.number)
    (no-journal c.args.first_line c.args.bytes.now
    (subst (λ bs. is_text journal_line (line (lines bs) 1) ≡ false) c.new-at.ensures.rest c.in_err-pass_head.ensures.fault.0))

pub returns-in_err-entries-clause-fault : goal.returns-in_err-entries-clause-fault
returns-in_err-entries-clause-fault c =
    let p = err_from_is_err_and c.from_residual-in_err-entries.result c.from_residual-in_err-entries.ensures.1 in
    let from = c.new-at.ensures in
    let h = headed c.args.first_line c.args.bytes.now c.new-at.result c.pass_head.new.at from.rest from.number from.offset c.in_ok-pass_head.ensures.ok.0
    c.in_ok-pass_head.ensures.ok.1 in
    rw (p.1, p.2) (says-on c.in_err-entries.field-0.0 c.args.first_line c.args.bytes.now c.pass_head.new.at h c.in_err-entries.ensures.fault)

pub returns-in_default-clause-fault : goal.returns-in_default-clause-fault
returns-in_default-clause-fault c =
    let from = c.new-at.ensures in
    let first = c.args.first_line in
    let bytes = c.args.bytes.now in
    let es = c.in_ok-entries.entries.items in
    let h = headed first bytes c.new-at.result c.pass_head.new.at from.rest from.number from.offset c.in_ok-pass_head.ensures.ok.0
    c.in_ok-pass_head.ensures.ok.1 in
    let s = sealing first bytes es c.pass_head.new.at c.take_entries.new.at h c.in_ok-entries.ensures.passed in
    after-head first bytes c.pass_head.new.at (Ok es) h c.in_ok-entries.ensures.ok
    ∙ no-end first bytes es c.take_entries.new.at c.pass_sealed.new.at s c.in_default.ensures.none

pub returns-clause-ok : goal.returns-clause-ok
returns-clause-ok c =
    let from = c.new-at.ensures in
    let first = c.args.first_line in
    let bytes = c.args.bytes.now in
    let es = c.in_ok-entries.entries.items in
    let h = headed first bytes c.new-at.result c.pass_head.new.at from.rest from.number from.offset c.in_ok-pass_head.ensures.ok.0
    c.in_ok-pass_head.ensures.ok.1 in
    let s = sealing first bytes es c.pass_head.new.at c.take_entries.new.at h c.in_ok-entries.ensures.passed in
    let e = ended first bytes es c.take_entries.new.at c.pass_sealed.new.at c.in-Some.seal_to s c.in-Some.ensures.some in
    after-head first bytes c.pass_head.new.at (Ok es) h c.in_ok-entries.ensures.ok
    ∙ made first bytes es c.take_entries.new.at.offset c.in-Some.seal_to c.min.result c.pass_sealed.new.at e c.min.ensures

pub returns-clause-inside : goal.returns-clause-inside
returns-clause-inside c =
    let from = c.new-at.ensures in
    let first = c.args.first_line in
    let bytes = c.args.bytes.now in
    let es = c.in_ok-entries.entries.items in
    let h = headed first bytes c.new-at.result c.pass_head.new.at from.rest from.number from.offset c.in_ok-pass_head.ensures.ok.0
    c.in_ok-pass_head.ensures.ok.1 in
    let s = sealing first bytes es c.pass_head.new.at c.take_entries.new.at h c.in_ok-entries.ensures.passed in
    let e = ended first bytes es c.take_entries.new.at c.pass_sealed.new.at c.in-Some.seal_to s c.in-Some.ensures.some in
    inside first bytes (record {
      entries = c.in_ok-entries.entries;
      seal_from = c.take_entries.new.at.offset;
      seal_to = c.in-Some.seal_to;
      more_from =
          c.min.result;
      more_line = c.pass_sealed.new.at.lines.number;
    }) c.pass_sealed.new.at e c.min.ensures refl
