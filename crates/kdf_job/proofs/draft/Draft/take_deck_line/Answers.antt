use Rattle.std.proofs.Common.{◌≡◌, ◌+◌, length, Result, Ok, false, codes, sym, subst, rules}
use Rattle.kdf_text.specs.Lines.{is_text}
use Rattle.kdf_job.specs.declared.fault.JobFault.{JobFault}
use Rattle.kdf_job.specs.Forms.{Form, ADeckLine}
use Rattle.kdf_job.specs.Taking.{Taken}
use Rattle.kdf_job.proofs.Told.{deck_told, deck_takes}
use Rattle.kdf_job.proofs.draft.Draft.take_deck_line.Goals as goal

pub returns : goal.returns
returns c =
    let line = c.args.line.now in
    let isnt : is_text (codes "ENDDECK") line ≡ false = search rules in
    let old = c.args.self.now in
    let new = c.add_deck_line.new.self in
    let h : Taken (Ok (ADeckLine line)) (length line + 1) old new =
    deck_takes line old new c.requires.sound c.requires.place c.requires.fits (search rules) c.add_deck_line.ensures.words c.add_deck_line.ensures.numbers in
    subst (λ (what : Result Form JobFault). Taken what (length line + 1) old new) (sym (deck_told line isnt)) h
