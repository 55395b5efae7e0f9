use Rattle.std.proofs.Common.{List, ℕ, map, string_bytes, Global, sym, subst}
use Rattle.kdf_engine.specs.Told.{AreFacts}
use Rattle.kdf_engine.proofs.Told.{told}
use Rattle.kdf_engine.proofs.facts.tell_words.Goals as goal

pub returns-in-Ok : goal.returns-in-Ok
returns-in-Ok c =
    let words = map (string_bytes {Z = Global}) c.args.words.now in
    let job = c.args.job.now in
    let due = c.in-Ok.ensures in
    let out = c.hand_out.ensures in
    told words job c.args.room.now c.hand_out.new.room c.deref.result.now c.in-Ok.status _ _ due.called due.answer due.usage
    (subst (λ (xs : List ℕ). AreFacts words job xs) (sym c.deref.ensures.value)
    (λ run. record { fault = due.fault run; deck = due.deck run; run = due.run run }))
    out.size out.fits out.text out.short out.short_writes out.beyond
