use Rattle.kdf_top.proofs.LoadedDecks.{all_decks}
use Rattle.kdf_facts.proofs.resume.run_of.Goals as goal

pub assemble_decks-requires : goal.assemble_decks-requires
assemble_decks-requires g c = rw c.deref.ensures.value (all_decks c.args.job.now c.requires.job)
