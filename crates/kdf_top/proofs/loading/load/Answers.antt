use Rattle.kdf_top.proofs.LoadedDecks.{all_decks}
use Rattle.kdf_top.proofs.loading.load.Goals as goal

pub assemble_decks-requires : goal.assemble_decks-requires
assemble_decks-requires c = rw c.deref.ensures.value (all_decks c.in_ok-job.job c.in_ok-job.ensures.well_formed)
