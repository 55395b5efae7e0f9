use Rattle.kdf_snapshot.proofs.SeenWords.{words_seen}
use Rattle.kdf_snapshot.proofs.laws.words_of_seen.Goals as goal

pub returns : goal.returns
returns c = λ m job shows has. words_seen m shows job.slots has
