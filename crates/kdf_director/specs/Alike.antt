-- What it is for two journals to come to equal moments.
use Rattle.std.specs.Prelude.{◌≡◌, ℕ, List}
use Rattle.kdf_journal.specs.declared.entry.Entry.{Entry}
use Rattle.kdf_journal.specs.Counts.{answers, clock, holder, last_hold, moved_if, over, pending, priorities, ran}

-- Both tell the same of each program: how many orders it has obeyed, what it was answered, whether it is over, and what
-- held it when it was last its turn. They tell the same of each device: which order of which program began the transfer
-- that is in flight on it, how many words were called for since, and which live program has it from the pool. And they
-- tell the same time and the same priorities.
pub record AreAlike (J K : List Entry) : Type 0 where
  pub orders : (p : ℕ) → ran p J ≡ ran p K
  pub answered : (p : ℕ) → answers p J ≡ answers p K
  pub ended : (p : ℕ) → over p J ≡ over p K
  pub hold : (p : ℕ) → last_hold p J ≡ last_hold p K
  pub flying : (d : ℕ) → pending d J ≡ pending d K
  pub called : (d : ℕ) → moved_if d J ≡ moved_if d K
  pub lent : (d : ℕ) → holder d J ≡ holder d K
  pub time : clock J ≡ clock K
  pub order : priorities J ≡ priorities K
