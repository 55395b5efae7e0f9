use Rattle.std.proofs.Common.{◌≡◌, take}
use Rattle.kdf_account.specs.Moments.{entries_of}
use Rattle.kdf_facts.proofs.run.go_through.Given as goal

abbrev pub invariant-loop-entry : goal.invariant-loop-entry
invariant-loop-entry g l = entries_of l.account ≡ take l.entry-index l.fn.journal.entries
