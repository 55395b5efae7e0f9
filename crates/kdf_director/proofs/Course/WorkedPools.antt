-- Programs that take a punch from the pool in turn, worked out by computation.
use Rattle.std.proofs.Common.{◌≡◌, [], ◌∷◌, refl}
use Rattle.kdf_word.specs.Characters.{first_word, words_of}
use Rattle.kdf_decode.specs.Decoding.{decoded}
use Rattle.kdf_arith.specs.Arith.{arith_result}
use Rattle.kdf_arith.specs.Rows.{arith_row}
use Rattle.kdf_arith.specs.Shifts.{shift_row}
use Rattle.kdf_journal.specs.declared.entry.Entry.TheVariants.{Ran, Start, Take, Ended, Busy, Wait, Idle}
use Rattle.kdf_journal.specs.declared.entry.Entry.TheVariants as entry
use Rattle.kdf_journal.specs.declared.kind.Kind.TheVariants.{Tp}
use Rattle.kdf_schedule.specs.Calls.{calls_made}
use Rattle.kdf_media.specs.Media.{after_card, after_read, printed}
use Rattle.kdf_transfer.specs.AtOnce.{finished, given, offered}
use Rattle.kdf_processor.specs.Claims.{free_for, least_pooled}
use Rattle.kdf_processor.specs.State.{lendings, unclaimed}
use Rattle.kdf_processor.specs.Table.{brought, changed, copied, decision, direct_effect, exit_row, from_top, guarded, indirect_effect, out_effect, plain_row}
use Rattle.kdf_processor.specs.Table.{query_effect, single_row, transfer_of}
use Rattle.kdf_transfer.specs.ByNumber.{device_count}
use Rattle.kdf_course.specs.World.{any_live, can_go, lives, next}
use Rattle.kdf_theory.specs.ByJournal.{flights_of, free_after, mine_after, own}
use Rattle.kdf_director.specs.Worked.{borrowers, borrowing, journal_under, one_stint, stints_seen}
use Rattle.kdf_theory.specs.World.{first_need}

pub pool_journal : journal_under borrowers borrowing ≡ Ran 0 4 ∷ Take 0 9 ∷ Ran 0 4 ∷ Start 0 9 8 ∷ Ran 0 1 ∷ Busy 0 9 ∷ Ran 1 3 ∷ Wait 1 Tp ∷ Idle 6
    ∷ entry.End 9 ∷ Ran 0 1 ∷ Ended 0 ∷ Ran 1 1 ∷ Take 1 9 ∷ Ran 1 4 ∷ Start 1 9 8 ∷ Ran 1 1 ∷ Busy 1 9 ∷ Idle 12 ∷ entry.End 9 ∷ Ran 1 1 ∷ Ended 1 ∷ []
unfolding own flights_of mine_after lives can_go next any_live first_need calls_made device_count unclaimed free_for least_pooled free_after lendings decoded
    arith_result arith_row shift_row plain_row out_effect brought from_top changed single_row copied indirect_effect direct_effect decision exit_row transfer_of
    query_effect guarded given offered finished after_read first_word words_of printed after_card
pool_journal = refl

pub pool_first : stints_seen borrowers (journal_under borrowers borrowing) 0 ≡ one_stint
unfolding own flights_of mine_after lives can_go next any_live first_need calls_made device_count unclaimed free_for least_pooled free_after lendings decoded
    arith_result arith_row shift_row plain_row out_effect brought from_top changed single_row copied indirect_effect direct_effect decision exit_row transfer_of
    query_effect guarded given offered finished after_read first_word words_of printed after_card
pool_first = refl

pub pool_second : stints_seen borrowers (journal_under borrowers borrowing) 1 ≡ one_stint
unfolding own flights_of mine_after lives can_go next any_live first_need calls_made device_count unclaimed free_for least_pooled free_after lendings decoded
    arith_result arith_row shift_row plain_row out_effect brought from_top changed single_row copied indirect_effect direct_effect decision exit_row transfer_of
    query_effect guarded given offered finished after_read first_word words_of printed after_card
pool_second = refl
