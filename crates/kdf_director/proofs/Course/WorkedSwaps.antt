-- Programs that exchange their priorities, worked out by computation.
use Rattle.std.proofs.Common.{◌≡◌, [], ◌∷◌, refl}
use Rattle.kdf_word.specs.Characters.{first_word, words_of}
use Rattle.kdf_decode.specs.Decoding.{decoded}
use Rattle.kdf_arith.specs.Arith.{arith_result}
use Rattle.kdf_arith.specs.Rows.{arith_row}
use Rattle.kdf_arith.specs.Shifts.{shift_row}
use Rattle.kdf_journal.specs.declared.entry.Entry.TheVariants.{Ran}
use Rattle.kdf_journal.specs.declared.entry.Entry.TheVariants as entry
use Rattle.kdf_schedule.specs.declared.event.Event.TheVariants.{Orders, Swap}
use Rattle.kdf_schedule.specs.Calls.{calls_made}
use Rattle.kdf_media.specs.Media.{after_card, after_read, printed}
use Rattle.kdf_transfer.specs.AtOnce.{finished, given, offered}
use Rattle.kdf_processor.specs.Claims.{free_for}
use Rattle.kdf_processor.specs.State.{unclaimed}
use Rattle.kdf_processor.specs.Table.{brought, changed, copied, decision, direct_effect, exit_row, from_top, guarded, indirect_effect, out_effect, plain_row}
use Rattle.kdf_processor.specs.Table.{query_effect, single_row, transfer_of}
use Rattle.kdf_transfer.specs.ByNumber.{device_count}
use Rattle.kdf_course.specs.World.{any_live, can_go, lives, next}
use Rattle.kdf_theory.specs.ByJournal.{flights_of, mine_after, own}
use Rattle.kdf_director.specs.Worked.{journal_under, loops_two}
use Rattle.kdf_theory.specs.World.{first_need}

pub swap_journal : journal_under loops_two (Orders 5 ∷ Swap 0 1 ∷ Orders 5 ∷ Swap 0 1 ∷ Orders 2 ∷ []) ≡ Ran 0 5 ∷ entry.Swap 0 1 ∷ Ran 1 5 ∷ entry.Swap 0 1
    ∷ Ran 0 2 ∷ []
unfolding own flights_of mine_after lives can_go next any_live first_need calls_made device_count unclaimed free_for decoded arith_result arith_row shift_row
    plain_row out_effect brought from_top changed single_row copied indirect_effect direct_effect decision exit_row transfer_of query_effect guarded given
    offered finished after_read first_word words_of printed after_card
swap_journal = refl
