-- Programs with transfers in flight, worked out by computation.
use Rattle.std.proofs.Common.{◌≡◌, ◌∙◌, [], ◌∷◌, ap, false, refl, sym}
use Rattle.std.specs.Prelude.{replicate}
use Rattle.kdf_word.specs.Characters.{first_word, words_of}
use Rattle.kdf_decode.specs.Decoding.{decoded}
use Rattle.kdf_arith.specs.Arith.{arith_result}
use Rattle.kdf_arith.specs.Rows.{arith_row}
use Rattle.kdf_arith.specs.Shifts.{shift_row}
use Rattle.kdf_journal.specs.declared.entry.Entry.TheVariants.{Ran, Start, Answer, Fail, Ended, Lov, Busy, Idle}
use Rattle.kdf_journal.specs.declared.entry.Entry.TheVariants as entry
use Rattle.kdf_journal.specs.declared.failure.Failure.TheVariants.{Liv}
use Rattle.kdf_journal.specs.Steps.{steps}
use Rattle.kdf_schedule.specs.declared.event.Event.TheVariants.{Orders, Move, End, Clock}
use Rattle.kdf_schedule.specs.Calls.{calls_made}
use Rattle.kdf_media.specs.Media.{after_card, after_read, printed}
use Rattle.kdf_transfer.specs.AtOnce.{finished, given, offered}
use Rattle.kdf_transfer.specs.Examples.{having, placed}
use Rattle.kdf_processor.specs.Claims.{free_for}
use Rattle.kdf_processor.specs.State.{unclaimed}
use Rattle.kdf_processor.specs.Table.{brought, changed, copied, decision, direct_effect, exit_row, from_top, guarded, indirect_effect, out_effect, plain_row}
use Rattle.kdf_processor.specs.Table.{query_effect, single_row, transfer_of}
use Rattle.kdf_transfer.specs.ByNumber.{device_count}
use Rattle.kdf_course.specs.Cut.{cut}
use Rattle.kdf_course.specs.World.{any_live, can_go, lives, next}
use Rattle.kdf_theory.specs.ByJournal.{flights_of, mine_after, own}
use Rattle.kdf_director.specs.Worked.{asks, device_seen, journal_under, keeps, looks, loops, overruns, prints, punches, reads, reads_journal, words_seen}
use Rattle.kdf_theory.specs.World.{first_need}

pub tape_journal : journal_under (reads ∷ []) (Orders 12 ∷ End 3 ∷ Orders 5 ∷ []) ≡ Ran 0 8 ∷ Start 0 3 8 ∷ Lov 0 1 ∷ Idle 3 ∷ entry.End 3 ∷ Ran 0 3 ∷ Ended 0
    ∷ []
unfolding own flights_of mine_after lives can_go next any_live first_need calls_made device_count unclaimed free_for decoded arith_result arith_row shift_row
    plain_row out_effect brought from_top changed single_row copied indirect_effect direct_effect decision exit_row transfer_of query_effect guarded given
    offered finished after_read first_word words_of printed after_card
tape_journal = refl

-- what it is cut to
pub cut_idle : cut 10 reads_journal ≡ Ran 0 8 ∷ Start 0 3 8 ∷ Lov 0 1 ∷ Idle 1 ∷ []
unfolding steps
cut_idle = ap (cut 10) tape_journal

pub cut_before : cut 7 reads_journal ≡ Ran 0 7 ∷ []
unfolding steps
cut_before = ap (cut 7) tape_journal

pub cut_note : cut 8 reads_journal ≡ Ran 0 8 ∷ Start 0 3 8 ∷ []
unfolding steps
cut_note = ap (cut 8) tape_journal

pub cut_orders : cut 15 reads_journal ≡ Ran 0 8 ∷ Start 0 3 8 ∷ Lov 0 1 ∷ Idle 3 ∷ entry.End 3 ∷ Ran 0 2 ∷ []
unfolding steps
cut_orders = ap (cut 15) tape_journal

pub cut_all : cut 18 reads_journal ≡ reads_journal
unfolding steps
cut_all = ap (cut 18) tape_journal ∙ sym tape_journal

pub tape_words : words_seen (reads ∷ []) (journal_under (reads ∷ []) (Orders 12 ∷ End 3 ∷ [])) ≡ 0o4142434445464750 ∷ 0o5152535455565760 ∷ []
unfolding own flights_of mine_after lives can_go next any_live first_need calls_made device_count unclaimed free_for decoded arith_result arith_row shift_row
    plain_row out_effect brought from_top changed single_row copied indirect_effect direct_effect decision exit_row transfer_of query_effect guarded given
    offered finished after_read first_word words_of printed after_card
tape_words = refl

pub tape_device : device_seen (reads ∷ []) (journal_under (reads ∷ []) (Orders 12 ∷ End 3 ∷ [])) 3 ≡ placed 16 false
unfolding own flights_of mine_after lives can_go next any_live first_need calls_made device_count unclaimed free_for decoded arith_result arith_row shift_row
    plain_row out_effect brought from_top changed single_row copied indirect_effect direct_effect decision exit_row transfer_of query_effect guarded given
    offered finished after_read first_word words_of printed after_card
tape_device = refl

pub half_none : words_seen (reads ∷ []) (journal_under (reads ∷ []) (Orders 12 ∷ [])) ≡ 0 ∷ 0 ∷ []
unfolding own flights_of mine_after lives can_go next any_live first_need calls_made device_count unclaimed free_for decoded arith_result arith_row shift_row
    plain_row out_effect brought from_top changed single_row copied indirect_effect direct_effect decision exit_row transfer_of query_effect guarded given
    offered finished after_read first_word words_of printed after_card
half_none = refl

pub half_one : words_seen (reads ∷ []) (journal_under (reads ∷ []) (Orders 12 ∷ Move 3 1 ∷ [])) ≡ 0o4142434445464750 ∷ 0 ∷ []
unfolding own flights_of mine_after lives can_go next any_live first_need calls_made device_count unclaimed free_for decoded arith_result arith_row shift_row
    plain_row out_effect brought from_top changed single_row copied indirect_effect direct_effect decision exit_row transfer_of query_effect guarded given
    offered finished after_read first_word words_of printed after_card
half_one = refl

pub half_both : words_seen (reads ∷ []) (journal_under (reads ∷ []) (Orders 12 ∷ Move 3 1 ∷ Move 3 9 ∷ [])) ≡ 0o4142434445464750 ∷ 0o5152535455565760 ∷ []
unfolding own flights_of mine_after lives can_go next any_live first_need calls_made device_count unclaimed free_for decoded arith_result arith_row shift_row
    plain_row out_effect brought from_top changed single_row copied indirect_effect direct_effect decision exit_row transfer_of query_effect guarded given
    offered finished after_read first_word words_of printed after_card
half_both = refl

pub half_device : device_seen (reads ∷ []) (journal_under (reads ∷ []) (Orders 12 ∷ Move 3 1 ∷ Move 3 9 ∷ [])) 3 ≡ placed 0 false
unfolding own flights_of mine_after lives can_go next any_live first_need calls_made device_count unclaimed free_for decoded arith_result arith_row shift_row
    plain_row out_effect brought from_top changed single_row copied indirect_effect direct_effect decision exit_row transfer_of query_effect guarded given
    offered finished after_read first_word words_of printed after_card
half_device = refl

pub half_journal : journal_under (reads ∷ []) (Orders 12 ∷ Move 3 1 ∷ Move 3 9 ∷ Orders 2 ∷ []) ≡ Ran 0 8 ∷ Start 0 3 8 ∷ Lov 0 1 ∷ Idle 3 ∷ entry.Move 3 1
    ∷ entry.Move 3 9 ∷ Idle 2 ∷ []
unfolding own flights_of mine_after lives can_go next any_live first_need calls_made device_count unclaimed free_for decoded arith_result arith_row shift_row
    plain_row out_effect brought from_top changed single_row copied indirect_effect direct_effect decision exit_row transfer_of query_effect guarded given
    offered finished after_read first_word words_of printed after_card
half_journal = refl

pub two_journal : journal_under (reads ∷ loops ∷ []) (Orders 20 ∷ End 3 ∷ Orders 20 ∷ []) ≡ Ran 0 8 ∷ Start 0 3 8 ∷ Lov 0 1 ∷ Ran 1 11 ∷ entry.End 3 ∷ Ran 0 3
    ∷ Ended 0 ∷ Ran 1 17 ∷ []
unfolding own flights_of mine_after lives can_go next any_live first_need calls_made device_count unclaimed free_for decoded arith_result arith_row shift_row
    plain_row out_effect brought from_top changed single_row copied indirect_effect direct_effect decision exit_row transfer_of query_effect guarded given
    offered finished after_read first_word words_of printed after_card
two_journal = refl

pub asks_journal : journal_under (asks ∷ []) (Orders 15 ∷ Clock 50 ∷ End 3 ∷ Orders 10 ∷ []) ≡ Ran 0 8 ∷ Start 0 3 8 ∷ Ran 0 1 ∷ Answer 0 1 ∷ Ran 0 2
    ∷ Answer 0 0 ∷ Busy 0 3 ∷ Idle 3 ∷ entry.Clock 50 ∷ entry.End 3 ∷ Ran 0 2 ∷ Answer 0 0 ∷ Ran 0 2 ∷ Answer 0 50 ∷ Ran 0 2 ∷ Ended 0 ∷ []
unfolding own flights_of mine_after lives can_go next any_live first_need calls_made device_count unclaimed free_for decoded arith_result arith_row shift_row
    plain_row out_effect brought from_top changed single_row copied indirect_effect direct_effect decision exit_row transfer_of query_effect guarded given
    offered finished after_read first_word words_of printed after_card
asks_journal = refl

pub punch_journal : journal_under (punches ∷ []) (Orders 12 ∷ End 1 ∷ Orders 5 ∷ []) ≡ Ran 0 8 ∷ Start 0 1 8 ∷ Ran 0 1 ∷ Busy 0 1 ∷ Idle 2 ∷ entry.End 1
    ∷ Ran 0 1 ∷ Ended 0 ∷ []
unfolding own flights_of mine_after lives can_go next any_live first_need calls_made device_count unclaimed free_for decoded arith_result arith_row shift_row
    plain_row out_effect brought from_top changed single_row copied indirect_effect direct_effect decision exit_row transfer_of query_effect guarded given
    offered finished after_read first_word words_of printed after_card
punch_journal = refl

pub punch_before : device_seen (punches ∷ []) (journal_under (punches ∷ []) (Orders 12 ∷ [])) 1 ≡ placed 0 false
unfolding own flights_of mine_after lives can_go next any_live first_need calls_made device_count unclaimed free_for decoded arith_result arith_row shift_row
    plain_row out_effect brought from_top changed single_row copied indirect_effect direct_effect decision exit_row transfer_of query_effect guarded given
    offered finished after_read first_word words_of printed after_card
punch_before = refl

pub punch_behind : device_seen (punches ∷ []) (journal_under (punches ∷ []) (Orders 12 ∷ End 1 ∷ [])) 1 ≡ having (replicate 8 0 ∷ [])
unfolding own flights_of mine_after lives can_go next any_live first_need calls_made device_count unclaimed free_for decoded arith_result arith_row shift_row
    plain_row out_effect brought from_top changed single_row copied indirect_effect direct_effect decision exit_row transfer_of query_effect guarded given
    offered finished after_read first_word words_of printed after_card
punch_behind = refl

pub keeps_journal : journal_under (keeps ∷ []) (Orders 12 ∷ []) ≡ Ran 0 8 ∷ Start 0 3 8 ∷ Ran 0 1 ∷ Lov 0 1 ∷ Idle 2 ∷ []
unfolding own flights_of mine_after lives can_go next any_live first_need calls_made device_count unclaimed free_for decoded arith_result arith_row shift_row
    plain_row out_effect brought from_top changed single_row copied indirect_effect direct_effect decision exit_row transfer_of query_effect guarded given
    offered finished after_read first_word words_of printed after_card
keeps_journal = refl

pub print_journal : journal_under (prints ∷ []) (Orders 20 ∷ End 2 ∷ Orders 5 ∷ []) ≡ Ran 0 10 ∷ Start 0 2 10 ∷ Ran 0 1 ∷ Lov 0 1 ∷ Idle 8 ∷ entry.End 2
    ∷ Ran 0 3 ∷ Ended 0 ∷ []
unfolding own flights_of mine_after lives can_go next any_live first_need calls_made device_count unclaimed free_for decoded arith_result arith_row shift_row
    plain_row out_effect brought from_top changed single_row copied indirect_effect direct_effect decision exit_row transfer_of query_effect guarded given
    offered finished after_read first_word words_of printed after_card
print_journal = refl

pub print_words : words_seen (prints ∷ []) (journal_under (prints ∷ []) (Orders 20 ∷ End 2 ∷ Orders 5 ∷ [])) ≡ 0 ∷ 0 ∷ []
unfolding own flights_of mine_after lives can_go next any_live first_need calls_made device_count unclaimed free_for decoded arith_result arith_row shift_row
    plain_row out_effect brought from_top changed single_row copied indirect_effect direct_effect decision exit_row transfer_of query_effect guarded given
    offered finished after_read first_word words_of printed after_card
print_words = refl

pub print_device : device_seen (prints ∷ []) (journal_under (prints ∷ []) (Orders 20 ∷ End 2 ∷ Orders 5 ∷ [])) 2
    ≡ having ((0o50 ∷ 0o45 ∷ 0o54 ∷ 0o54 ∷ 0o57 ∷ 0 ∷ 0 ∷ 0 ∷ []) ∷ [])
unfolding own flights_of mine_after lives can_go next any_live first_need calls_made device_count unclaimed free_for decoded arith_result arith_row shift_row
    plain_row out_effect brought from_top changed single_row copied indirect_effect direct_effect decision exit_row transfer_of query_effect guarded given
    offered finished after_read first_word words_of printed after_card
print_device = refl

pub fail_journal : journal_under (overruns ∷ []) (Orders 12 ∷ End 1 ∷ Orders 5 ∷ []) ≡ Ran 0 8 ∷ Start 0 1 8 ∷ Busy 0 1 ∷ Idle 3 ∷ entry.End 1 ∷ Ran 0 1
    ∷ Fail 0 Liv ∷ []
unfolding own flights_of mine_after lives can_go next any_live first_need calls_made device_count unclaimed free_for decoded arith_result arith_row shift_row
    plain_row out_effect brought from_top changed single_row copied indirect_effect direct_effect decision exit_row transfer_of query_effect guarded given
    offered finished after_read first_word words_of printed after_card
fail_journal = refl

pub fail_device : device_seen (overruns ∷ []) (journal_under (overruns ∷ []) (Orders 12 ∷ End 1 ∷ Orders 5 ∷ [])) 1 ≡ having (replicate 8 0 ∷ [])
unfolding own flights_of mine_after lives can_go next any_live first_need calls_made device_count unclaimed free_for decoded arith_result arith_row shift_row
    plain_row out_effect brought from_top changed single_row copied indirect_effect direct_effect decision exit_row transfer_of query_effect guarded given
    offered finished after_read first_word words_of printed after_card
fail_device = refl

pub looks_journal : journal_under (looks ∷ []) (Orders 12 ∷ []) ≡ Ran 0 8 ∷ Start 0 3 8 ∷ Ran 0 1 ∷ Answer 0 1 ∷ Ran 0 1 ∷ Busy 0 3 ∷ Idle 1 ∷ []
unfolding own flights_of mine_after lives can_go next any_live first_need calls_made device_count unclaimed free_for decoded arith_result arith_row shift_row
    plain_row out_effect brought from_top changed single_row copied indirect_effect direct_effect decision exit_row transfer_of query_effect guarded given
    offered finished after_read first_word words_of printed after_card
looks_journal = refl
