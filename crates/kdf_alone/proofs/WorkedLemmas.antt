-- Programs with devices, worked out by computation.
use Rattle.std.proofs.Common.{◌≡◌, ℕ, List, [], ◌∷◌, ◌++◌, false, true, replicate, refl, ap}
use Rattle.kdf_media.specs.Media.{printed, after_read}
use Rattle.kdf_tape.specs.Tape.{after_skip, after_write}
use Rattle.kdf_word.specs.Characters.{first_word, words_of}
use Rattle.kdf_transfer.specs.AtOnce.{given, offered, finished}
use Rattle.kdf_decode.specs.Decoding.{decoded}
use Rattle.kdf_syllable.specs.Spelling.{spelling}
use Rattle.kdf_arith.specs.Arith.{arith_result}
use Rattle.kdf_arith.specs.Rows.{arith_row}
use Rattle.kdf_processor.specs.declared.registers.Life.TheVariants.{Ended}
use Rattle.kdf_processor.specs.Claims.{free_for}
use Rattle.kdf_processor.specs.Lone.{lone}
use Rattle.kdf_processor.specs.State.{begin, unclaimed}
use Rattle.kdf_processor.specs.Table.{plain_row, out_effect, brought, from_top, changed, single_row, decision, direct_effect, transfer_of, query_effect}
use Rattle.kdf_processor.specs.Table.{guarded}
use Rattle.kdf_code.specs.Code.{code_of}
use Rattle.kdf_usercode.specs.Characters.{characters_word}
use Rattle.kdf_usercode.specs.Constants.{address_item, number_item, item_form, triple_form, octal_value, characters_value, value_form, constant_form}
use Rattle.kdf_usercode.specs.Forms.{form_in}
use Rattle.kdf_usercode.specs.Grammar.{statement_faults, phase_after, statements_of}
use Rattle.kdf_usercode.specs.Jumps.{condition_of, target_form, subroutine_form, test_form, jump_form}
use Rattle.kdf_usercode.specs.Orders.{octal_order, order_form, formless}
use Rattle.kdf_usercode.specs.Phase.{start}
use Rattle.kdf_usercode.specs.Stores.{lettered, store_name, addressed, suffix_of, access_form, address_form}
use Rattle.kdf_place.specs.Assembled.{assembled, image_words}
use Rattle.kdf_place.specs.Placement.{placed}
use Rattle.kdf_alone.specs.Worked.{reading, printing, writing, with_reader, with_printer, with_tape, reads, prints, writes, seen}

-- images

reading_image : image_words 64 reading ≡ 0xA00002010101 ∷ 0x000000200021 ∷ 0xE00002E00005 ∷ 0x21C000015410 ∷ 0x55107010C000 ∷ 0x200921010101 ∷ []
unfolding assembled lettered store_name addressed suffix_of access_form address_form condition_of target_form subroutine_form test_form jump_form form_in
    address_item number_item item_form triple_form octal_value characters_value value_form constant_form start octal_order order_form formless statement_faults
    phase_after statements_of placed spelling
reading_image = refl

printing_image : image_words 64 printing ≡ 0xA00003010101 ∷ 0x00000020003E ∷ 0o0241754200000000 ∷ 0xE00003E00005 ∷ 0x21C000015410 ∷ 0x5510C00002D0
    ∷ 0x002176100921 ∷ []
unfolding assembled lettered store_name addressed suffix_of access_form address_form condition_of target_form subroutine_form test_form jump_form form_in
    address_item number_item item_form triple_form octal_value characters_value value_form constant_form start octal_order order_form formless statement_faults
    phase_after statements_of placed spelling code_of characters_word
printing_image = refl

writing_image : image_words 64 writing ≡ 0xA00003010101 ∷ 0x000000200021 ∷ 0o6400000000000000 ∷ 0xC00002E00004 ∷ 0x21C000015410 ∷ 0x551077107A10
    ∷ 0x7E1409210101 ∷ []
unfolding assembled lettered store_name addressed suffix_of access_form address_form condition_of target_form subroutine_form test_form jump_form form_in
    address_item number_item item_form triple_form octal_value characters_value value_form constant_form start octal_order order_form formless statement_faults
    phase_after statements_of placed spelling code_of characters_word
writing_image = refl

-- programs

pub reading_ends : seen 3 32 33 (reads 11) ≡ record {
  life = Ended;
  ran = 11;
  at = 33;
  tr = false;
  nest = 0o4142434445464750 ∷ [];
  words =
      0o4142434445464750 ∷ 0o5152535455565760 ∷ [];
  claimed = true;
  device = record { place = 16; flag = false; mark = false; blocks = []; recorded = [] };
}
unfolding after_read first_word words_of given offered finished decoded arith_result arith_row free_for unclaimed plain_row out_effect brought from_top changed
    single_row decision direct_effect transfer_of guarded
reading_ends = ap (λ (image : List ℕ). seen 3 32 33 (lone (begin (with_reader image)) [] 11)) reading_image

pub printing_ends : seen 5 32 33 (prints 12) ≡ record {
  life = Ended;
  ran = 12;
  at = 42;
  tr = false;
  nest = [];
  words = 0 ∷ 0o0241754200000000 ∷ [];
  claimed =
      true;
  device = record { place = 1; flag = false; mark = false; blocks = (replicate 8 0 ++ 2 ∷ 33 ∷ 61 ∷ []) ∷ []; recorded = [] };
}
unfolding printed first_word words_of given offered finished decoded arith_result arith_row free_for unclaimed plain_row out_effect brought from_top changed
    single_row decision direct_effect transfer_of guarded
printing_ends = ap (λ (image : List ℕ). seen 5 32 33 (lone (begin (with_printer image)) [] 12)) printing_image

pub writing_ends : seen 6 32 33 (writes 12) ≡ record {
  life = Ended;
  ran = 12;
  at = 40;
  tr = true;
  nest = [];
  words =
      0o4141414141414141 ∷ 0o4242424242424242 ∷ [];
  claimed = true;
  device =
      record {
        place = 2;
        flag = false;
        mark = true;
        blocks = [];
        recorded =
            record { words = 0o4141414141414141 ∷ 0o4242424242424242 ∷ 0o4343434343434343 ∷ []; mark = false }
            ∷ record { words = 0o4141414141414141 ∷ 0o4242424242424242 ∷ []; mark = true } ∷ [];
      };
}
unfolding after_skip after_write first_word words_of given offered finished decoded arith_result arith_row free_for unclaimed plain_row out_effect brought
    from_top changed single_row decision direct_effect transfer_of query_effect guarded
writing_ends = ap (λ (image : List ℕ). seen 6 32 33 (lone (begin (with_tape image)) [] 12)) writing_image
