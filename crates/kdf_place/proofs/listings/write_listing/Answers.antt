use Rattle.std.specs.Prelude.{string_bytes}
use Rattle.std.proofs.lemmas.Result.{on_ok_weaker}
use Rattle.kdf_place.specs.Placement.{shown_image}
use Rattle.kdf_place.proofs.Listed.{whole-listing}
use Rattle.kdf_place.proofs.listings.write_listing.Goals as goal

pub returns : goal.returns
returns c =
    on_ok_weaker _ (whole-listing c.args.slot (shown_image c.args.image.now) (string_bytes c.args.out.now) _ _ _ _ _ _ _ c.deref.ensures.value
    c.deref-2.ensures.value
    c.in_ok-write_head.ensures c.in_ok-write_start.ensures c.in_ok-write_words.ensures c.in_ok-write_references.ensures) c.write_end.ensures
