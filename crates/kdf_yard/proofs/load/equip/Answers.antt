use Rattle.std.proofs.Common.{◌≡◌, ◌+◌, ◌≤◌, length, map, true, Option, None, sym, ap, ◌∙◌, subst}
use Rattle.std.specs.List.{All}
use Rattle.kdf_relocate.specs.Windows.{have_windows, windows_from}
use Rattle.kdf_journal.specs.declared.need.Need.{Need}
use Rattle.kdf_yard.specs.declared.slot.Loaded.{Loaded}
use Rattle.kdf_yard.specs.Fields.Filled.{first_seat, idle_spot, loaded, sizes_of, with_images, zero_cells}
use Rattle.kdf_yard.specs.Fields.Parts.{window_at}
use Rattle.kdf_transfer.specs.ByNumber.{by_number}
use Rattle.kdf_yard.proofs.Loading.LoadedMachine.{all_within, is_loaded, is_yard}
use Rattle.kdf_yard.proofs.Loading.SizesLoaded.{sizes_fit}
use Rattle.kdf_yard.proofs.load.equip.Goals as goal
use Rattle.kdf_limits.specs.declared.store.TheConstants.{DIRECTOR_WORDS, STORE_WORDS}

pub windows_of-windows-requires : goal.windows_of-windows-requires
windows_of-windows-requires c =
    subst (λ xs. have_windows (sizes_of (map loaded xs)) ≡ true) (sym c.deref.ensures.value)
    (sizes_fit (map loaded c.args.slots.items) (λ i l lt. (c.requires.each i l lt).groups) c.requires.total)

pub filled_store-requires : goal.filled_store-requires
filled_store-requires c =
    subst (All (λ (l : Loaded). (window_at c.windows_of-windows.result l.p).base + length l.words.items ≤ STORE_WORDS)) (sym c.deref-2.ensures.value)
    (all_within c.args.slots.items c.windows_of-windows.result c.requires
    (c.windows_of-windows.ensures.value ∙ ap (λ xs. windows_from DIRECTOR_WORDS (sizes_of (map loaded xs))) c.deref.ensures.value)
    c.windows_of-windows.ensures.inside)

pub invariant_of-result : goal.invariant_of-result
invariant_of-result c =
    is_yard _ c.args.slots.items _ _ _ c.requires
    (c.windows_of-windows.ensures.value ∙ ap (λ xs. windows_from DIRECTOR_WORDS (sizes_of (map loaded xs))) c.deref.ensures.value)
    c.windows_of-windows.ensures.inside
    c.windows_of-windows.ensures.apart
    (c.in_ok-store.ensures ∙ ap (λ xs. with_images c.windows_of-windows.result zero_cells (map loaded xs)) c.deref-2.ensures.value)
    (c.in_ok-programs.ensures.seats ∙ ap (map (λ (l : Loaded). first_seat (loaded l))) c.deref-3.ensures.value)
    (c.in_ok-programs.ensures.no_hold ∙ ap (map (λ (l : Loaded). (let o : Option Need = None in o))) c.deref-3.ensures.value)
    (c.in_ok-places.ensures.spots ∙ ap (λ xs. by_number (idle_spot (map loaded xs))) c.deref-4.ensures.value)
    c.in_ok-places.ensures.dry

pub returns : goal.returns
returns c =
    is_loaded _ c.args.slots.items _ _ _ c.requires
    (c.windows_of-windows.ensures.value ∙ ap (λ xs. windows_from DIRECTOR_WORDS (sizes_of (map loaded xs))) c.deref.ensures.value)
    c.windows_of-windows.ensures.inside
    c.windows_of-windows.ensures.apart
    (c.in_ok-store.ensures ∙ ap (λ xs. with_images c.windows_of-windows.result zero_cells (map loaded xs)) c.deref-2.ensures.value)
    (c.in_ok-programs.ensures.seats ∙ ap (map (λ (l : Loaded). first_seat (loaded l))) c.deref-3.ensures.value)
    (c.in_ok-programs.ensures.no_hold ∙ ap (map (λ (l : Loaded). (let o : Option Need = None in o))) c.deref-3.ensures.value)
    (c.in_ok-places.ensures.spots ∙ ap (λ xs. by_number (idle_spot (map loaded xs))) c.deref-4.ensures.value)
    c.in_ok-places.ensures.dry
