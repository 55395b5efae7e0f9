-- Of which word the next order asks the service depends on no time, and on no holder of a device.
use Rattle.std.proofs.Common.{◌≡◌, ℕ, zero, suc, ◌/◌, Bool, true, false, List, [], ◌∷◌, ◌++◌, Option, Some, None, cond, refl, sym, ap, ◌∙◌}
use Rattle.std.specs.Prelude.{nat_lt}
use Rattle.std.proofs.lemmas.List.{append-nil}
use Rattle.kdf_processor.specs.declared.registers.Registers.{Registers}
use Rattle.kdf_journal.specs.declared.need.Need.{Need}
use Rattle.kdf_journal.specs.declared.need.Need.TheVariants.{Group}
use Rattle.kdf_processor.specs.Ahead.{act_word, word_asked}
use Rattle.kdf_processor.specs.Effect.{Effect, Failing, Ending, Changing, Fetching, Keeping, Testing, Starting, Asking, Claiming, Returning, Spooling, IsBusy}
use Rattle.kdf_processor.specs.Effect.{IsOut, Time, FreeOf, OfService}
use Rattle.kdf_processor.specs.Needs.{count_at, effect_at, effect_needs, fetch_needs, group_of, needs_at, syllable_needs}
use Rattle.kdf_processor.specs.Outcome.{done, held_or, outcome}
use Rattle.kdf_processor.specs.Table.{syllable_after}
use Rattle.kdf_processor.specs.View.{View, first_pending}
use Rattle.kdf_processor.proofs.Words.{done_word}
use Rattle.kdf_yard.specs.Fields.Parts.{Part}
use Rattle.kdf_yard.specs.Fields.Shared.{Setting, is_out_of, view}
use Rattle.kdf_places.specs.Shared.{Shared}

-- whether the groups of a fetch are out is nothing that a program is told
one_more : (q : Part) (t w : Setting) (s : Shared) (b : Bool) (g : ℕ) (rest : List Need)
    → first_pending (view q t s) rest ≡ first_pending (view q w s) rest
    → first_pending (view q t s) (cond b (Group g ∷ rest) []) ≡ first_pending (view q w s) (cond b (Group g ∷ rest) [])
one_more q t w s true g rest alike = ap (λ (o : Option Need). cond (is_out_of q s g) (Some (Group g)) o) alike
one_more q t w s false g rest alike = refl

fetch_alike : (q : Part) (t w : Setting) (s : Shared) (n size at : ℕ)
    → first_pending (view q t s) (syllable_needs n size at) ≡ first_pending (view q w s) (syllable_needs n size at)
fetch_alike q t w s zero size at = refl
fetch_alike q t w s (suc n) size at =
    one_more q t w s (nat_lt (at / 6) size) (group_of (at / 6)) (syllable_needs n size (syllable_after at 1)) (fetch_alike q t w s n size (syllable_after at 1))

-- the word that is asked, unless the order is held up
abbrev unless_held : Option Need → Option ℕ → Option ℕ
unless_held (Some need) word = None
unless_held None word = word

word_unless : (v : View) (r : Registers) (e : Effect) (o : Option Need) → act_word (held_or r o (done v r e)).act ≡ unless_held o (word_asked e)
word_unless v r e (Some need) = refl
word_unless v r e None = done_word v r e

neither : (o p : Option Need) → unless_held o None ≡ unless_held p None
neither None None = refl
neither None (Some need) = refl
neither (Some need) None = refl
neither (Some need) (Some other) = refl

-- an order that asks the service needs nothing but its fetch
effect_alike : (v u : View) (fetch : List Need) (mine : List ℕ) (e : Effect) → first_pending v fetch ≡ first_pending u fetch
    → unless_held (first_pending v (fetch ++ effect_needs mine e)) (word_asked e) ≡ unless_held (first_pending u (fetch ++ effect_needs mine e)) (word_asked e)
effect_alike v u fetch mine (Failing kind) alike = neither _ _
effect_alike v u fetch mine (Ending after) alike = neither _ _
effect_alike v u fetch mine (Changing after) alike = neither _ _
effect_alike v u fetch mine (Fetching a after) alike = neither _ _
effect_alike v u fetch mine (Keeping a w after) alike = neither _ _
effect_alike v u fetch mine (Testing d what after) alike = neither _ _
effect_alike v u fetch mine (Starting d o first last after) alike = neither _ _
effect_alike v u fetch mine (Asking (IsBusy d) after) alike = neither _ _
effect_alike v u fetch mine (Asking (IsOut first last) after) alike = neither _ _
effect_alike v u fetch mine (Asking Time after) alike = neither _ _
effect_alike v u fetch mine (Asking (FreeOf kind) after) alike = neither _ _
effect_alike v u fetch mine (Asking (OfService word) after) alike =
    rw (append-nil fetch) (ap (λ (o : Option Need). unless_held o (Some word)) alike)
effect_alike v u fetch mine (Claiming d after) alike = neither _ _
effect_alike v u fetch mine (Returning pooled d after) alike = neither _ _
effect_alike v u fetch mine (Spooling stream first last after) alike = neither _ _

pub word_alike : (q : Part) (t w : Setting) (s : Shared) (r : Registers) → act_word (outcome (view q t s) r).act ≡ act_word (outcome (view q w s) r).act
word_alike q t w s r =
    let v = view q t s in
    let u = view q w s in
    let e = effect_at v.claims v.word r in
    word_unless v r e (first_pending v (needs_at v.claims v.word r v.mine))
    ∙ effect_alike v u (fetch_needs v.claims.size v.word r.at) v.mine e (fetch_alike q t w s (count_at v.claims.size v.word r.at) v.claims.size r.at)
    ∙ sym (word_unless u r e (first_pending u (needs_at u.claims u.word r u.mine)))
