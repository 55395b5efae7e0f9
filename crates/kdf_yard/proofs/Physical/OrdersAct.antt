-- What an order that acts makes of what is shown of a program.
use Rattle.std.proofs.Common.{◌≡◌, ◌≢◌, ℕ, ◌+◌, ◌*◌, ◌/◌, ◌%◌, ◌<◌, ◌≤◌, ◌⊎◌, inl, inr, Bool, true, false, List, length, map, set, Option, Some, None, is_some}
use Rattle.std.proofs.Common.{is_none, cond, refl, sym, ap, ap₂, ◌∙◌, ⊎_elim, arith}
use Rattle.std.proofs.Math.Path.{fun_ext}
use Rattle.std.proofs.lemmas.Bool.{cases_Bool, cases_eq, eq-eqb, ne_eqb}
use Rattle.std.proofs.lemmas.List.{get_or-set_same, get_or-set_other}
use Rattle.kdf_lockout.specs.Groups.{Cells, group_at, is_out, with_word, without_groups, lent_groups, words_in}
use Rattle.kdf_transfer.specs.declared.order.TransferOrder.{TransferOrder}
use Rattle.kdf_transfer.specs.Devices.{Fixture, DeviceProgress}
use Rattle.kdf_transfer.specs.AtOnce.{has_area}
use Rattle.kdf_theory.specs.Seen.{begun}
use Rattle.kdf_places.specs.Words.{own_words, with_lease}
use Rattle.kdf_transfer.specs.ByNumber.{device_count, by_number}
use Rattle.kdf_places.specs.Words as physical
use Rattle.kdf_places.proofs.WordsHereAndOut as words
use Rattle.kdf_processor.specs.State.{Stock, Claims}
use Rattle.kdf_processor.specs.Effect.{Writes, Starts}
use Rattle.kdf_places.specs.Spots.{Spot, no_spot, spot_at, lease_held, leases_of, fixture_or}
use Rattle.kdf_yard.specs.Fields.Stints.{left_in, stint_of}
use Rattle.kdf_places.specs.Shared.{Shared, IsSound}
use Rattle.kdf_yard.specs.Fields.Parts.{Part, has_device, own_fixture, own_progress, own_stock, own_claims}
use Rattle.kdf_theory.specs.Loading.{owns}
use Rattle.kdf_lockout.specs.Groups.{touched}
use Rattle.kdf_places.specs.Transfers.{start_lease, start_spot, IsFreeArea}
use Rattle.kdf_yard.specs.Fields.Shared.{after_act}
use Rattle.kdf_places.proofs.GroupsKept.{leases-set, here_apart, free_here}

-- a stock by its parts
abbrev pub stock : Part → Claims → ℕ → List ℕ → List DeviceProgress → Stock
stock q c n ws ds = record { claims = c; spooled = q.spooled; asked = n; stints = map stint_of q.stints; store = ws; devices = ds }

abbrev pub claims : Part → List (Option Fixture) → Claims
claims q fs = record { size = q.size; claimed = q.claimed; fixtures = fs; pool = q.pool; served = q.served }

some_of : (o : Option (List ℕ)) → is_none o ≡ false → o ≡ Some (words_in o)
some_of None h = cc
some_of (Some ws) h = refl

-- a word that is written where its group is
pub writes_own : (q : Part) (n : ℕ) (s : Shared) (a w : ℕ) → IsSound s → q.base + q.size ≤ 32 * length s.cells → a < q.size
    → is_out s.cells ((q.base + a) / 32) ≡ false → own_stock q n (after_act q s (Writes a w)) ≡ begun (Writes a w) (own_stock q n s)
writes_own q n s a w sound fits lt here =
    let inside : (q.base + a) / 32 < length s.cells = omega arith in
    let is = some_of (group_at s.cells ((q.base + a) / 32)) here in
    let within : (q.base + a) % 32 < length (words_in (group_at s.cells ((q.base + a) / 32))) = (let e = sound.whole ((q.base + a) / 32) _ is in omega arith) in
    ap (λ ws. stock q (own_claims q s) n ws (by_number (own_progress q s.spots)))
    (words.own_words_changed q.base q.size a w s.cells (with_word s.cells (q.base + a) w) (leases_of s.spots) (leases_of s.spots)
    (λ x. words.word_of-put_word s.cells (leases_of s.spots) (words_in (group_at s.cells ((q.base + a) / 32))) (q.base + a) w x is inside within))

-- another program's word
pub writes_other : (q r : Part) (n : ℕ) (s : Shared) (a w : ℕ) → IsSound s → q.base + q.size ≤ 32 * length s.cells → a < q.size
    → is_out s.cells ((q.base + a) / 32) ≡ false → (q.base + q.size ≤ r.base) ⊎ (r.base + r.size ≤ q.base)
    → own_stock r n (after_act q s (Writes a w)) ≡ own_stock r n s
writes_other q r n s a w sound fits lt here apart =
    let inside : (q.base + a) / 32 < length s.cells = omega arith in
    let is = some_of (group_at s.cells ((q.base + a) / 32)) here in
    let within : (q.base + a) % 32 < length (words_in (group_at s.cells ((q.base + a) / 32))) = (let e = sound.whole ((q.base + a) / 32) _ is in omega arith) in
    let outside : (q.base + a < r.base) ⊎ (r.base + r.size ≤ q.base + a) = ⊎_elim (λ (h : q.base + q.size ≤ r.base). inl (omega arith))
    (λ (h : r.base + r.size ≤ q.base). inr (omega arith)) apart in
    ap (λ ws. stock r (own_claims r s) n ws (by_number (own_progress r s.spots)))
    (words.own_words_other r.base r.size (q.base + a) w s.cells (with_word s.cells (q.base + a) w) (leases_of s.spots) (leases_of s.spots) outside
    (λ x. words.word_of-put_word s.cells (leases_of s.spots) (words_in (group_at s.cells ((q.base + a) / 32))) (q.base + a) w x is inside within))

where_true : {X : Type 0} (b : Bool) (x y z : X) → (b ≡ true → x ≡ y) → cond b x z ≡ cond b y z
where_true true x y z same = same refl
where_true false x y z same = refl

-- the devices of a program, where one spot is another that shows the same
pub fixtures-set : (r : Part) (spots : List Spot) (d : ℕ) (x : Spot) → d < length spots → (owns r.devices d ≡ true → x.fixture ≡ (spot_at spots d).fixture)
    → own_fixture r (set spots d x) ≡ own_fixture r spots
fixtures-set r spots d x lt same =
    fun_ext
    (λ e. ⊎_elim
    (λ (is : e ≡ d).
    ap (λ k. cond (owns r.devices k) (spot_at (set spots d x) k).fixture None) is
    ∙ ap (λ (y : Spot). cond (owns r.devices d) y.fixture None) (get_or-set_same spots d x no_spot lt)
    ∙ where_true (owns r.devices d) x.fixture (spot_at spots d).fixture None same
    ∙ sym (ap (λ k. cond (owns r.devices k) (spot_at spots k).fixture None) is))
    (λ (ne : e ≢ d). ap (λ (y : Spot). cond (owns r.devices e) y.fixture None) (get_or-set_other spots d e x no_spot ne))
    (cases_eq e d))

-- how far the device of a place has come
abbrev pub progress_in : Part → ℕ → Spot → DeviceProgress
progress_in r d x = cond (has_device r d) x.progress (left_in r.stints d)

pub progress-same : (r : Part) (d : ℕ) (x y : Spot) → (has_device r d ≡ true → x.progress ≡ y.progress) → progress_in r d x ≡ progress_in r d y
progress-same r d x y same = where_true (has_device r d) x.progress y.progress (left_in r.stints d) same

pub progress-set : (r : Part) (spots : List Spot) (d : ℕ) (x : Spot) → d < length spots → (has_device r d ≡ true → x.progress ≡ (spot_at spots d).progress)
    → own_progress r (set spots d x) ≡ own_progress r spots
progress-set r spots d x lt same =
    fun_ext
    (λ e. ⊎_elim
    (λ (is : e ≡ d).
    ap (own_progress r (set spots d x)) is
    ∙ ap (progress_in r d) (get_or-set_same spots d x no_spot lt)
    ∙ progress-same r d x (spot_at spots d) same
    ∙ sym (ap (own_progress r spots) is))
    (λ (ne : e ≢ d). ap (progress_in r e) (get_or-set_other spots d e x no_spot ne))
    (cases_eq e d))

without-is : (cells : Cells) (f n : ℕ) → without_groups cells f n ≡ words.without cells f n
unfolding without_groups
without-is cells f n = refl

lent-is : (cells : Cells) (f n : ℕ) → lent_groups cells f n ≡ words.taken cells f n
unfolding lent_groups
lent-is cells f n = refl

-- the words of every program stay where a transfer begins
module _ (s : Shared) (q : Part) (d : ℕ) (o : TransferOrder) (first last : ℕ) (sound : IsSound s) (small : d < device_count)
    (idle : (spot_at s.spots d).flight ≡ None) (free : has_area o ≡ true → IsFreeArea s.cells (q.base + first) (q.base + last)) where
  abbrev f : ℕ
  f = q.base + first

  abbrev l : ℕ
  l = q.base + last

  abbrev later : Shared
  later = after_act q s (Starts d o first last)

  lt : d < length s.spots
  lt = let e = sound.spots in omega arith

  no_lease : leases_of s.spots d ≡ None
  no_lease = ap lease_held idle

  leases_later : leases_of later.spots ≡ with_lease d (start_lease o f l s.cells) (leases_of s.spots)
  leases_later = leases-set s.spots d (start_spot q.p o f l s.cells (spot_at s.spots d)) lt

  pub start_word : (x : ℕ) → physical.word_at_place later.cells (leases_of later.spots) x ≡ physical.word_at_place s.cells (leases_of s.spots) x
  start_word x =
      ap (λ ls. physical.word_at_place later.cells ls x) leases_later
      ∙ ⊎_elim with_area without_area (cases_Bool (has_area o))
    where
      with_area : has_area o ≡ true → physical.word_at_place later.cells (with_lease d (start_lease o f l s.cells) (leases_of s.spots)) x
          ≡ physical.word_at_place s.cells (leases_of s.spots) x
      with_area has =
          let h = free has in
          let rising = h.rising in
          let inside = h.inside in
          let fits : f / 32 + touched f l ≤ length s.cells = omega arith in
          ap₂ (λ b c. physical.word_at_place (cond b (without_groups s.cells (f / 32) (touched f l)) s.cells)
          (with_lease d (cond c (Some (lent_groups s.cells (f / 32) (touched f l))) None) (leases_of s.spots)) x) has has
          ∙ ap₂ (λ cs k. physical.word_at_place cs (with_lease d (Some k) (leases_of s.spots)) x) (without-is s.cells (f / 32) (touched f l))
          (lent-is s.cells (f / 32) (touched f l))
          ∙ words.word_of-lent s.cells (leases_of s.spots) d (f / 32) (touched f l) small fits no_lease
          (λ g low high. free_here s f l g h low high)
          (λ e g low high. let here = free_here s f l g h low high in here_apart s e g here.0 sound here.1) x

      without_area : has_area o ≡ false → physical.word_at_place later.cells (with_lease d (start_lease o f l s.cells) (leases_of s.spots)) x
          ≡ physical.word_at_place s.cells (leases_of s.spots) x
      without_area not =
          ap₂ (λ b c. physical.word_at_place (cond b (without_groups s.cells (f / 32) (touched f l)) s.cells)
          (with_lease d (cond c (Some (lent_groups s.cells (f / 32) (touched f l))) None) (leases_of s.spots)) x) not not
          ∙ ap (λ ls. physical.word_at_place s.cells ls x) (same_leases)
        where
          same_leases : with_lease d None (leases_of s.spots) ≡ leases_of s.spots
          same_leases =
              fun_ext
              (λ e. ⊎_elim
              (λ (is : e ≡ d). ap (λ b. cond b None (leases_of s.spots e)) (eq-eqb e d is) ∙ sym (ap (leases_of s.spots) is ∙ no_lease))
              (λ (ne : e ≢ d). ap (λ b. cond b None (leases_of s.spots e)) (ne_eqb e d ne))
              (cases_eq e d))

  -- what is shown of any program stays where a transfer begins
  pub starts_own : (r : Part) (n : ℕ) → (owns r.devices d ≡ true → is_some (spot_at s.spots d).fixture ≡ true) → own_stock r n later ≡ own_stock r n s
  starts_own r n there =
      let words_same : own_words r.base r.size later.cells (leases_of later.spots) ≡ own_words r.base r.size s.cells (leases_of s.spots) =
      words.own_words_same r.base r.size s.cells later.cells (leases_of s.spots) (leases_of later.spots) start_word in
      let fixtures : own_fixture r later.spots ≡ own_fixture r s.spots = fixtures-set r s.spots d (start_spot q.p o f l s.cells (spot_at s.spots d)) lt
      (λ has. or_some (spot_at s.spots d).fixture (there has)) in
      let progress : own_progress r later.spots ≡ own_progress r s.spots = progress-set r s.spots d (start_spot q.p o f l s.cells (spot_at s.spots d)) lt
      (λ has. refl) in
      ap₂ (λ fs ws. stock r (claims r (by_number fs)) n ws (by_number (own_progress r later.spots))) fixtures words_same
      ∙ ap (λ ps. stock r (own_claims r s) n (own_words r.base r.size s.cells (leases_of s.spots)) (by_number ps)) progress
    where
      or_some : (x : Option Fixture) → is_some x ≡ true → Some (fixture_or x) ≡ x
      or_some None h = cc
      or_some (Some y) h = refl
