-- The ranges of the numbers, one after the other.
use Rattle.std.proofs.Common.{◌≡◌, ℕ, suc, append_assoc, arith, ◌+◌, ◌<◌, length, get_or, drop, List, [], ◌∷◌, ◌++◌, Option, slice_index, add-zero, refl, sym}
use Rattle.std.proofs.Common.{ap, ◌∙◌}
use Rattle.std.proofs.lemmas.List.{at_drop_more, map-append, get_or-drop, drop-drop}
use Rattle.kdf_usercode.specs.declared.fault.DeckFault.{DeckFault}
use Rattle.kdf_usercode.specs.declared.range.Range.{Range}
use Rattle.kdf_usercode.specs.Faults.{FoundFault, lesser, least, founds}
use Rattle.kdf_usercode.specs.Range.{range_fault, range_faults}
use Rattle.kdf_usercode.proofs.Least.{least-front}

pub ranges-step : (best best' : Option FoundFault) (place i n : ℕ) (rs : List Range) (ns : List ℕ) (d : Range)
    → i < length rs → n ≡ get_or ns i 0
    → best' ≡ lesser best (least (founds place (range_fault (get_or rs i d) n)))
    → lesser best' (least (founds place (range_faults (drop (i + 1) rs) (drop (i + 1) ns)))) ≡ lesser best
    (least (founds place (range_faults (drop i rs) (drop i ns))))
ranges-step best best' place i n rs ns d lt e b =
    let r = get_or rs i d in
    let later = range_faults (drop (i + 1) rs) (drop (i + 1) ns) in
    let first : slice_index (drop i ns) 0 ≡ n = get_or-drop i ns 0 0 ∙ rw add-zero (sym e) in
    let here : range_faults (drop i rs) (drop i ns) ≡ range_fault r n ++ later
    = at_drop_more (λ rs. range_faults rs (drop i ns)) rs i d lt
    ∙ ap (λ x. range_fault r x ++ range_faults (drop (i + 1) rs) (drop 1 (drop i ns))) first
    ∙ ap (λ x. range_fault r n ++ range_faults (drop (i + 1) rs) x) (drop-drop 1 i ns) in
    ap (λ o. lesser o (least (founds place later))) b
    ∙ least-front best (founds place (range_fault r n)) (founds place later)
    ∙ ap (λ x. lesser best (least x)) (sym (map-append _ (range_fault r n) later) ∙ ap (founds place) (sym here))

drop-suc : (n : ℕ) (ns : List ℕ) → drop n (drop 1 ns) ≡ drop (suc n) ns
drop-suc n ns = let e : 1 + n ≡ suc n = omega arith in drop-drop n 1 ns ∙ ap (λ (k : ℕ). drop k ns) e

pub range_faults-append : (a b : List Range) (ns : List ℕ)
    → range_faults (a ++ b) ns ≡ range_faults a ns ++ range_faults b (drop (length a) ns)
range_faults-append [] b ns = refl
range_faults-append (r ∷ rs) b ns =
    let here = range_fault r (slice_index ns 0) in
    ap (λ x. here ++ x) (range_faults-append rs b (drop 1 ns) ∙ ap (λ x. range_faults rs (drop 1 ns) ++ range_faults b x) (drop-suc (length rs) ns))
    ∙ sym (append_assoc here (range_faults rs (drop 1 ns)) (range_faults b (drop (length (r ∷ rs)) ns)))

pub nil-append : (xs ys : List DeckFault) → xs ++ ys ≡ [] → (xs ≡ []) × (ys ≡ [])
nil-append [] ys e = (refl, e)
nil-append (x ∷ xs) ys e = absurd cc

-- where all numbers are in range, those of each part are
pub ranges-apart : (a b : List Range) (ns : List ℕ) → range_faults (a ++ b) ns ≡ []
    → (range_faults a ns ≡ []) × (range_faults b (drop (length a) ns) ≡ [])
ranges-apart a b ns e =
    nil-append (range_faults a ns) (range_faults b (drop (length a) ns)) (sym (range_faults-append a b ns) ∙ e)

-- the faults of two parts, one after the other
pub ranges-then : (best : Option FoundFault) (place : ℕ) (a b : List Range) (ns : List ℕ)
    → lesser (lesser best (least (founds place (range_faults a ns)))) (least (founds place (range_faults b (drop (length a) ns)))) ≡ lesser best
    (least (founds place (range_faults (a ++ b) ns)))
ranges-then best place a b ns =
    least-front best (founds place (range_faults a ns)) (founds place (range_faults b (drop (length a) ns)))
    ∙ ap (λ x. lesser best (least x)) (sym (map-append _ (range_faults a ns) (range_faults b (drop (length a) ns)))
    ∙ ap (founds place) (sym (range_faults-append a b ns)))

pub three-parts : (best first second third : Option FoundFault) (place : ℕ) (a b c : List Range) (ns ms ls : List ℕ)
    → first ≡ lesser best (least (founds place (range_faults a ns))) → ms ≡ drop (length a) ns
    → second ≡ lesser first (least (founds place (range_faults b ms))) → ls ≡ drop (length b) ms
    → third ≡ lesser second (least (founds place (range_faults c ls)))
    → third ≡ lesser best (least (founds place (range_faults (a ++ (b ++ c)) ns)))
three-parts best first second third place a b c ns ms ls f m s l t =
    let one : lesser second (least (founds place (range_faults c ls))) ≡ lesser first (least (founds place (range_faults (b ++ c) ms))) =
    rw (s, l) (ranges-then first place b c ms) in
    let two : lesser first (least (founds place (range_faults (b ++ c) ms))) ≡ lesser best (least (founds place (range_faults (a ++ (b ++ c)) ns))) =
    rw (f, m) (ranges-then best place a (b ++ c) ns) in
    t ∙ one ∙ two

pub one-more : (best first : Option FoundFault) (place n : ℕ) (r : Range) (rs : List Range) (ns ms : List ℕ) (result : Option FoundFault)
    → first ≡ lesser best (least (founds place (range_fault r n))) → n ≡ slice_index ns 0 → ms ≡ drop 1 ns
    → result ≡ lesser first (least (founds place (range_faults rs ms)))
    → result ≡ lesser best (least (founds place (range_faults (r ∷ rs) ns)))
one-more best first place n r rs ns ms result f e m b =
    let front = founds place (range_fault r (slice_index ns 0)) in
    let later = founds place (range_faults rs (drop 1 ns)) in
    let one : lesser first (least (founds place (range_faults rs ms))) ≡ lesser best (least (front ++ later)) = rw (f, e, m) (least-front best front later) in
    b ∙ one
    ∙ ap (λ x. lesser best (least x)) (sym (map-append _ (range_fault r (slice_index ns 0)) (range_faults rs (drop 1 ns))))
