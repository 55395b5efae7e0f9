-- The cut of a printer, character by character.
use Rattle.std.proofs.Common.{◌≡◌, ℕ, zero, suc, ◌-◌, ◌<◌, ◌≤◌, true, false, cond, eqb, List, [], ◌∷◌, ◌++◌, Option, Some, None, length, take, drop, map}
use Rattle.std.proofs.Common.{arith, refl, sym, ap, ◌∙◌, ⊎_elim, subst}
use Rattle.std.specs.List.{All, slice_split, onto_first, join_with_byte}
use Rattle.std.specs.Option.{option_map_or}
use Rattle.std.proofs.lemmas.Bool.{cases_Bool, eqb-true, ne_eqb}
use Rattle.std.proofs.lemmas.List.{drop_all, append-nil}
use Rattle.std.proofs.lemmas.List.Splits.{slice_split-cons_yes, slice_split-cons_no, length-slice_split}
use Rattle.std.proofs.lemmas.List.Elements.{All-head, All-tail, All-cons}
use Rattle.kdf_media.specs.Media.{printed}

-- the room in a run after a character, None where it isn't printed
abbrev pub room_behind : ℕ → ℕ → Option ℕ
room_behind c room = cond (eqb c 2) (Some 160) (cond (eqb room 0) None (Some (room - 1)))

-- what is printed where there is so much room in the first run
abbrev pub printed_from : ℕ → List ℕ → List ℕ
printed_from room [] = []
printed_from room (c ∷ cs) = option_map_or (λ left. c ∷ printed_from left cs) (room_behind c room) (printed_from room cs)

-- the runs of a text
abbrev runs : List ℕ → List (List ℕ)
runs cs = slice_split (λ c. eqb c 2) cs

abbrev joined : List (List ℕ) → List ℕ
joined parts = join_with_byte 2 parts

-- the runs, each cut, the first one to what room there is
abbrev cut_runs : ℕ → List (List ℕ) → List (List ℕ)
cut_runs room [] = []
cut_runs room (run ∷ others) = take room run ∷ map (take 160) others

fresh : (parts : List (List ℕ)) → cut_runs 160 parts ≡ map (take 160) parts
fresh [] = refl
fresh (run ∷ others) = refl

ended : (room : ℕ) (parts : List (List ℕ)) → 0 < length parts → joined (cut_runs room ([] ∷ parts)) ≡ 2 ∷ joined (cut_runs 160 parts)
ended room [] h = absurd (omega arith)
ended zero (run ∷ others) h = refl
ended (suc r) (run ∷ others) h = refl

full : (c : ℕ) (parts : List (List ℕ)) → joined (cut_runs 0 (onto_first c parts)) ≡ joined (cut_runs 0 parts)
full c [] = refl
full c (run ∷ []) = refl
full c (run ∷ other ∷ others) = refl

one_more : (r c : ℕ) (parts : List (List ℕ)) → joined (cut_runs (suc r) (onto_first c parts)) ≡ c ∷ joined (cut_runs r parts)
one_more zero c [] = refl
one_more (suc r) c [] = refl
one_more r c (run ∷ []) = refl
one_more r c (run ∷ other ∷ others) = refl

-- one character more
at_end : (room c : ℕ) (cs : List ℕ) → eqb c 2 ≡ true → printed_from room (c ∷ cs) ≡ c ∷ printed_from 160 cs
at_end room c cs e = ap (λ b. option_map_or (λ left. c ∷ printed_from left cs) (cond b (Some 160) (cond (eqb room 0) None (Some (room - 1))))
    (printed_from room cs)) e

at_full : (c : ℕ) (cs : List ℕ) → eqb c 2 ≡ false → printed_from 0 (c ∷ cs) ≡ printed_from 0 cs
at_full c cs e = ap (λ b. option_map_or (λ left. c ∷ printed_from left cs) (cond b (Some 160) None) (printed_from 0 cs)) e

at_room : (r c : ℕ) (cs : List ℕ) → eqb c 2 ≡ false → printed_from (suc r) (c ∷ cs) ≡ c ∷ printed_from r cs
at_room r c cs e =
    let some : eqb (suc r) 0 ≡ false = ne_eqb (suc r) 0 (λ h. omega arith) in
    let less : suc r - 1 ≡ r = omega arith in
    ap (λ b. option_map_or (λ left. c ∷ printed_from left cs) (cond b (Some 160) (cond (eqb (suc r) 0) None (Some (suc r - 1)))) (printed_from (suc r) cs)) e ∙
    ap (λ b. option_map_or (λ left. c ∷ printed_from left cs) (cond b None (Some (suc r - 1))) (printed_from (suc r) cs)) some ∙
    ap (λ n. c ∷ printed_from n cs) less

-- character by character it comes to the same as run by run
cut_by_runs : (room : ℕ) (cs : List ℕ) → printed_from room cs ≡ joined (cut_runs room (runs cs))
cut_by_runs zero [] = refl
cut_by_runs (suc r) [] = refl
cut_by_runs zero (c ∷ cs) =
    ⊎_elim
    (λ yes.
    let is : c ≡ 2 = eqb-true c 2 yes in
    let some : 0 < length (runs cs) = omega (arith, length-slice_split (λ b. eqb b 2) cs) in
    at_end 0 c cs yes ∙ ap (λ x. x ∷ printed_from 160 cs) is ∙ ap (λ xs. 2 ∷ xs) (cut_by_runs 160 cs) ∙ sym (ended 0 (runs cs) some) ∙
    sym (ap (λ parts. joined (cut_runs 0 parts)) (slice_split-cons_yes (λ b. eqb b 2) c cs yes)))
    (λ none.
    at_full c cs none ∙ cut_by_runs 0 cs ∙ sym (full c (runs cs))
    ∙ sym (ap (λ parts. joined (cut_runs 0 parts)) (slice_split-cons_no (λ b. eqb b 2) c cs none)))
    (cases_Bool (eqb c 2))
cut_by_runs (suc r) (c ∷ cs) =
    ⊎_elim
    (λ yes.
    let is : c ≡ 2 = eqb-true c 2 yes in
    let some : 0 < length (runs cs) = omega (arith, length-slice_split (λ b. eqb b 2) cs) in
    at_end (suc r) c cs yes ∙ ap (λ x. x ∷ printed_from 160 cs) is ∙ ap (λ xs. 2 ∷ xs) (cut_by_runs 160 cs) ∙ sym (ended (suc r) (runs cs) some) ∙
    sym (ap (λ parts. joined (cut_runs (suc r) parts)) (slice_split-cons_yes (λ b. eqb b 2) c cs yes)))
    (λ none.
    at_room r c cs none ∙ ap (λ xs. c ∷ xs) (cut_by_runs r cs) ∙ sym (one_more r c (runs cs)) ∙
    sym (ap (λ parts. joined (cut_runs (suc r) parts)) (slice_split-cons_no (λ b. eqb b 2) c cs none)))
    (cases_Bool (eqb c 2))

pub printed-is : (cs : List ℕ) → printed_from 160 cs ≡ printed cs
unfolding printed
printed-is cs = cut_by_runs 160 cs ∙ ap joined (fresh (runs cs))

-- what a cut in place has done before character i: the first `kept` characters are printed, and what is after is as it was
pub record IsCut (kept i room end : ℕ) (items block : List ℕ) : Type 0 where
  pub before : kept ≤ i
  pub many : length items ≡ end
  pub comes : take kept items ++ printed_from room (drop i items) ≡ printed_from 160 block

pub cut_all : (kept i room end : ℕ) (items block : List ℕ) → IsCut kept i room end items block → end ≤ i → take kept items ≡ printed block
cut_all kept i room end items block h le =
    let none : drop i items ≡ [] = drop_all i items (omega (arith, h.many)) in
    sym (append-nil (take kept items)) ∙ sym (ap (λ xs. take kept items ++ printed_from room xs) none) ∙ h.comes ∙ printed-is block

-- what is printed is of the same kind as all
All-from : (P : ℕ → Type 0) (room : ℕ) (cs : List ℕ) → All P cs → All P (printed_from room cs)
All-from P room [] h = h
All-from P room (c ∷ cs) h =
    elim (room_behind c room) as (λ o. All P (option_map_or (λ left. c ∷ printed_from left cs) o (printed_from room cs))) [
      | None ↦ All-from P room cs (All-tail P c cs h)
      | Some left ↦ All-cons P c (printed_from left cs) (All-head P c cs h) (All-from P left cs (All-tail P c cs h))
    ]

pub printed_codes : (cs : List ℕ) → All (λ c. c < 64) cs → All (λ c. c < 64) (printed cs)
printed_codes cs h = let F : List ℕ → Type 0 = λ xs. All (λ c. c < 64) xs in subst F (printed-is cs) (All-from (λ c. c < 64) 160 cs h)
