-- Lines that are compared with entries, one after another.
use Rattle.std.proofs.Common.{◌≡◌, ◌≢◌, ℕ, suc, ◌+◌, ◌<◌, ◌≤◌, Bool, false, cond, List, [], ◌∷◌, ◌++◌, length, length-take, get_or, take, drop, drop-cons}
use Rattle.std.proofs.Common.{Option, Some, None, sym, ap, ◌∙◌, subst, arith, append_assoc}
use Rattle.std.specs.Prelude.{IfNone, IfSome}
use Rattle.std.proofs.lemmas.List.{map-append, length-map, take-append-drop, take_more}
use Rattle.kdf_text.specs.Lines.{line}
use Rattle.kdf_journal.specs.declared.entry.Entry.{Entry}
use Rattle.kdf_journal.specs.Printed.{entry_in}
use Rattle.kdf_check.specs.Differs.{IsDifference}
use Rattle.kdf_check.specs.Report.{begins_section, told_from}
use Rattle.kdf_check.specs.Verdict.{told}
use Rattle.kdf_check.proofs.Places.{differ-after}

-- what the next line tells is told before the others
pub told-next : (ls : List (List ℕ)) (l : List ℕ) → 0 < length ls → l ≡ line ls 1 → begins_section l ≡ false → told_from ls ≡ entry_in l ∷ told_from (drop 1 ls)
told-next [] l some is goes = absurd (omega (arith, some))
told-next (x ∷ xs) l some is goes =
    ap (λ (m : List ℕ). cond (begins_section m) [] (entry_in m ∷ told_from xs)) (sym is)
    ∙ ap (λ (b : Bool). cond b [] (entry_in l ∷ told_from xs)) goes

-- what was read first of the lines isn't this entry
pub other-first : (r : Option (Option Entry)) (xs ys zs : List (Option Entry)) (e : Entry) → IfSome r (λ x. xs ≡ x ∷ ys) → IfNone r (xs ≡ [])
    → r ≢ Some (Some e) → take 1 xs ≢ take 1 (Some e ∷ zs)
other-first None xs ys zs e some none apart = rw none (λ same. cc)
other-first (Some x) xs ys zs e some none apart = rw some (λ same. apart (let one : x ≡ Some e = cc in ap (λ (y : Option Entry). Some y) one))

-- or is
pub same-first : (r : Option (Option Entry)) (xs ys : List (Option Entry)) (e : Entry) → IfSome r (λ x. xs ≡ x ∷ ys) → r ≡ Some (Some e) → xs ≡ Some e ∷ ys
same-first r xs ys e some is = subst (λ (o : Option (Option Entry)). IfSome o (λ x. xs ≡ x ∷ ys)) is some

told-parts : (es : List Entry) (i : ℕ) → told es ≡ told (take i es) ++ told (drop i es)
told-parts es i = ap told (sym (take-append-drop i es)) ∙ map-append (λ (e : Entry). Some e) (take i es) (drop i es)

module _ (es : List Entry) (all rest : List (Option Entry)) (i : ℕ) (alike : all ≡ told (take i es) ++ rest) where
  -- they differ here
  pub differs-here : i ≤ length es → take 1 rest ≢ take 1 (told (drop i es)) → IsDifference all (told es) i
  differs-here le apart =
      let count : length (told (take i es)) ≡ i = length-map (take i es) (λ (e : Entry). Some e) ∙ length-take i es ∙ omega arith in
      subst (λ (n : ℕ). IsDifference all (told es) n) count
      (subst (λ (ys : List (Option Entry)). IsDifference all ys (length (told (take i es)))) (sym (told-parts es i))
      (subst (λ (xs : List (Option Entry)). IsDifference xs (told (take i es) ++ told (drop i es)) (length (told (take i es)))) (sym alike)
      (differ-after (told (take i es)) rest (told (drop i es)) apart)))

  -- they differ at this entry
  pub differs-at : (d : Entry) → i < length es → take 1 rest ≢ take 1 (Some (get_or es i d) ∷ told (drop (suc i) es)) → IsDifference all (told es) i
  differs-at d lt apart = differs-here (omega arith) (subst (λ (fs : List Entry). take 1 rest ≢ take 1 (told fs)) (sym (drop-cons es i d lt)) apart)

  -- they go on alike
  pub alike-on : (d e : Entry) (more : List (Option Entry)) → i < length es → get_or es i d ≡ e → rest ≡ Some e ∷ more → all ≡ told (take (i + 1) es) ++ more
  alike-on d e more lt here is =
      alike
      ∙ ap (λ (xs : List (Option Entry)). told (take i es) ++ xs) (is ∙ ap (λ (x : Entry). Some x ∷ more) (sym here))
      ∙ sym (append_assoc (told (take i es)) (Some (get_or es i d) ∷ []) more)
      ∙ ap (λ (xs : List (Option Entry)). xs ++ more)
      (sym (ap told (take_more es i d lt) ∙ map-append (λ (e : Entry). Some e) (take i es) (get_or es i d ∷ [])))
