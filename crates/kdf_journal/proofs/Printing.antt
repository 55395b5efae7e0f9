-- Entries that are printed, and read again.
use Rattle.std.proofs.Common.{◌≡◌, ℕ, ◌+◌, ◌<◌, ◌≤◌, ◌^◌, Bool, true, false, cond, List, [], ◌∷◌, ◌++◌, Option, Some, None, refl, sym, ap, ◌∙◌, subst, ⊎_elim}
use Rattle.std.proofs.Common.{arith, append_assoc, lit<}
use Rattle.std.specs.Prelude.{codes, bytes_eq}
use Rattle.std.specs.Fmt.{decimal}
use Rattle.std.specs.Option.{option_map}
use Rattle.kdf_text.specs.Lines.{words, is_text, spaced}
use Rattle.std.proofs.lemmas.Slice.Eq.{bytes_eq-Decides}
use Rattle.kdf_text.specs.Numbers.{number_in}
use Rattle.kdf_text.proofs.Cutting.{has}
use Rattle.kdf_text.proofs.Decimals.{apart-decimal, number-decimal, decimal-number}
use Rattle.kdf_text.proofs.Spaced.{words-front, spaced-words}
use Rattle.kdf_text.proofs.WordCuts.{words-whole}
use Rattle.kdf_journal.specs.declared.failure.Failure.{Failure}
use Rattle.kdf_journal.specs.declared.failure.Failure.TheVariants.{Liv, Nouv, Out, Reset, Claim}
use Rattle.kdf_journal.specs.declared.entry.Entry.{Entry}
use Rattle.kdf_journal.specs.declared.entry.Entry.TheVariants.{Ran, Start, Answer, Take, Give, Fail, Ended, Lov, Busy, Wait, Idle, Move, End, Clock, Swap}
use Rattle.kdf_journal.specs.declared.kind.Kind.{Kind}
use Rattle.kdf_journal.specs.declared.kind.Kind.TheVariants.{Tr, Tp, Cr, Lp, Mt}
use Rattle.kdf_journal.specs.Failures.{name_of}
use Rattle.kdf_journal.specs.Kinds.{kind_name}
use Rattle.kdf_journal.specs.Printed.{entry_in, entry_line, failure_named, kind_named, number_8, number_16, number_32, number_64, of_all, of_both, of_one}
use Rattle.kdf_journal.specs.Printed.{of_three, of_two, of_words, IsEntry}

-- ---- printed, then read

words-one : (name a : List ℕ) → has 32 name ≡ false → has 32 a ≡ false → words (name ++ 32 ∷ a) ≡ name ∷ a ∷ []
words-one name a apart apart' = words-front name a apart ∙ ap (λ (ws : List (List ℕ)). name ∷ ws) (words-whole a apart')

words-two : (name a b : List ℕ) → has 32 name ≡ false → has 32 a ≡ false → has 32 b ≡ false → words (name ++ 32 ∷ (a ++ 32 ∷ b)) ≡ name ∷ a ∷ b ∷ []
words-two name a b apart apart' apart'' = words-front name (a ++ 32 ∷ b) apart ∙ ap (λ (ws : List (List ℕ)). name ∷ ws) (words-one a b apart' apart'')

words-three : (name a b c : List ℕ) → has 32 name ≡ false → has 32 a ≡ false → has 32 b ≡ false → has 32 c ≡ false
    → words (name ++ 32 ∷ (a ++ 32 ∷ (b ++ 32 ∷ c))) ≡ name ∷ a ∷ b ∷ c ∷ []
words-three name a b c apart apart' apart'' apart''' = words-front name (a ++ 32 ∷ (b ++ 32 ∷ c)) apart
    ∙ ap (λ (ws : List (List ℕ)). name ∷ ws) (words-two a b c apart' apart'' apart''')

read-8 : (a : ℕ) → a < 2 ^ 8 → number_8 (decimal a) ≡ Some a
read-8 a small = number-decimal 0 255 a (omega arith) (omega arith) (omega arith)

read-16 : (a : ℕ) → a < 2 ^ 16 → number_16 (decimal a) ≡ Some a
read-16 a small = number-decimal 0 65535 a (omega arith) (omega arith) (omega arith)

read-32 : (a : ℕ) → a < 2 ^ 32 → number_32 (decimal a) ≡ Some a
read-32 a small = number-decimal 0 4294967295 a (omega arith) (omega arith) (omega arith)

read-64 : (a : ℕ) → a < 2 ^ 64 → number_64 (decimal a) ≡ Some a
read-64 a small = number-decimal 0 18446744073709551615 a (omega arith) (omega arith) (omega arith)

-- an entry of one word after its name, of two and of three
again-one : (name a line : List ℕ) → has 32 name ≡ false → has 32 a ≡ false → line ≡ name ++ 32 ∷ a → entry_in line ≡ of_one name a
unfolding entry_in
again-one name a line f g is = ap of_words (ap words is ∙ words-one name a f g)

again-two : (name a b line : List ℕ) → has 32 name ≡ false → has 32 a ≡ false → has 32 b ≡ false → line ≡ name ++ 32 ∷ (a ++ 32 ∷ b)
    → entry_in line ≡ of_two name a b
unfolding entry_in
again-two name a b line f g h is = ap of_words (ap words is ∙ words-two name a b f g h)

again-three : (name a b c line : List ℕ) → has 32 name ≡ false → has 32 a ≡ false → has 32 b ≡ false → has 32 c ≡ false
    → line ≡ name ++ 32 ∷ (a ++ 32 ∷ (b ++ 32 ∷ c)) → entry_in line ≡ of_three name a b c
unfolding entry_in
again-three name a b c line f g h i is = ap of_words (ap words is ∙ words-three name a b c f g h i)

-- the lines that are written part by part
line-two : (name a b : List ℕ) → ((name ++ 32 ∷ []) ++ a) ++ (32 ∷ []) ++ b ≡ name ++ 32 ∷ (a ++ 32 ∷ b)
line-two name a b = simp append_assoc

line-three : (name a b c : List ℕ) → ((((name ++ 32 ∷ []) ++ a) ++ (32 ∷ [])) ++ b) ++ (32 ∷ []) ++ c ≡ name ++ 32 ∷ (a ++ 32 ∷ (b ++ 32 ∷ c))
line-three name a b c = simp append_assoc

named : (kind : Failure) → failure_named (name_of kind) ≡ Some kind
named Liv = refl
named Nouv = refl
named Out = refl
named Reset = refl
named Claim = refl

apart-name : (kind : Failure) → has 32 (name_of kind) ≡ false
apart-name Liv = refl
apart-name Nouv = refl
apart-name Out = refl
apart-name Reset = refl
apart-name Claim = refl

kind_again : (kind : Kind) → kind_named (kind_name kind) ≡ Some kind
kind_again Tr = refl
kind_again Tp = refl
kind_again Cr = refl
kind_again Lp = refl
kind_again Mt = refl

apart-kind : (kind : Kind) → has 32 (kind_name kind) ≡ false
apart-kind Tr = refl
apart-kind Tp = refl
apart-kind Cr = refl
apart-kind Lp = refl
apart-kind Mt = refl

pub read_again : (e : Entry) → IsEntry e → entry_in (entry_line e) ≡ Some e
read_again (Ended p) fits =
    again-one (codes "ENDED") (decimal p) _ refl (apart-decimal p (omega arith)) refl ∙ rw (read-8 p fits) refl
read_again (Idle n) fits =
    again-one (codes "IDLE") (decimal n) _ refl (apart-decimal n (omega arith)) refl ∙ rw (read-32 n fits) refl
read_again (End d) fits =
    again-one (codes "END") (decimal d) _ refl (apart-decimal d (omega arith)) refl ∙ rw (read-8 d fits) refl
read_again (Clock t) fits =
    again-one (codes "CLOCK") (decimal t) _ refl (apart-decimal t (omega arith)) refl ∙ rw (read-64 t fits) refl
read_again (Ran p n) fits =
    again-two (codes "RAN") (decimal p) (decimal n) _ refl (apart-decimal p (omega arith)) (apart-decimal n (omega arith))
    (line-two (codes "RAN") (decimal p) (decimal n)) ∙ rw (read-8 p fits.0, read-32 n fits.1) refl
read_again (Answer p v) fits =
    again-two (codes "ANSWER") (decimal p) (decimal v) _ refl (apart-decimal p (omega arith)) (apart-decimal v (omega arith))
    (line-two (codes "ANSWER") (decimal p) (decimal v)) ∙ rw (read-8 p fits.0, read-64 v fits.1) refl
read_again (Lov p group) fits =
    again-two (codes "LOV") (decimal p) (decimal group) _ refl (apart-decimal p (omega arith)) (apart-decimal group (omega arith))
    (line-two (codes "LOV") (decimal p) (decimal group)) ∙ rw (read-8 p fits.0, read-16 group fits.1) refl
read_again (Busy p d) fits =
    again-two (codes "BUSY") (decimal p) (decimal d) _ refl (apart-decimal p (omega arith)) (apart-decimal d (omega arith))
    (line-two (codes "BUSY") (decimal p) (decimal d)) ∙ rw (read-8 p fits.0, read-8 d fits.1) refl
read_again (Move d n) fits =
    again-two (codes "MOVE") (decimal d) (decimal n) _ refl (apart-decimal d (omega arith)) (apart-decimal n (omega arith))
    (line-two (codes "MOVE") (decimal d) (decimal n)) ∙ rw (read-8 d fits.0, read-16 n fits.1) refl
read_again (Start p d k) fits =
    again-three (codes "START") (decimal p) (decimal d) (decimal k) _ refl (apart-decimal p (omega arith)) (apart-decimal d (omega arith))
    (apart-decimal k (omega arith)) (line-three (codes "START") (decimal p) (decimal d) (decimal k))
    ∙ rw (read-8 p fits.0, read-8 d fits.1, read-32 k fits.2) refl
read_again (Fail p kind) fits =
    again-two (codes "FAIL") (decimal p) (name_of kind) _ refl (apart-decimal p (omega arith)) (apart-name kind)
    (line-two (codes "FAIL") (decimal p) (name_of kind)) ∙ rw (read-8 p fits, named kind) refl
read_again (Take p d) fits =
    again-two (codes "TAKE") (decimal p) (decimal d) _ refl (apart-decimal p (omega arith)) (apart-decimal d (omega arith))
    (line-two (codes "TAKE") (decimal p) (decimal d)) ∙ rw (read-8 p fits.0, read-8 d fits.1) refl
read_again (Give p d) fits =
    again-two (codes "GIVE") (decimal p) (decimal d) _ refl (apart-decimal p (omega arith)) (apart-decimal d (omega arith))
    (line-two (codes "GIVE") (decimal p) (decimal d)) ∙ rw (read-8 p fits.0, read-8 d fits.1) refl
read_again (Swap p q) fits =
    again-two (codes "SWAP") (decimal p) (decimal q) _ refl (apart-decimal p (omega arith)) (apart-decimal q (omega arith))
    (line-two (codes "SWAP") (decimal p) (decimal q)) ∙ rw (read-8 p fits.0, read-8 q fits.1) refl
read_again (Wait p kind) fits =
    again-two (codes "WAIT") (decimal p) (kind_name kind) _ refl (apart-decimal p (omega arith)) (apart-kind kind)
    (line-two (codes "WAIT") (decimal p) (kind_name kind)) ∙ rw (read-8 p fits, kind_again kind) refl

-- ---- read, then printed

-- the entry prints as these words, and is one
abbrev pub Told : Entry → List (List ℕ) → Type 0
Told e ws = (entry_line e ≡ spaced ws) × IsEntry e

pick : {A : Type 0} (b : Bool) (x y : Option A) (e : A) (P : Type 0) → cond b x y ≡ Some e → (b ≡ true → x ≡ Some e → P) → (y ≡ Some e → P) → P
pick true x y e P is first second = first refl is
pick false x y e P is first second = second is

named_so : (text name : List ℕ) → is_text text name ≡ true → name ≡ text
named_so text name is = (bytes_eq-Decides name text).0 is

mapped : {A : Type 0} (make : A → Entry) (o : Option A) (e : Entry) → option_map make o ≡ Some e → (x : A) × (o ≡ Some x) × (make x ≡ e)
mapped make None e is = absurd cc
mapped make (Some x) e is = (x, refl, cc)

both : {A B : Type 0} (make : A → B → Entry) (a : Option A) (b : Option B) (e : Entry) → of_both make a b ≡ Some e → (x : A) × (y : B) × (a ≡ Some x)
    × (b ≡ Some y) × (make x y ≡ e)
both make None b e is = absurd cc
both make (Some x) b e is = let m = mapped (make x) b e is in (x, m.0, refl, m.1, m.2)

all : (make : ℕ → ℕ → ℕ → Entry) (a b c : Option ℕ) (e : Entry) → of_all make a b c ≡ Some e → (x : ℕ) × (y : ℕ) × (z : ℕ) × (a ≡ Some x) × (b ≡ Some y)
    × (c ≡ Some z) × (make x y z ≡ e)
all make None b c e is = absurd cc
all make (Some x) b c e is = let m = both (make x) b c e is in (x, m.0, m.1, refl, m.2, m.3, m.4)

is_named : (kind : Failure) (text word : List ℕ) (k : Failure) → name_of kind ≡ text → is_text text word ≡ true → Some kind ≡ Some k → name_of k ≡ word
is_named kind text word k name is same = let e : kind ≡ k = cc in ap name_of (sym e) ∙ (name ∙ sym (named_so text word is))

name-failure : (word : List ℕ) (k : Failure) → failure_named word ≡ Some k → name_of k ≡ word
name-failure word k is =
    pick _ _ _ k _ is (is_named Liv (codes "LIV") word k refl)
    (λ is. pick _ _ _ k _ is (is_named Nouv (codes "NOUV") word k refl) (λ is. pick _ _ _ k _ is (is_named Out (codes "OUT") word k refl)
    (λ is. pick _ _ _ k _ is (is_named Reset (codes "RESET") word k refl)
    (λ is. pick _ _ _ k _ is (is_named Claim (codes "CLAIM") word k refl) (λ is. absurd cc)))))

is_kind : (kind : Kind) (text word : List ℕ) (k : Kind) → kind_name kind ≡ text → is_text text word ≡ true → Some kind ≡ Some k → kind_name k ≡ word
is_kind kind text word k name is same = let e : kind ≡ k = cc in ap kind_name (sym e) ∙ (name ∙ sym (named_so text word is))

name-kind : (word : List ℕ) (k : Kind) → kind_named word ≡ Some k → kind_name k ≡ word
name-kind word k is =
    pick _ _ _ k _ is (is_kind Tr (codes "TR") word k refl)
    (λ is. pick _ _ _ k _ is (is_kind Tp (codes "TP") word k refl) (λ is. pick _ _ _ k _ is (is_kind Cr (codes "CR") word k refl)
    (λ is. pick _ _ _ k _ is (is_kind Lp (codes "LP") word k refl) (λ is. pick _ _ _ k _ is (is_kind Mt (codes "MT") word k refl) (λ is. absurd cc)))))

spelt-8 : (word : List ℕ) (n : ℕ) → number_8 word ≡ Some n → (decimal n ≡ word) × (n < 2 ^ 8)
spelt-8 word n is = let s = decimal-number 0 255 n word (lit< tt) is in let most : n ≤ 255 = s.to in (s.is, omega arith)

spelt-16 : (word : List ℕ) (n : ℕ) → number_16 word ≡ Some n → (decimal n ≡ word) × (n < 2 ^ 16)
spelt-16 word n is = let s = decimal-number 0 65535 n word (lit< tt) is in let most : n ≤ 65535 = s.to in (s.is, omega arith)

spelt-32 : (word : List ℕ) (n : ℕ) → number_32 word ≡ Some n → (decimal n ≡ word) × (n < 2 ^ 32)
spelt-32 word n is = let s = decimal-number 0 4294967295 n word (lit< tt) is in let most : n ≤ 4294967295 = s.to in (s.is, omega arith)

spelt-64 : (word : List ℕ) (n : ℕ) → number_64 word ≡ Some n → (decimal n ≡ word) × (n < 2 ^ 64)
spelt-64 word n is = let s = decimal-number 0 18446744073709551615 n word (lit< tt) is in let most : n ≤ 18446744073709551615 = s.to in (s.is, omega arith)

made-ended : (name a : List ℕ) (p : ℕ) → name ≡ codes "ENDED" → (decimal p ≡ a) × (p < 2 ^ 8) → Told (Ended p) (name ∷ a ∷ [])
made-ended name a p is s = let one = s.0 in rw (is, ← one) (refl, s.1)

told-ended : (name a : List ℕ) (e : Entry) → is_text (codes "ENDED") name ≡ true → option_map Ended (number_8 a) ≡ Some e → Told e (name ∷ a ∷ [])
told-ended name a e is it =
    let m = mapped Ended (number_8 a) e it in
    subst (λ (x : Entry). Told x (name ∷ a ∷ [])) m.2 (made-ended name a m.0 (named_so (codes "ENDED") name is) (spelt-8 a m.0 m.1))

made-idle : (name a : List ℕ) (n : ℕ) → name ≡ codes "IDLE" → (decimal n ≡ a) × (n < 2 ^ 32) → Told (Idle n) (name ∷ a ∷ [])
made-idle name a n is s = let one = s.0 in rw (is, ← one) (refl, s.1)

told-idle : (name a : List ℕ) (e : Entry) → is_text (codes "IDLE") name ≡ true → option_map Idle (number_32 a) ≡ Some e → Told e (name ∷ a ∷ [])
told-idle name a e is it =
    let m = mapped Idle (number_32 a) e it in
    subst (λ (x : Entry). Told x (name ∷ a ∷ [])) m.2 (made-idle name a m.0 (named_so (codes "IDLE") name is) (spelt-32 a m.0 m.1))

made-end : (name a : List ℕ) (d : ℕ) → name ≡ codes "END" → (decimal d ≡ a) × (d < 2 ^ 8) → Told (End d) (name ∷ a ∷ [])
made-end name a d is s = let one = s.0 in rw (is, ← one) (refl, s.1)

told-end : (name a : List ℕ) (e : Entry) → is_text (codes "END") name ≡ true → option_map End (number_8 a) ≡ Some e → Told e (name ∷ a ∷ [])
told-end name a e is it =
    let m = mapped End (number_8 a) e it in
    subst (λ (x : Entry). Told x (name ∷ a ∷ [])) m.2 (made-end name a m.0 (named_so (codes "END") name is) (spelt-8 a m.0 m.1))

made-clock : (name a : List ℕ) (t : ℕ) → name ≡ codes "CLOCK" → (decimal t ≡ a) × (t < 2 ^ 64) → Told (Clock t) (name ∷ a ∷ [])
made-clock name a t is s = let one = s.0 in rw (is, ← one) (refl, s.1)

told-clock : (name a : List ℕ) (e : Entry) → is_text (codes "CLOCK") name ≡ true → option_map Clock (number_64 a) ≡ Some e → Told e (name ∷ a ∷ [])
told-clock name a e is it =
    let m = mapped Clock (number_64 a) e it in
    subst (λ (x : Entry). Told x (name ∷ a ∷ [])) m.2 (made-clock name a m.0 (named_so (codes "CLOCK") name is) (spelt-64 a m.0 m.1))

made-ran : (name a b : List ℕ) (p n : ℕ) → name ≡ codes "RAN" → (decimal p ≡ a) × (p < 2 ^ 8) → (decimal n ≡ b) × (n < 2 ^ 32)
    → Told (Ran p n) (name ∷ a ∷ b ∷ [])
made-ran name a b p n is s t = let one = s.0 in let two = t.0 in rw (is, ← one, ← two) (line-two (codes "RAN") (decimal p) (decimal n), (s.1, t.1))

told-ran : (name a b : List ℕ) (e : Entry) → is_text (codes "RAN") name ≡ true → of_both Ran (number_8 a) (number_32 b) ≡ Some e → Told e (name ∷ a ∷ b ∷ [])
told-ran name a b e is it =
    let m = both Ran (number_8 a) (number_32 b) e it in
    subst (λ (x : Entry). Told x (name ∷ a ∷ b ∷ [])) m.4 (made-ran name a b m.0 m.1 (named_so (codes "RAN") name is) (spelt-8 a m.0 m.2) (spelt-32 b m.1 m.3))

made-answer : (name a b : List ℕ) (p v : ℕ) → name ≡ codes "ANSWER" → (decimal p ≡ a) × (p < 2 ^ 8) → (decimal v ≡ b) × (v < 2 ^ 64)
    → Told (Answer p v) (name ∷ a ∷ b ∷ [])
made-answer name a b p v is s t = let one = s.0 in let two = t.0 in rw (is, ← one, ← two) (line-two (codes "ANSWER") (decimal p) (decimal v), (s.1, t.1))

told-answer : (name a b : List ℕ) (e : Entry) → is_text (codes "ANSWER") name ≡ true → of_both Answer (number_8 a) (number_64 b) ≡ Some e
    → Told e (name ∷ a ∷ b ∷ [])
told-answer name a b e is it =
    let m = both Answer (number_8 a) (number_64 b) e it in
    subst (λ (x : Entry). Told x (name ∷ a ∷ b ∷ [])) m.4 (made-answer name a b m.0 m.1 (named_so (codes "ANSWER") name is) (spelt-8 a m.0 m.2)
    (spelt-64 b m.1 m.3))

made-lov : (name a b : List ℕ) (p group : ℕ) → name ≡ codes "LOV" → (decimal p ≡ a) × (p < 2 ^ 8) → (decimal group ≡ b) × (group < 2 ^ 16)
    → Told (Lov p group) (name ∷ a ∷ b ∷ [])
made-lov name a b p group is s t = let one = s.0 in let two = t.0 in rw (is, ← one, ← two) (line-two (codes "LOV") (decimal p) (decimal group), (s.1, t.1))

told-lov : (name a b : List ℕ) (e : Entry) → is_text (codes "LOV") name ≡ true → of_both Lov (number_8 a) (number_16 b) ≡ Some e → Told e (name ∷ a ∷ b ∷ [])
told-lov name a b e is it =
    let m = both Lov (number_8 a) (number_16 b) e it in
    subst (λ (x : Entry). Told x (name ∷ a ∷ b ∷ [])) m.4 (made-lov name a b m.0 m.1 (named_so (codes "LOV") name is) (spelt-8 a m.0 m.2) (spelt-16 b m.1 m.3))

made-busy : (name a b : List ℕ) (p d : ℕ) → name ≡ codes "BUSY" → (decimal p ≡ a) × (p < 2 ^ 8) → (decimal d ≡ b) × (d < 2 ^ 8)
    → Told (Busy p d) (name ∷ a ∷ b ∷ [])
made-busy name a b p d is s t = let one = s.0 in let two = t.0 in rw (is, ← one, ← two) (line-two (codes "BUSY") (decimal p) (decimal d), (s.1, t.1))

told-busy : (name a b : List ℕ) (e : Entry) → is_text (codes "BUSY") name ≡ true → of_both Busy (number_8 a) (number_8 b) ≡ Some e → Told e (name ∷ a ∷ b ∷ [])
told-busy name a b e is it =
    let m = both Busy (number_8 a) (number_8 b) e it in
    subst (λ (x : Entry). Told x (name ∷ a ∷ b ∷ [])) m.4 (made-busy name a b m.0 m.1 (named_so (codes "BUSY") name is) (spelt-8 a m.0 m.2) (spelt-8 b m.1 m.3))

made-move : (name a b : List ℕ) (d n : ℕ) → name ≡ codes "MOVE" → (decimal d ≡ a) × (d < 2 ^ 8) → (decimal n ≡ b) × (n < 2 ^ 16)
    → Told (Move d n) (name ∷ a ∷ b ∷ [])
made-move name a b d n is s t = let one = s.0 in let two = t.0 in rw (is, ← one, ← two) (line-two (codes "MOVE") (decimal d) (decimal n), (s.1, t.1))

told-move : (name a b : List ℕ) (e : Entry) → is_text (codes "MOVE") name ≡ true → of_both Move (number_8 a) (number_16 b) ≡ Some e → Told e (name ∷ a ∷ b ∷ [])
told-move name a b e is it =
    let m = both Move (number_8 a) (number_16 b) e it in
    subst (λ (x : Entry). Told x (name ∷ a ∷ b ∷ [])) m.4
    (made-move name a b m.0 m.1 (named_so (codes "MOVE") name is) (spelt-8 a m.0 m.2) (spelt-16 b m.1 m.3))

made-start : (name a b c : List ℕ) (p d k : ℕ) → name ≡ codes "START" → (decimal p ≡ a) × (p < 2 ^ 8) → (decimal d ≡ b) × (d < 2 ^ 8)
    → (decimal k ≡ c) × (k < 2 ^ 32) → Told (Start p d k) (name ∷ a ∷ b ∷ c ∷ [])
made-start name a b c p d k is s t u = let one = s.0 in let two = t.0 in let three =
    u.0 in rw (is, ← one, ← two, ← three) (line-three (codes "START") (decimal p) (decimal d) (decimal k), (s.1, t.1, u.1))

told-start : (name a b c : List ℕ) (e : Entry) → is_text (codes "START") name ≡ true → of_all Start (number_8 a) (number_8 b) (number_32 c) ≡ Some e
    → Told e (name ∷ a ∷ b ∷ c ∷ [])
told-start name a b c e is it =
    let m = all Start (number_8 a) (number_8 b) (number_32 c) e it in
    subst (λ (x : Entry). Told x (name ∷ a ∷ b ∷ c ∷ [])) m.6 (made-start name a b c m.0 m.1 m.2 (named_so (codes "START") name is) (spelt-8 a m.0 m.3)
    (spelt-8 b m.1 m.4) (spelt-32 c m.2 m.5))

made-fail : (name a b : List ℕ) (p : ℕ) (kind : Failure) → name ≡ codes "FAIL" → (decimal p ≡ a) × (p < 2 ^ 8) → name_of kind ≡ b
    → Told (Fail p kind) (name ∷ a ∷ b ∷ [])
made-fail name a b p kind is s two = let one = s.0 in rw (is, ← one, ← two) (line-two (codes "FAIL") (decimal p) (name_of kind), s.1)

told-fail : (name a b : List ℕ) (e : Entry) → is_text (codes "FAIL") name ≡ true → of_both Fail (number_8 a) (failure_named b) ≡ Some e
    → Told e (name ∷ a ∷ b ∷ [])
told-fail name a b e is it =
    let m = both Fail (number_8 a) (failure_named b) e it in
    subst (λ (x : Entry). Told x (name ∷ a ∷ b ∷ [])) m.4
    (made-fail name a b m.0 m.1 (named_so (codes "FAIL") name is) (spelt-8 a m.0 m.2) (name-failure b m.1 m.3))

made-take : (name a b : List ℕ) (p d : ℕ) → name ≡ codes "TAKE" → (decimal p ≡ a) × (p < 2 ^ 8) → (decimal d ≡ b) × (d < 2 ^ 8)
    → Told (Take p d) (name ∷ a ∷ b ∷ [])
made-take name a b p d is s t = let one = s.0 in let two = t.0 in rw (is, ← one, ← two) (line-two (codes "TAKE") (decimal p) (decimal d), (s.1, t.1))

told-take : (name a b : List ℕ) (e : Entry) → is_text (codes "TAKE") name ≡ true → of_both Take (number_8 a) (number_8 b) ≡ Some e → Told e (name ∷ a ∷ b ∷ [])
told-take name a b e is it =
    let m = both Take (number_8 a) (number_8 b) e it in
    subst (λ (x : Entry). Told x (name ∷ a ∷ b ∷ [])) m.4 (made-take name a b m.0 m.1 (named_so (codes "TAKE") name is) (spelt-8 a m.0 m.2) (spelt-8 b m.1 m.3))

made-give : (name a b : List ℕ) (p d : ℕ) → name ≡ codes "GIVE" → (decimal p ≡ a) × (p < 2 ^ 8) → (decimal d ≡ b) × (d < 2 ^ 8)
    → Told (Give p d) (name ∷ a ∷ b ∷ [])
made-give name a b p d is s t = let one = s.0 in let two = t.0 in rw (is, ← one, ← two) (line-two (codes "GIVE") (decimal p) (decimal d), (s.1, t.1))

told-give : (name a b : List ℕ) (e : Entry) → is_text (codes "GIVE") name ≡ true → of_both Give (number_8 a) (number_8 b) ≡ Some e → Told e (name ∷ a ∷ b ∷ [])
told-give name a b e is it =
    let m = both Give (number_8 a) (number_8 b) e it in
    subst (λ (x : Entry). Told x (name ∷ a ∷ b ∷ [])) m.4 (made-give name a b m.0 m.1 (named_so (codes "GIVE") name is) (spelt-8 a m.0 m.2) (spelt-8 b m.1 m.3))

made-swap : (name a b : List ℕ) (p q : ℕ) → name ≡ codes "SWAP" → (decimal p ≡ a) × (p < 2 ^ 8) → (decimal q ≡ b) × (q < 2 ^ 8)
    → Told (Swap p q) (name ∷ a ∷ b ∷ [])
made-swap name a b p q is s t = let one = s.0 in let two = t.0 in rw (is, ← one, ← two) (line-two (codes "SWAP") (decimal p) (decimal q), (s.1, t.1))

told-swap : (name a b : List ℕ) (e : Entry) → is_text (codes "SWAP") name ≡ true → of_both Swap (number_8 a) (number_8 b) ≡ Some e → Told e (name ∷ a ∷ b ∷ [])
told-swap name a b e is it =
    let m = both Swap (number_8 a) (number_8 b) e it in
    subst (λ (x : Entry). Told x (name ∷ a ∷ b ∷ [])) m.4 (made-swap name a b m.0 m.1 (named_so (codes "SWAP") name is) (spelt-8 a m.0 m.2) (spelt-8 b m.1 m.3))

made-wait : (name a b : List ℕ) (p : ℕ) (kind : Kind) → name ≡ codes "WAIT" → (decimal p ≡ a) × (p < 2 ^ 8) → kind_name kind ≡ b
    → Told (Wait p kind) (name ∷ a ∷ b ∷ [])
made-wait name a b p kind is s two = let one = s.0 in rw (is, ← one, ← two) (line-two (codes "WAIT") (decimal p) (kind_name kind), s.1)

told-wait : (name a b : List ℕ) (e : Entry) → is_text (codes "WAIT") name ≡ true → of_both Wait (number_8 a) (kind_named b) ≡ Some e
    → Told e (name ∷ a ∷ b ∷ [])
told-wait name a b e is it =
    let m = both Wait (number_8 a) (kind_named b) e it in
    subst (λ (x : Entry). Told x (name ∷ a ∷ b ∷ [])) m.4
    (made-wait name a b m.0 m.1 (named_so (codes "WAIT") name is) (spelt-8 a m.0 m.2) (name-kind b m.1 m.3))

told-one : (name a : List ℕ) (e : Entry) → of_one name a ≡ Some e → Told e (name ∷ a ∷ [])
told-one name a e is =
    pick _ _ _ e _ is (told-ended name a e)
    (λ is. pick _ _ _ e _ is (told-idle name a e)
    (λ is. pick _ _ _ e _ is (told-end name a e) (λ is. pick _ _ _ e _ is (told-clock name a e) (λ is. absurd cc))))

told-two : (name a b : List ℕ) (e : Entry) → of_two name a b ≡ Some e → Told e (name ∷ a ∷ b ∷ [])
told-two name a b e is =
    pick _ _ _ e _ is (told-ran name a b e)
    (λ is. pick _ _ _ e _ is (told-answer name a b e) (λ is. pick _ _ _ e _ is (told-take name a b e) (λ is. pick _ _ _ e _ is (told-give name a b e)
    (λ is. pick _ _ _ e _ is (told-fail name a b e)
    (λ is. pick _ _ _ e _ is (told-lov name a b e) (λ is. pick _ _ _ e _ is (told-busy name a b e) (λ is. pick _ _ _ e _ is (told-wait name a b e)
    (λ is. pick _ _ _ e _ is (told-move name a b e) (λ is. pick _ _ _ e _ is (told-swap name a b e) (λ is. absurd cc))))))))))

told : (ws : List (List ℕ)) (e : Entry) → of_words ws ≡ Some e → Told e ws
told [] e is = absurd cc
told (name ∷ []) e is = absurd cc
told (name ∷ a ∷ []) e is = told-one name a e is
told (name ∷ a ∷ b ∷ []) e is = told-two name a b e is
told (name ∷ a ∷ b ∷ c ∷ []) e is = pick _ _ _ e _ is (told-start name a b c e) (λ is. absurd cc)
told (name ∷ a ∷ b ∷ c ∷ d ∷ ws) e is = absurd cc

pub printed : (line : List ℕ) (e : Entry) → entry_in line ≡ Some e → (entry_line e ≡ line) × IsEntry e
unfolding entry_in
printed line e is = let t = told (words line) e is in (t.0 ∙ spaced-words line, t.1)
