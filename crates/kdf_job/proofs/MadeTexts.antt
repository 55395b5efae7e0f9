-- The text of a made job, part by part.
use Rattle.std.proofs.Common.{◌≡◌, ℕ, ◌+◌, ◌*◌, ◌-◌, List, [], ◌∷◌, ◌++◌, map, suc, zero, codes, decimal, refl, sym, subst, ap, ◌∙◌, arith, append_assoc}
use Rattle.std.proofs.Common.{append-nil, zero-add, cond, Result, Ok, Err}
use Rattle.std.specs.Prelude.{OnOk, is_ok}
use Rattle.std.proofs.lemmas.List.FromFn.{map-range_with_len_more}
use Rattle.std.specs.List.{flat_map, range_with_len}
use Rattle.kdf_text.specs.Text.{text}
use Rattle.kdf_text.proofs.Texts.{text_lines_more, text_more}
use Rattle.kdf_job.specs.Made.{after_steps, letter, letter_of, letters_from, made_deck, made_lines, made_round, made_rounds, made_slot, made_slots, reader_line}
use Rattle.kdf_job.specs.Made.{reader_lines, slot_with, step}
use Rattle.std.proofs.Math.Path.{fun_ext}

-- ---- numbers

steps-more : (n a b : ℕ) → after_steps (after_steps n a) b ≡ after_steps n (a + b)
unfolding after_steps
steps-more n zero b = rw zero-add refl
steps-more n (suc a) b = let e : suc a + b ≡ suc (a + b) = omega arith in rw e (steps-more (step n) a b)

pub steps-none : (n : ℕ) → after_steps n 0 ≡ n
unfolding after_steps
steps-none n = refl

steps-next : (n k : ℕ) → after_steps n (k + 1) ≡ step (after_steps n k)
unfolding after_steps
steps-next n k = sym (steps-more n k 1)

-- the letters after so many
letters-more : (n a b : ℕ) → letters_from (after_steps n a) b ≡ letters_from n (a + b)
unfolding letters_from
letters-more n a b = ap (λ (f : ℕ → ℕ). map f (range_with_len 0 16)) (fun_ext one)
  where
    one : (i : ℕ) → letter (after_steps n a) (b + i) ≡ letter n (a + b + i)
    one i =
        let e : a + (b + i + 1) ≡ a + b + i + 1 = omega arith in
        ap letter_of (steps-more n a (b + i + 1) ∙ ap (after_steps n) e)

-- ---- a line of a reader

-- so many letters of its front
unfoldable pub front : ℕ → ℕ → List ℕ
front n k = codes "+" ++ map (letter n) (range_with_len 0 k)

pub front-none : (n : ℕ) → front n 0 ≡ codes "+"
unfolding front
front-none n = refl

pub front_more : (n k x c : ℕ) (old mid new : List ℕ) → mid ≡ old ++ front n k → x ≡ after_steps n k → c ≡ letter_of (step x) → new ≡ mid ++ c ∷ []
    → new ≡ old ++ front n (k + 1)
unfolding front
front_more n k x c old mid new first at is then =
    let here : c ≡ letter n k = rw (is, at) (ap letter_of (sym (steps-next n k))) in
    rw (then, first, here, map-range_with_len_more (letter n) 0 k k (omega arith)) (simp append_assoc)

pub front_steps : (n k x y : ℕ) → x ≡ after_steps n k → y ≡ step x → y ≡ after_steps n (k + 1)
front_steps n k x y at is = is ∙ ap step at ∙ sym (steps-next n k)

-- a line of letters, each of which is written
line_end : (n : ℕ) (old mid new : List ℕ) → mid ≡ old ++ front n 16 → new ≡ mid ++ 10 ∷ [] → new ≡ old ++ text ((codes "+" ++ letters_from n 0) ∷ [])
unfolding front letters_from text
line_end n old mid new all then =
    let same : map (letter n) (range_with_len 0 16) ≡ map (λ i. letter n (0 + i)) (range_with_len 0 16) =
    ap (λ (f : ℕ → ℕ). map f (range_with_len 0 16)) (fun_ext one) in
    rw (then, all, same) (append_assoc old _ (10 ∷ []) ∙ ap (λ (xs : List ℕ). old ++ xs) (sym (append-nil _)))
  where
    one : (i : ℕ) → letter n i ≡ letter n (0 + i)
    one i = rw zero-add refl

pub line_ends : {E : Type 0} (n : ℕ) (old mid new : List ℕ) (r : Result (Unit {0}) E) → mid ≡ old ++ front n 16 → new ≡ cond (is_ok r) (mid ++ 10 ∷ []) mid
    → OnOk r (new ≡ old ++ text ((codes "+" ++ letters_from n 0) ∷ []))
line_ends n old mid new (Ok x) all then = line_end n old mid new all then
line_ends n old mid new (Err e) all then = tt {0}

-- ---- what is written part by part

-- the lines of the numbers from 0 on
pub line_of_each : (f : ℕ → List ℕ) (k : ℕ) (old mid new : List ℕ) → mid ≡ old ++ text (map f (range_with_len 0 k)) → new ≡ mid ++ text (f k ∷ [])
    → new ≡ old ++ text (map f (range_with_len 0 (k + 1)))
line_of_each f k old mid new first then = rw (map-range_with_len_more f 0 k k (omega arith)) (text_more old mid new _ _ first then)

pub lines_of_each : (f : ℕ → List (List ℕ)) (k : ℕ) (old mid new : List ℕ) → mid ≡ old ++ text (flat_map f (range_with_len 0 k)) → new ≡ mid ++ text (f k)
    → new ≡ old ++ text (flat_map f (range_with_len 0 (k + 1)))
lines_of_each f k old mid new first then =
    let e : k - 0 ≡ k = omega arith in
    let g : k + 1 - 0 ≡ k + 1 = omega arith in
    subst (λ (m : ℕ). new ≡ old ++ text (flat_map f (range_with_len 0 m))) g
    (text_lines_more f 0 k old mid new (omega arith) (subst (λ (m : ℕ). mid ≡ old ++ text (flat_map f (range_with_len 0 m))) (sym e) first) then)

pub nothing_written : (old : List ℕ) → old ≡ old ++ text []
unfolding text
nothing_written old = sym (append-nil old)

-- ---- the last number of a loop

pub reader_done : (n k : ℕ) (old new : List ℕ) → k ≡ 200 → new ≡ old ++ text (map (reader_line n 0) (range_with_len 0 k)) → new ≡ old ++ text (reader_lines n 0)
unfolding reader_lines
reader_done n k old new last all = subst (λ (m : ℕ). new ≡ old ++ text (map (reader_line n 0) (range_with_len 0 m))) last all

pub rounds_done : (k : ℕ) (old new : List ℕ) → k ≡ 410 → new ≡ old ++ text (flat_map (λ (round : ℕ). made_round) (range_with_len 0 k))
    → new ≡ old ++ text made_rounds
unfolding made_rounds
rounds_done k old new last all = subst (λ (m : ℕ). new ≡ old ++ text (flat_map (λ (round : ℕ). made_round) (range_with_len 0 m))) last all

pub slots_done : (n k : ℕ) (old new : List ℕ) → k ≡ 4 → new ≡ old ++ text (flat_map (made_slot n) (range_with_len 0 k)) → new ≡ old ++ text (made_slots n)
unfolding made_slots
slots_done n k old new last all = subst (λ (m : ℕ). new ≡ old ++ text (flat_map (made_slot n) (range_with_len 0 m))) last all

pub round_done : (k : ℕ) (old mid new : List ℕ) → k ≡ 8 → mid ≡ old ++ text (codes "ORDERS 80" ∷ [])
    → new ≡ mid ++ text (map (λ d. codes "END " ++ decimal d) (range_with_len 0 k))
    → new ≡ old ++ text made_round
unfolding made_round
round_done k old mid new last first all =
    text_more old mid new _ _ first (subst (λ (m : ℕ). new ≡ mid ++ text (map (λ d. codes "END " ++ decimal d) (range_with_len 0 m))) last all)

-- ---- letters that go on

pub line_goes_on : (n j x : ℕ) → x ≡ after_steps n (16 * j) → codes "+" ++ letters_from x 0 ≡ reader_line n 0 j
line_goes_on n j x at =
    let e : 16 * j + 0 ≡ 16 * (200 * 0 + j) = omega arith in
    rw at (ap (λ (xs : List ℕ). codes "+" ++ xs) (letters-more n (16 * j) 0 ∙ ap (letters_from n) e))

pub reader_more : (n k x : ℕ) (old mid new : List ℕ) → mid ≡ old ++ text (map (reader_line n 0) (range_with_len 0 k)) → x ≡ after_steps n (16 * k)
    → new ≡ mid ++ text ((codes "+" ++ letters_from x 0) ∷ []) → new ≡ old ++ text (map (reader_line n 0) (range_with_len 0 (k + 1)))
reader_more n k x old mid new first at then =
    line_of_each (reader_line n 0) k old mid new first (then ∙ ap (λ (l : List ℕ). mid ++ text (l ∷ [])) (line_goes_on n k x at))

pub steps_go_on : (n a b c x y : ℕ) → x ≡ after_steps n a → y ≡ after_steps x b → a + b ≡ c → y ≡ after_steps n c
steps_go_on n a b c x y at then e = then ∙ ap (λ (z : ℕ). after_steps z b) at ∙ steps-more n a b ∙ ap (after_steps n) e

reader_goes_on : (n p x : ℕ) → x ≡ after_steps n (3200 * p) → reader_lines x 0 ≡ reader_lines n p
unfolding reader_lines
reader_goes_on n p x at = ap (λ (f : ℕ → List ℕ). map f (range_with_len 0 200)) (fun_ext one)
  where
    one : (j : ℕ) → reader_line x 0 j ≡ reader_line n p j
    one j =
        let e : 3200 * p + 16 * (200 * 0 + j) ≡ 16 * (200 * p + j) = omega arith in
        rw at (ap (λ (xs : List ℕ). codes "+" ++ xs) (letters-more n (3200 * p) (16 * (200 * 0 + j)) ∙ ap (letters_from n) e))

pub slots_more : (n p x : ℕ) (old mid new : List ℕ) → mid ≡ old ++ text (flat_map (made_slot n) (range_with_len 0 p)) → x ≡ after_steps n (3200 * p)
    → new ≡ mid ++ text (slot_with p (reader_lines x 0)) → new ≡ old ++ text (flat_map (made_slot n) (range_with_len 0 (p + 1)))
slots_more n p x old mid new first at then =
    lines_of_each (made_slot n) p old mid new first (then ∙ ap (λ (ls : List (List ℕ)). mid ++ text (slot_with p ls)) (reader_goes_on n p x at))

-- ---- a slot

-- its lines in the parts that are written
slot_parts : (p : ℕ) (reader : List (List ℕ))
    → (((((codes "SLOT " ++ decimal p) ∷ []) ++ (codes "STORE 96" ∷ codes "DECK" ∷ made_deck ++ codes "ENDDECK" ∷ []))
    ++ (codes "DEVICE " ++ decimal (2 * p) ++ codes " " ++ codes "TR") ∷ [])
    ++ reader ++ (codes "DEVICE " ++ decimal (2 * p + 1) ++ codes " " ++ codes "TP") ∷ []) ++ codes "SHOW 12 12" ∷ []
    ≡ slot_with p reader
unfolding slot_with
slot_parts p reader =
    let front : List (List ℕ) = (codes "SLOT " ++ decimal p) ∷ codes "STORE 96" ∷ codes "DECK" ∷ made_deck ++ codes "ENDDECK"
    ∷ (codes "DEVICE " ++ decimal (2 * p) ++ codes " TR") ∷ [] in
    rw (
      append_assoc (codes "DEVICE " ++ decimal (2 * p)) (codes " ") (codes "TR"),
      append_assoc (codes "DEVICE " ++ decimal (2 * p + 1)) (codes " ")
          (codes "TP"),
    )
    (ap (λ (ls : List (List ℕ)). front ++ ls) (append_assoc reader ((codes "DEVICE " ++ decimal (2 * p + 1) ++ codes " TP") ∷ []) (codes "SHOW 12 12" ∷ [])))

pub slot_ends : {E : Type 0} (p : ℕ) (reader : List (List ℕ)) (old mid new : List ℕ) (r : Result (Unit {0}) E)
    → mid ≡ old ++ text (((((codes "SLOT " ++ decimal p) ∷ []) ++ (codes "STORE 96" ∷ codes "DECK" ∷ made_deck ++ codes "ENDDECK" ∷ []))
    ++ (codes "DEVICE " ++ decimal (2 * p) ++ codes " " ++ codes "TR") ∷ [])
    ++ reader ++ (codes "DEVICE " ++ decimal (2 * p + 1) ++ codes " " ++ codes "TP") ∷ [])
    → OnOk r (new ≡ mid ++ text (codes "SHOW 12 12" ∷ [])) → OnOk r (new ≡ old ++ text (slot_with p reader))
slot_ends p reader old mid new (Ok x) first then =
    text_more old mid new _ _ first then ∙ ap (λ (ls : List (List ℕ)). old ++ text ls) (slot_parts p reader)
slot_ends p reader old mid new (Err e) first then = tt {0}

-- ---- all lines
pub job_written : (n : ℕ) (old mid new : List ℕ) → mid ≡ old ++ text (((codes "KDF9 JOB 1" ∷ [] ++ made_slots n) ++ codes "SCHEDULE" ∷ []) ++ made_rounds)
    → new ≡ mid ++ text (codes "ENDJOB" ∷ []) → new ≡ old ++ text (made_lines n)
unfolding made_lines
job_written n old mid new first then =
    text_more old mid new _ _ first then
    ∙ ap (λ (ls : List (List ℕ)). old ++ text (ls ++ codes "ENDJOB" ∷ []))
    (append_assoc (codes "KDF9 JOB 1" ∷ made_slots n) (codes "SCHEDULE" ∷ []) made_rounds)

pub all_written : (n : ℕ) (old new : List ℕ) → old ≡ [] → new ≡ old ++ text (made_lines n) → new ≡ text (made_lines n)
all_written n old new none all = rw none at all
