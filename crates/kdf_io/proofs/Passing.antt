-- One piece after another: what was taken from what was left, and what was added to what was written.
use Rattle.std.proofs.Common.{◌≡◌, ℕ, ◌+◌, ◌≤◌, Option, Some, None, List, ◌++◌, length, take, drop, sym, ap, ◌∙◌, append_assoc, length-append, arith}
use Rattle.std.specs.Prelude.{option_map}
use Rattle.std.proofs.Math.Seq.{take-add}
use Rattle.kdf_io.specs.declared.read_end.ReadEnd.{ReadEnd}
use Rattle.kdf_io.specs.declared.read_end.ReadEnd.TheVariants.{Fault, Large, Memory}
use Rattle.kdf_io.specs.Outside.{Advances, Added}
use Rattle.kdf_io.specs.Reading.{IsTakenBefore, TakesAtMost, TookBefore}

-- one read more
pub Advances-more : (before middle after : Option (List ℕ)) (bytes piece : List ℕ) → Advances before bytes middle → Advances middle piece after
    → Advances before (bytes ++ piece) after
Advances-more before middle None bytes piece p q = p ∙ ap (option_map (λ rest. bytes ++ rest)) q
Advances-more before middle (Some rest) bytes piece p q =
    (p ∙ ap (option_map (λ rest. bytes ++ rest)) q) ∙ ap Some (sym (append_assoc bytes piece rest))

-- bytes that were taken before count against the limit
IsTakenBefore-more : (end : ReadEnd) (taken allowed limit more : ℕ) → taken + allowed ≡ limit → IsTakenBefore end allowed more
    → IsTakenBefore end limit (taken + more)
IsTakenBefore-more Fault taken allowed limit more e p = omega arith
IsTakenBefore-more Large taken allowed limit more e p = omega arith
IsTakenBefore-more Memory taken allowed limit more e p = omega arith

pub TookBefore-more : (end : ReadEnd) (allowed limit : ℕ) (before middle after : Option (List ℕ)) (bytes : List ℕ) → length bytes + allowed ≡ limit
    → Advances before bytes middle → TookBefore end allowed middle after → TookBefore end limit before after
TookBefore-more end allowed limit before middle after bytes e p q =
    let h : IsTakenBefore end limit (length bytes + length q.0) = IsTakenBefore-more end (length bytes) allowed limit (length q.0) e q.1 in
    (bytes ++ q.0, rw length-append h, Advances-more before middle after bytes q.0 p q.2)

taken_at_most : (end : ReadEnd) (limit taken : ℕ) → IsTakenBefore end limit taken → taken ≤ limit + 1
taken_at_most Fault limit taken p = omega arith
taken_at_most Large limit taken p = omega arith
taken_at_most Memory limit taken p = omega arith

-- before no end more is taken than one byte past the limit
pub TookBefore-at_most : (end : ReadEnd) (limit : ℕ) (before after : Option (List ℕ)) → TookBefore end limit before after → TakesAtMost (limit + 1) before after
TookBefore-at_most end limit before after p = (p.0, taken_at_most end limit (length p.0) p.1, p.2)

-- one put more
pub Added-more : (before middle after : Option (List ℕ)) (bytes : List ℕ) (done n : ℕ) → Added before (take done bytes) middle
    → Added middle (take n (drop done bytes)) after → Added before (take (done + n) bytes) after
Added-more None middle after bytes done n p q = q ∙ ap (option_map (λ start. start ++ take n (drop done bytes))) p
Added-more (Some start) middle after bytes done n p q =
    (q ∙ ap (option_map (λ start. start ++ take n (drop done bytes))) p)
    ∙ ap Some (append_assoc start (take done bytes) (take n (drop done bytes)) ∙ ap (λ xs. start ++ xs) (sym (take-add done n bytes)))
