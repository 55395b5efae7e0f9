-- Sixteen Q-stores, each a triple of parts below 2^16: counter C, increment I and modifier M.
use Rattle.std.specs.Prelude.{ℕ, ◌+◌, ◌-◌, ◌*◌, ◌/◌, ◌%◌, ◌^◌, ◌==◌, if◌then◌else◌, List, replicate, slice_index_or, slice_set}
use Rattle.kdf_qstore.specs.declared.part.Part.{Part}
use Rattle.kdf_qstore.specs.declared.part.Part.TheVariants.{C, I, M}
pub use Rattle.kdf_qstore.specs.declared.triple.Triple.{Triple}

abbrev pub zero_triple : Triple
zero_triple = record { c = 0; i = 0; m = 0 }

-- the Q-stores at the start
abbrev pub zero_triples : List Triple
zero_triples = replicate 16 zero_triple

-- Qq; Q0 reads as zero
abbrev pub triple_at : List Triple → ℕ → Triple
triple_at qs q = if q == 0 then zero_triple else slice_index_or qs q zero_triple

-- the Q-stores after a write to Qq; a write to Q0 is lost
abbrev pub with_triple : List Triple → ℕ → Triple → List Triple
with_triple qs q t = if q == 0 then qs else slice_set qs q t

-- the triple in a word: C in D0 to D15, I in D16 to D31, M in D32 to D47
abbrev pub triple_of : ℕ → Triple
triple_of w = record { c = w / 2 ^ 32 % 2 ^ 16; i = w / 2 ^ 16 % 2 ^ 16; m = w % 2 ^ 16 }

-- the word that a triple is
abbrev pub word_of_triple : Triple → ℕ
word_of_triple t = t.c * 2 ^ 32 + t.i * 2 ^ 16 + t.m

-- one part of a triple
abbrev pub part_of : Part → Triple → ℕ
part_of C t = t.c
part_of I t = t.i
part_of M t = t.m

-- a triple with one part changed
abbrev pub with_part : Part → ℕ → Triple → Triple
with_part C n t = record t { c = n }
with_part I n t = record t { i = n }
with_part M n t = record t { m = n }

-- sums and differences of parts are modulo 2^16
abbrev pub sum_16 : ℕ → ℕ → ℕ
sum_16 a b = (a + b) % 2 ^ 16

abbrev pub difference_16 : ℕ → ℕ → ℕ
difference_16 a b = (a + (2 ^ 16 - b)) % 2 ^ 16

-- the sums of the parts of two triples
abbrev pub sum_of : Triple → Triple → Triple
sum_of t u = record { c = sum_16 t.c u.c; i = sum_16 t.i u.i; m = sum_16 t.m u.m }

-- a number is added to one part
abbrev pub with_sum : Part → ℕ → Triple → Triple
with_sum part n t = with_part part (sum_16 (part_of part t) n) t

-- one part of a triple of which C and M were 0 and I was 1
abbrev pub reset : Part → ℕ → Triple
reset part n = with_part part n (record { c = 0; i = 1; m = 0 })

-- C has its sign changed
abbrev pub negated : Triple → Triple
negated t = record t { c = difference_16 0 t.c }

-- I is added to M, or taken from it
abbrev pub increased : Triple → Triple
increased t = record t { m = sum_16 t.m t.i }

abbrev pub decreased : Triple → Triple
decreased t = record t { m = difference_16 t.m t.i }

-- 1 is taken from C
abbrev pub counted_down : Triple → Triple
counted_down t = record t { c = difference_16 t.c 1 }

-- I is added to M, and 1 is taken from C
abbrev pub stepped : Triple → Triple
stepped t = record { c = difference_16 t.c 1; i = t.i; m = sum_16 t.m t.i }
