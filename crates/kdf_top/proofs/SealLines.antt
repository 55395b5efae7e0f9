-- No line ends within a line that is sealed, and none of them is ENDSNAPSHOT.
use Rattle.std.proofs.Common.{◌≡◌, ℕ, zero, suc, ◌+◌, ◌-◌, ◌/◌, ◌%◌, Bool, true, false, cond, eqb, ◌&&◌, not, List, [], ◌∷◌, ◌++◌, length, get_or, map, codes}
use Rattle.std.proofs.Common.{Option, Some, None, refl, All, arith}
use Rattle.std.specs.Fmt.{decimal}
use Rattle.std.specs.List.{flat_map, range_with_len}
use Rattle.std.proofs.lemmas.Bool.{or_parts}
use Rattle.kdf_text.specs.Text.{octal}
use Rattle.kdf_text.proofs.Cutting.{has}
use Rattle.kdf_code.specs.Code.{bytes, host_of}
use Rattle.kdf_word.specs.Characters.{codes_of_all}
use Rattle.kdf_journal.specs.declared.kind.Kind.{Kind}
use Rattle.kdf_journal.specs.declared.kind.Kind.TheVariants.{Tr, Tp, Cr, Lp, Mt}
use Rattle.kdf_journal.specs.Failures.{name_of}
use Rattle.kdf_journal.specs.Kinds.{kind_name}
use Rattle.kdf_qstore.specs.declared.triple.Triple.{Triple}
use Rattle.kdf_qstore.specs.Triples.{triple_at}
use Rattle.kdf_tape.specs.Tape.{Recorded}
use Rattle.kdf_transfer.specs.Devices.{Fixture, DeviceProgress}
use Rattle.kdf_processor.specs.declared.registers.Life.{Life}
use Rattle.kdf_processor.specs.declared.registers.Life.TheVariants as life
use Rattle.kdf_processor.specs.declared.registers.Registers.{Registers}
use Rattle.kdf_processor.specs.declared.spooled.Spooled.{Spooled}
use Rattle.kdf_processor.specs.Claims.{is_claimed}
use Rattle.kdf_processor.specs.State.{Lending, State, device_at, lendings, own_fixture_at, word_at}
use Rattle.kdf_job.specs.Job.{ShownJob, ShownSlot}
use Rattle.kdf_report.specs.Devices.{bit, block_line, block_lines, block_name, device_line, device_lines, device_numbers, holding, host_text, own_lines}
use Rattle.kdf_report.specs.Devices.{stint_lines, tape_line}
use Rattle.kdf_report.specs.Text.{life_line, life_name, links_line, nest_line, q_line, q_lines, registers_lines, section, sections_lines, show_lines}
use Rattle.kdf_report.specs.Text.{spool_line, word_line_at}
use Rattle.kdf_snapshot.specs.Stores.{slot_lines, store_line, store_lines, word_lines}
use Rattle.kdf_snapshot.specs.Written.{CanBeSealed}
use Rattle.kdf_snapshot.proofs.WholeLines.{IsWhole, decimal-whole, mapped-whole, octal-whole, whole-append}
use Rattle.kdf_snapshot.proofs.WrittenParts.{failure_whole, kind_whole}
use Rattle.kdf_top.specs.Snapshots.{seal_lines}

-- ---- pieces of a line

more : (front word : List ℕ) → IsWhole front → IsWhole word → IsWhole (front ++ codes " " ++ word)
more front word first then = whole-append (front ++ codes " ") word (whole-append front (codes " ") first refl) then

number : (front : List ℕ) (n : ℕ) → IsWhole front → IsWhole (front ++ codes " " ++ decimal n)
number front n first = more front (decimal n) first (decimal-whole n)

flat_whole : {X : Type 0} (f : X → List ℕ) (xs : List X) → ((x : X) → IsWhole (f x)) → IsWhole (flat_map f xs)
flat_whole f [] each = refl
flat_whole f (x ∷ xs) each = whole-append (f x) (flat_map f xs) (each x) (flat_whole f xs each)

at_place : (xs : List ℕ) (k : ℕ) → IsWhole xs → eqb (get_or xs k 0) 10 ≡ false
at_place [] k whole = refl
at_place (x ∷ xs) zero whole = (or_parts (eqb x 10) (has 10 xs) whole).0
at_place (x ∷ xs) (suc k) whole = at_place xs k (or_parts (eqb x 10) (has 10 xs) whole).1

host_apart : (code : ℕ) → eqb (host_of code) 10 ≡ false
unfolding host_of
host_apart code = at_place bytes code refl

host_whole : (characters : List ℕ) → IsWhole (host_text characters)
host_whole characters = mapped-whole host_of characters host_apart

bit_whole : (b : Bool) → IsWhole (bit b)
bit_whole true = refl
bit_whole false = refl

holding_whole : (b : Bool) → IsWhole (holding b)
holding_whole true = refl
holding_whole false = refl

-- ---- lines

abbrev AreSealable : List (List ℕ) → Type 0
AreSealable [] = Unit {0}
AreSealable (l ∷ ls) = CanBeSealed l × AreSealable ls

lines_append : (ls ks : List (List ℕ)) → AreSealable ls → AreSealable ks → AreSealable (ls ++ ks)
lines_append [] ks first others = others
lines_append (l ∷ ls) ks first others = (first.0, lines_append ls ks first.1 others)

flat_lines : {X : Type 0} (f : X → List (List ℕ)) (xs : List X) → ((x : X) → AreSealable (f x)) → AreSealable (flat_map f xs)
flat_lines f [] each = tt
flat_lines f (x ∷ xs) each = lines_append (f x) (flat_map f xs) (each x) (flat_lines f xs each)

map_lines : {X : Type 0} (f : X → List ℕ) (xs : List X) → ((x : X) → CanBeSealed (f x)) → AreSealable (map f xs)
map_lines f [] each = tt
map_lines f (x ∷ xs) each = (each x, map_lines f xs each)

if_line : (b : Bool) (l : List ℕ) → CanBeSealed l → AreSealable (cond b [] (l ∷ []))
if_line true l can = tt
if_line false l can = (can, tt)

pub all_sealable : (ls : List (List ℕ)) → AreSealable ls → All CanBeSealed ls
all_sealable [] are k d lt = absurd (omega arith)
all_sealable (l ∷ ls) are zero d lt = are.0
all_sealable (l ∷ ls) are (suc k) d lt = all_sealable ls are.1 k d (omega arith)

-- ---- registers

life_can : (x : Life) → CanBeSealed (life_line x)
life_can life.Live = record { whole = refl; other = refl }
life_can life.Ended = record { whole = refl; other = refl }
life_can (life.Failed kind) = record {
  whole = whole-append (codes "STATE ") (life_name (life.Failed kind)) refl
      (whole-append (codes "FAILED ") (name_of kind) refl (failure_whole kind));
  other = refl;
}

orders_can : (n : ℕ) → CanBeSealed (codes "ORDERS " ++ decimal n)
orders_can n = record { whole = whole-append (codes "ORDERS ") (decimal n) refl (decimal-whole n); other = refl }

at_can : (n m : ℕ) → CanBeSealed (codes "AT " ++ decimal n ++ codes " " ++ decimal m)
at_can n m = record { whole = number (codes "AT " ++ decimal n) m (whole-append (codes "AT ") (decimal n) refl (decimal-whole n)); other = refl }

flags_can : (v t : Bool) → CanBeSealed (codes "FLAGS " ++ bit v ++ codes " " ++ bit t)
flags_can v t = record { whole = more (codes "FLAGS " ++ bit v) (bit t) (whole-append (codes "FLAGS ") (bit v) refl (bit_whole v)) (bit_whole t); other = refl }

nest_can : (nest : List ℕ) → CanBeSealed (nest_line nest)
nest_can nest =
    record {
      whole = whole-append (codes "NEST " ++ decimal (length nest)) (flat_map (λ w. codes " " ++ octal w) nest)
          (whole-append (codes "NEST ") (decimal (length nest)) refl (decimal-whole (length nest)))
          (flat_whole (λ w. codes " " ++ octal w) nest (λ w. whole-append (codes " ") (octal w) refl (octal-whole w)));
      other = refl;
    }

link_whole : (l : ℕ) → IsWhole (codes " " ++ decimal (l % 8192) ++ codes "/" ++ decimal (l / 8192))
link_whole l =
    whole-append (codes " " ++ decimal (l % 8192) ++ codes "/") (decimal (l / 8192))
    (whole-append (codes " " ++ decimal (l % 8192)) (codes "/") (whole-append (codes " ") (decimal (l % 8192)) refl (decimal-whole (l % 8192))) refl)
    (decimal-whole (l / 8192))

links_can : (links : List ℕ) → CanBeSealed (links_line links)
links_can links =
    record {
      whole = whole-append (codes "LINKS " ++ decimal (length links)) (flat_map (λ l. codes " " ++ decimal (l % 8192) ++ codes "/" ++ decimal (l / 8192)) links)
          (whole-append (codes "LINKS ") (decimal (length links)) refl (decimal-whole (length links)))
          (flat_whole (λ l. codes " " ++ decimal (l % 8192) ++ codes "/" ++ decimal (l / 8192)) links link_whole);
      other = refl;
    }

q_whole : (q : ℕ) (t : Triple) → IsWhole (codes "Q " ++ decimal q ++ codes " " ++ decimal t.c ++ codes " " ++ decimal t.i ++ codes " " ++ decimal t.m)
q_whole q t =
    number (codes "Q " ++ decimal q ++ codes " " ++ decimal t.c ++ codes " " ++ decimal t.i) t.m
    (number (codes "Q " ++ decimal q ++ codes " " ++ decimal t.c) t.i
    (number (codes "Q " ++ decimal q) t.c (whole-append (codes "Q ") (decimal q) refl (decimal-whole q))))

q_can : (q : ℕ) (t : Triple) → AreSealable (q_line q t)
q_can q t =
    if_line (eqb t.c 0 && eqb t.i 0 && eqb t.m 0) (codes "Q " ++ decimal q ++ codes " " ++ decimal t.c ++ codes " " ++ decimal t.i ++ codes " " ++ decimal t.m)
    (record { whole = q_whole q t; other = refl })

qs_can : (qs : List Triple) → AreSealable (q_lines qs)
qs_can qs = flat_lines (λ q. q_line q (triple_at qs q)) (range_with_len 1 15) (λ q. q_can q (triple_at qs q))

registers_can : (r : Registers) → AreSealable (registers_lines r)
registers_can r =
    (life_can r.state, (orders_can r.ran, (at_can (r.at / 6) (r.at % 6), (flags_can r.flags.v r.flags.tr, (nest_can r.nest, (links_can r.links, qs_can r.q))))))

-- ---- words, spooled texts and devices

word_can : (s : State) (a : ℕ) → CanBeSealed (word_line_at s a)
word_can s a =
    record {
      whole = more (codes "WORD " ++ decimal a) (octal (word_at s a)) (whole-append (codes "WORD ") (decimal a) refl (decimal-whole a))
          (octal-whole (word_at s a));
      other = refl;
    }

shows_can : (s : State) (show : ℕ × ℕ) → AreSealable (show_lines s show)
shows_can s show = map_lines (word_line_at s) (range_with_len show.0 (show.1 + 1 - show.0)) (word_can s)

spool_can : (x : Spooled) → CanBeSealed (spool_line x)
spool_can x =
    record {
      whole = more (codes "SPOOL " ++ decimal x.stream) (host_text x.text)
          (whole-append (codes "SPOOL ") (decimal x.stream) refl (decimal-whole x.stream)) (host_whole x.text);
      other = refl;
    }

device_whole : (word : List ℕ) (d : ℕ) (held : Bool) (kind : Kind) (x : DeviceProgress) → IsWhole word → IsWhole (device_line word d held kind x)
device_whole word d held kind x is =
    let a = number word d is in
    let b = more (word ++ codes " " ++ decimal d) (kind_name kind) a (kind_whole kind) in
    let c = more (word ++ codes " " ++ decimal d ++ codes " " ++ kind_name kind) (holding held) b (holding_whole held) in
    let front = word ++ codes " " ++ decimal d ++ codes " " ++ kind_name kind ++ codes " " ++ holding held in
    let e = whole-append (front ++ codes " PLACE ") (decimal x.place) (whole-append front (codes " PLACE ") c refl) (decimal-whole x.place) in
    whole-append (front ++ codes " PLACE " ++ decimal x.place ++ codes " FLAG ") (bit x.flag)
    (whole-append (front ++ codes " PLACE " ++ decimal x.place) (codes " FLAG ") e refl) (bit_whole x.flag)

block_can : (characters : List ℕ) → CanBeSealed (block_line characters)
block_can characters = record { whole = whole-append (codes "BLOCK ") (host_text characters) refl (host_whole characters); other = refl }

tape_can : (block : Recorded) → CanBeSealed (tape_line block)
tape_can block = by block.mark
  where
    by : (mark : Bool) → CanBeSealed (block_name mark ++ codes " " ++ host_text (codes_of_all block.words))
    by true = record { whole = more (codes "LAST") (host_text (codes_of_all block.words)) refl (host_whole (codes_of_all block.words)); other = refl }
    by false = record { whole = more (codes "BLOCK") (host_text (codes_of_all block.words)) refl (host_whole (codes_of_all block.words)); other = refl }

blocks_can : (kind : Kind) (x : DeviceProgress) → AreSealable (block_lines kind x)
blocks_can Tr x = tt
blocks_can Tp x = map_lines block_line x.blocks block_can
blocks_can Cr x = tt
blocks_can Lp x = map_lines block_line x.blocks block_can
blocks_can Mt x = map_lines tape_line x.recorded tape_can

own_can : (d : ℕ) (claimed : Bool) (o : Option Fixture) (x : DeviceProgress) → AreSealable (own_lines d claimed o x)
own_can d claimed None x = tt
own_can d claimed (Some f) x = (record { whole = device_whole (codes "DEVICE") d claimed f.kind x refl; other = refl }, blocks_can f.kind x)

device_can : (s : State) (d : ℕ) → AreSealable (device_lines s d)
unfolding device_lines
device_can s d = own_can d (is_claimed s.stock.claims d) (own_fixture_at s.stock.claims d) (device_at s d)

stint_can : (x : Lending) → AreSealable (stint_lines x)
stint_can x = (record { whole = device_whole (codes "POOL") x.device (not x.given) x.kind x.progress refl; other = refl }, blocks_can x.kind x.progress)

slot_can : (p : ℕ) → CanBeSealed (codes "SLOT " ++ decimal p)
slot_can p = record { whole = whole-append (codes "SLOT ") (decimal p) refl (decimal-whole p); other = refl }

section_can : (slot : ShownSlot) (s : State) → AreSealable (section slot s)
unfolding section
section_can slot s =
    let shows = flat_map (show_lines s) slot.shows in
    let spooled = map spool_line s.stock.spooled in
    let devices = flat_map (device_lines s) (device_numbers slot) in
    let stints = flat_map stint_lines (lendings s.stock) in
    let a = lines_append (registers_lines s.registers) shows (registers_can s.registers) (flat_lines (show_lines s) slot.shows (shows_can s)) in
    let b = lines_append (registers_lines s.registers ++ shows) spooled a (map_lines spool_line s.stock.spooled spool_can) in
    let c = lines_append (registers_lines s.registers ++ shows ++ spooled) devices b (flat_lines (device_lines s) (device_numbers slot) (device_can s)) in
    (slot_can slot.p, lines_append (registers_lines s.registers ++ shows ++ spooled ++ devices) stints c (flat_lines stint_lines (lendings s.stock) stint_can))

-- ---- the words of the stores

store_can : (p a w : ℕ) → CanBeSealed (store_line p a w)
store_can p a w =
    record {
      whole = more (codes "STORE " ++ decimal p ++ codes " " ++ decimal a) (octal w)
          (number (codes "STORE " ++ decimal p) a (whole-append (codes "STORE ") (decimal p) refl (decimal-whole p))) (octal-whole w);
      other = refl;
    }

words_can : (p a w : ℕ) → AreSealable (word_lines p a w)
words_can p a w = if_line (eqb w 0) (store_line p a w) (store_can p a w)

pub seal_can : (j : ShownJob) (states : ℕ → State) → All CanBeSealed (seal_lines j states)
seal_can j states =
    all_sealable (seal_lines j states)
    (lines_append (sections_lines j states) (store_lines j states)
    (flat_lines (λ (slot : ShownSlot). section slot (states slot.p)) j.slots (λ slot. section_can slot (states slot.p)))
    (flat_lines (λ (slot : ShownSlot). slot_lines slot (states slot.p)) j.slots
    (λ slot. flat_lines (λ a. word_lines slot.p a (word_at (states slot.p) a)) (range_with_len 0 slot.size)
    (λ a. words_can slot.p a (word_at (states slot.p) a)))))
