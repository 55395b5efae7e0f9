-- How an answer to a command comes of an answer over its text.
use Rattle.std.proofs.Common.{◌≡◌, ◌≢◌, ◌⊎◌, inl, inr, ⊎_elim, ℕ, ◌^◌, Result, Ok, Err, ◌+◌, ◌<◌, ◌≤◌, List, [], ◌++◌, length, length-append, true, false}
use Rattle.std.proofs.Common.{Option, Some, None, IfSome, is_some, refl, sym, ap, subst, arith, cond}
use Rattle.std.proofs.lemmas.Bool.{lt-ltb, le-ltb}
use Rattle.kdf_io.specs.Outside.{HasRisen, Advances, NothingLeft}
use Rattle.kdf_io.specs.Reading.{TakesAtMost, TookBefore}
use Rattle.kdf_io.specs.declared.read_end.ReadEnd.TheVariants.{Large}
use Rattle.kdf_usercode.specs.Faults.{FoundFault}
use Rattle.kdf_job.specs.Front.{front_fault, front_job}
use Rattle.kdf_job.specs.Made.{made_text}
use Rattle.kdf_job.specs.More.{more_fault}
use Rattle.kdf_job.specs.Reading.{job_fault}
use Rattle.kdf_job.specs.declared.fault.JobFault.{JobFault}
use Rattle.kdf_job.specs.declared.job.TheConstants.{TEXT_LIMIT}
use Rattle.kdf_theory.specs.MachineView.{MachineView}
use Rattle.kdf_snapshot.specs.Snapshot.{ShownParts}
use Rattle.kdf_snapshot.specs.declared.fault.SnapshotFault.{SnapshotFault}
use Rattle.kdf_command.specs.declared.command.Command.{Command}
use Rattle.kdf_command.specs.declared.command.Input.{Input}
use Rattle.kdf_command.specs.declared.command.Input.TheVariants.{Read, Made}
use Rattle.kdf_top.specs.declared.status.Status.{Status}
use Rattle.kdf_top.specs.declared.status.Status.TheVariants as status
use Rattle.kdf_top.specs.Answered.{Inlet, Outlet, IsGiven, IsRun, Takes, TakesBy}
use Rattle.kdf_top.specs.Answers.{Answers, IsCalled, IsCalledBy, IsCalledWhere, IsFaultless, IsTrusted, called_by, job_text, or_decks, reads_by, status_of}
use Rattle.kdf_top.specs.Answers.{IsCalledIn, status_in, status_of_lines, text_by}
use Rattle.kdf_command.specs.Commands.{AJob, AReport, ASnapshot, TextForm, form_of, input_from, input_of, is_read, is_too_long}
use Rattle.kdf_command.specs.Commands.{limit_in, limit_of, made_from, text_in}
use Rattle.kdf_top.specs.Deck.{deck_fault}
use Rattle.kdf_top.specs.Due.{job_of}
use Rattle.kdf_top.specs.Snapshots.{IsComparedFor, further, parts_in, status_of_front, status_of_line, status_of_parts}
use Rattle.kdf_top.proofs.Answering.{given_memory, nothing_added}
use Rattle.kdf_top.proofs.Called.{called_done, one_called}

-- ---- answers

-- where an answer is that of a source that didn't fail, it is that of one that may have
pub answers_weaker : (wanted : Status → Type 0) (given : Status) (read_failed rose : Type 0) → Answers wanted given ⊥ rose
    → Answers wanted given read_failed rose
answers_weaker wanted status.Done read_failed rose h = h
answers_weaker wanted status.Usage read_failed rose h = h
answers_weaker wanted (status.Job fault line) read_failed rose h = h
answers_weaker wanted (status.Deck slot fault place) read_failed rose h = h
answers_weaker wanted status.Large read_failed rose h = h
answers_weaker wanted status.ReadFault read_failed rose h = absurd h
answers_weaker wanted status.WriteFault read_failed rose h = h
answers_weaker wanted status.Memory read_failed rose h = h
answers_weaker wanted (status.Snapshot fault line) read_failed rose h = h

-- such an answer is no read fault; it is a write fault only where the sink failed; and it is Usage or Done only where that is called for
pub no_read_fault : (wanted : Status → Type 0) (given : Status) (rose : Type 0) → Answers wanted given ⊥ rose → given ≢ status.ReadFault
no_read_fault wanted given rose h e = subst (λ x. Answers wanted x ⊥ rose) e h

only_write_fault : (wanted : Status → Type 0) (given : Status) (rose : Type 0) → Answers wanted given ⊥ rose → given ≡ status.WriteFault → rose
only_write_fault wanted given rose h e = subst (λ x. Answers wanted x ⊥ rose) e h

no_usage : (wanted : Status → Type 0) (given : Status) (rose : Type 0) → ¬ (wanted status.Usage) → Answers wanted given ⊥ rose → given ≢ status.Usage
no_usage wanted given rose other h e = other (subst (λ x. Answers wanted x ⊥ rose) e h)

pub no_done : (given : Status) (rose : Type 0) → Answers (λ x. x ≡ status.Large) given ⊥ rose → given ≢ status.Done
no_done given rose h e = let large : status.Done ≡ status.Large = subst (λ x. Answers (λ y. y ≡ status.Large) x ⊥ rose) e h in cc

map_some : {X : Type 0} (P Q : X → Type 0) (o : Option X) → ((x : X) → P x → Q x) → IfSome o P → IfSome o Q
map_some P Q None f h = tt {0}
map_some P Q (Some x) f h = f x h

all_some : {X : Type 0} (P : X → Type 0) (o : Option X) → ((x : X) → P x) → IfSome o P
all_some P None f = tt {0}
all_some P (Some x) f = f x

-- ---- what is called for

job_no_usage : (fault : Option (JobFault × ℕ)) → status_of_line fault ≢ status.Usage
job_no_usage None e = cc
job_no_usage (Some x) e = cc

parts_no_usage : (bytes : List ℕ) (r : Result ShownParts (SnapshotFault × ℕ)) → status_of_parts bytes r ≢ status.Usage
parts_no_usage bytes (Ok p) e = job_no_usage (more_fault p.more_line (front_job bytes).events (further bytes p)) e
parts_no_usage bytes (Err found) e = cc

front_no_usage : (bytes : List ℕ) (fault : Option (JobFault × ℕ)) → status_of_front bytes fault ≢ status.Usage
front_no_usage bytes None e = parts_no_usage bytes (parts_in bytes) e
front_no_usage bytes (Some x) e = cc

decks_no_usage : (found : Status) (first : Option (ℕ × FoundFault)) → found ≢ status.Usage → or_decks found first ≢ status.Usage
decks_no_usage status.Done None other e = cc
decks_no_usage status.Done (Some x) other e = cc
decks_no_usage status.Usage first other e = other e
decks_no_usage (status.Job fault line) first other e = cc
decks_no_usage (status.Deck slot fault place) first other e = cc
decks_no_usage status.Large first other e = cc
decks_no_usage status.ReadFault first other e = cc
decks_no_usage status.WriteFault first other e = cc
decks_no_usage status.Memory first other e = cc
decks_no_usage (status.Snapshot fault line) first other e = cc

lines_no_usage : (form : TextForm) (bytes : List ℕ) → status_in form bytes ≢ status.Usage
lines_no_usage AJob bytes e = job_no_usage (job_fault bytes) e
lines_no_usage AReport bytes e = job_no_usage (front_fault bytes) e
lines_no_usage ASnapshot bytes e = front_no_usage bytes (front_fault bytes) e

compared_no_usage : (answers : ℕ → ℕ → Type 0) (bytes : List ℕ) → ¬ (IsComparedFor answers bytes status.Usage)
compared_no_usage answers bytes (J, journal, inl p) = let e = p.0 in cc
compared_no_usage answers bytes (J, journal, inr (inl p)) = let e = p.1 in cc
compared_no_usage answers bytes (J, journal, inr (inr p)) = let e = p.1 in cc

in_no_usage : (answers : ℕ → ℕ → Type 0) (form : TextForm) (bytes : List ℕ) (found : Status) → found ≢ status.Usage
    → ¬ (IsCalledIn answers form bytes found status.Usage)
in_no_usage answers ASnapshot bytes status.Done other called = compared_no_usage answers bytes called
in_no_usage answers ASnapshot bytes status.Usage other called = other refl
in_no_usage answers ASnapshot bytes (status.Job fault line) other called = other (sym called)
in_no_usage answers ASnapshot bytes (status.Deck slot fault place) other called = other (sym called)
in_no_usage answers ASnapshot bytes status.Large other called = other (sym called)
in_no_usage answers ASnapshot bytes status.ReadFault other called = other (sym called)
in_no_usage answers ASnapshot bytes status.WriteFault other called = other (sym called)
in_no_usage answers ASnapshot bytes status.Memory other called = other (sym called)
in_no_usage answers ASnapshot bytes (status.Snapshot fault line) other called = other (sym called)
in_no_usage answers AJob bytes found other called = other (sym called)
in_no_usage answers AReport bytes found other called = other (sym called)

called_no_usage : (answers : ℕ → ℕ → Type 0) (c : Command) (bytes : List ℕ) → ¬ (IsCalled answers c bytes status.Usage)
called_no_usage answers c bytes = in_no_usage answers (form_of c) bytes (status_of c bytes)
    (decks_no_usage (status_of_lines c bytes) (deck_fault (job_of c bytes).slots) (lines_no_usage (form_of c) bytes))

-- more bytes than a command may read call for Large alone
too_long_for : (c : Command) (limit : ℕ) (bytes : List ℕ) → input_of c ≡ Read limit → limit < length bytes → called_by (Some c) bytes ≡ status.Large
too_long_for c limit bytes e long = rw (e, lt-ltb limit (length bytes) long) refl

large_called : (answers : ℕ → ℕ → Type 0) (form : TextForm) (bytes : List ℕ) → IsCalledIn answers form bytes status.Large status.Large
large_called answers AJob bytes = refl
large_called answers AReport bytes = refl
large_called answers ASnapshot bytes = refl

large_only : (answers : ℕ → ℕ → Type 0) (form : TextForm) (bytes : List ℕ) (x : Status) → IsCalledIn answers form bytes status.Large x → x ≡ status.Large
large_only answers AJob bytes x called = called
large_only answers AReport bytes x called = called
large_only answers ASnapshot bytes x called = called

short_enough : (c : Command) (limit : ℕ) (bytes : List ℕ) → input_of c ≡ Read limit → length bytes ≤ limit
    → called_by (Some c) bytes ≡ status_of c (job_text c bytes)
short_enough c limit bytes e short = rw (e, le-ltb limit (length bytes) short) refl

read_text : (c : Command) (limit : ℕ) (bytes : List ℕ) → input_of c ≡ Read limit → text_by (Some c) bytes ≡ bytes
read_text c limit bytes e = ap (λ i. text_in i bytes) e

made_called : (c : Command) (n : ℕ) (bytes : List ℕ) → input_of c ≡ Made n → called_by (Some c) bytes ≡ status_of c (job_text c bytes)
made_called c n bytes e = rw e refl

pub reads_it : (c : Command) (limit : ℕ) → input_of c ≡ Read limit → reads_by (Some c) ≡ true
reads_it c limit e = ap is_read e

-- no command may read more than a text may have
limit_within : (form : TextForm) → limit_in form ≤ TEXT_LIMIT
limit_within AJob = omega arith
limit_within AReport = omega arith
limit_within ASnapshot = omega arith

limit_read : (made : Option ℕ) (most limit : ℕ) → input_from made most ≡ Read limit → most ≡ limit
limit_read None most limit is = cc
limit_read (Some n) most limit is = cc

pub within_limit : (c : Command) (limit : ℕ) → input_of c ≡ Read limit → limit ≤ TEXT_LIMIT
within_limit c limit is = let same = limit_read (made_from c) (limit_of c) limit is in omega (arith, limit_within (form_of c))

makes_it : (c : Command) (n : ℕ) → input_of c ≡ Made n → reads_by (Some c) ≡ false
makes_it c n e = ap is_read e

-- ---- an answer to a command or to other words: `one` over the bytes that were read, and `all` over those that are told

run_by : (answers : ℕ → ℕ → Type 0) (c : Option Command) (wanted : Status → Type 0) (read : List ℕ) (given : Status) (kept : Option MachineView)
    (source source' : Inlet) (o n : Outlet)
    → (is_some c ≡ true → ¬ (wanted status.Usage)) → IsGiven answers wanted c (text_by c read) given kept o n
    → (reads_by c ≡ false → IsGiven answers (IsCalledBy answers c []) c (text_by c []) given kept o n)
    → IfSome source.left (λ bytes. IsGiven answers (IsCalledBy answers c bytes) c (text_by c bytes) given kept o n)
    → (given ≡ status.Done → reads_by c ≡ true → NothingLeft source'.left) → (given ≡ status.Done → Advances source.left read source'.left)
    → Takes c source.left source'.left → source.faults ≤ source'.faults → IsRun answers c given kept source source' o n
run_by answers c wanted read given kept source source' o n other one unread all ended took taken falls = record {
  answer = map_some _ _ source.left (λ bytes h. answers_weaker (IsCalledBy answers c bytes) given (HasRisen source.faults source'.faults)
      (HasRisen o.faults n.faults) h.answer) all;
  unread = λ none. (unread none).answer;
  command = λ is. no_usage wanted given _ (other is) one.answer;
  read_fault = λ e. absurd (no_read_fault wanted given _ one.answer e);
  write_fault = only_write_fault wanted given _ one.answer;
  wrote = one.wrote;
  machine = one.machine;
  ended = ended;
  done = λ d. (read, took d, one.done d);
  told = λ d. map_some _ _ source.left (λ bytes h. h.done d) all;
  front = λ e. map_some _ _ source.left (λ bytes h. h.front e) all;
  room_writes = map_some _ _ source.left (λ bytes h. h.room_writes) all;
  room_count = map_some _ _ source.left (λ bytes h. h.room_count) all;
  taken = taken;
  source_counts = falls;
  sink_counts = one.never_falls;
}

-- ---- where nothing is read

nothing_taken : (left : Option (List ℕ)) → Advances left [] left
nothing_taken None = refl
nothing_taken (Some rest) = refl

untouched_by : (x : Input) (left : Option (List ℕ)) → TakesBy x left left
untouched_by (Read limit) left = ([], omega arith, nothing_taken left)
untouched_by (Made n) left = refl

untouched : (c : Option Command) (left : Option (List ℕ)) → Takes c left left
untouched None left = refl
untouched (Some c) left = untouched_by (input_of c) left

-- words that are no command
pub run_usage : (answers : ℕ → ℕ → Type 0) (given : Status) (kept : Option MachineView) (source : Inlet) (o n : Outlet)
    → ((bytes : List ℕ) → IsGiven answers (λ x. x ≡ status.Usage) None bytes given kept o n) → IsRun answers None given kept source source o n
run_usage answers given kept source o n given_usage =
    run_by answers None (λ x. x ≡ status.Usage) [] given kept source source o n (λ is. absurd (cc)) (given_usage []) (λ _. given_usage [])
    (all_some _ source.left (λ bytes. given_usage bytes)) (λ d reads. absurd (cc)) (λ d. nothing_taken source.left) refl (omega arith)

-- an answer over the text that a command works on
over_text : (answers : ℕ → ℕ → Type 0) (c : Command) (bytes x : List ℕ) (given : Status) (kept : Option MachineView) (o n : Outlet) → job_text c bytes ≡ x
    → called_by (Some c) bytes ≡ status_of c (job_text c bytes) → IsGiven answers (IsCalled answers c x) (Some c) x given kept o n
    → IsGiven answers (IsCalledBy answers (Some c) bytes) (Some c) (text_by (Some c) bytes) given kept o n
over_text answers c bytes x given kept o n is called h =
    subst (λ found. IsGiven answers (IsCalledWhere answers c (job_text c bytes) found) (Some c) (job_text c bytes) given kept o n) (sym called)
    (subst (λ t. IsGiven answers (IsCalled answers c t) (Some c) t given kept o n) (sym is) h)

-- a command that makes its text
pub run_made : (answers : ℕ → ℕ → Type 0) (c : Command) (n : ℕ) (given : Status) (kept : Option MachineView) (source : Inlet) (o new : Outlet)
    → input_of c ≡ Made n
    → IsGiven answers (IsCalled answers c (made_text n)) (Some c) (made_text n) given kept o new → IsRun answers (Some c) given kept source source o new
run_made answers c n given kept source o new is one =
    let over : (bytes : List ℕ) → IsGiven answers (IsCalledBy answers (Some c) bytes) (Some c) (text_by (Some c) bytes) given kept o new =
    λ bytes. over_text answers c bytes (made_text n) given kept o new (ap (λ i. text_in i bytes) is) (made_called c n bytes is) one in
    let here : IsGiven answers (IsCalled answers c (job_text c [])) (Some c) (text_by (Some c) []) given kept o new =
    subst (λ t. IsGiven answers (IsCalled answers c t) (Some c) t given kept o new) (sym (ap (λ i. text_in i []) is)) one in
    run_by answers (Some c) (IsCalled answers c (job_text c [])) [] given kept source source o new
    (λ _. called_no_usage answers c (job_text c [])) here (λ _. over [])
    (all_some _ source.left over) (λ d reads. absurd (let no = makes_it c n is in cc)) (λ d. nothing_taken source.left) (untouched (Some c) source.left)
    (omega arith)

-- there was no memory to tell whether there is a command
pub run_forgotten : (answers : ℕ → ℕ → Type 0) (c : Option Command) (source : Inlet) (o : Outlet) → IsRun answers c status.Memory None source source o o
run_forgotten answers c source o =
    run_by answers c (λ x. x ≡ status.Large) [] status.Memory None source source o o (λ is e. absurd (cc))
    (given_memory answers (λ x. x ≡ status.Large) c (text_by c []) o)
    (λ _. given_memory answers (IsCalledBy answers c []) c (text_by c []) o)
    (all_some _ source.left (λ bytes. given_memory answers (IsCalledBy answers c bytes) c (text_by c bytes) o))
    (λ e. absurd (cc)) (λ e. absurd (cc)) (untouched c source.left) (omega arith)

-- ---- a command that reads its text, of at most so many bytes

module _ (answers : ℕ → ℕ → Type 0) (c : Command) (limit : ℕ) (is : input_of c ≡ Read limit) (source source' : Inlet)
    (most : TakesAtMost (limit + 1) source.left source'.left) (falls : source.faults ≤ source'.faults) where
  taken : TakesBy (input_of c) source.left source'.left
  taken = rw is most

  reads : reads_by (Some c) ≡ false → ⊥
  reads none = let all = reads_it c limit is in cc

  -- all bytes were read
  pub run_read : (read : List ℕ) (given : Status) (kept : Option MachineView) (o n : Outlet)
      → length read ≤ limit → Advances source.left read source'.left → NothingLeft source'.left → IfSome source.left (λ bytes. read ≡ bytes)
      → IsGiven answers (IsCalled answers c read) (Some c) read given kept o n → IsRun answers (Some c) given kept source source' o n
  run_read read given kept o n short took ended whole one =
      let over : IsGiven answers (IsCalledBy answers (Some c) read) (Some c) (text_by (Some c) read) given kept o n =
      over_text answers c read read given kept o n (read_text c limit read is) (short_enough c limit read is short) one in
      let here : IsGiven answers (IsCalled answers c (job_text c read)) (Some c) (text_by (Some c) read) given kept o n =
      subst (λ t. IsGiven answers (IsCalled answers c t) (Some c) t given kept o n) (sym (read_text c limit read is)) one in
      run_by answers (Some c) (IsCalled answers c (job_text c read)) read given kept source source' o n
      (λ _. called_no_usage answers c (job_text c read)) here (λ none. absurd (reads none))
      (map_some _ _ source.left (λ bytes e. subst (λ x. IsGiven answers (IsCalledBy answers (Some c) x) (Some c) (text_by (Some c) x) given kept o n) e over)
      whole)
      (λ d _. ended) (λ d. took) taken falls

  -- more bytes came than may be read
  pub run_large : (given : Status) (kept : Option MachineView) (o n : Outlet) → IfSome source.left (λ bytes. limit < length bytes) → given ≢ status.Done
      → ((wanted : Status → Type 0) (bytes : List ℕ) → wanted status.Large → ((x : Status) → wanted x → x ≡ status.Large)
      → IsGiven answers wanted (Some c) bytes given kept o n)
      → IsRun answers (Some c) given kept source source' o n
  run_large given kept o n long undone given_large =
      let over : (bytes : List ℕ) → limit < length bytes → IsGiven answers (IsCalledBy answers (Some c) bytes) (Some c) (text_by (Some c) bytes) given kept o
      n =
      λ bytes h. subst (λ found. IsGiven answers (IsCalledWhere answers c (job_text c bytes) found) (Some c) (text_by (Some c) bytes) given kept o n)
      (sym (too_long_for c limit bytes is h))
      (given_large (IsCalledWhere answers c (job_text c bytes) status.Large) (text_by (Some c) bytes) (large_called answers (form_of c) (job_text c bytes))
      (large_only answers (form_of c) (job_text c bytes))) in
      run_by answers (Some c) (λ x. x ≡ status.Large) [] given kept source source' o n (λ _ e. absurd (cc))
      (given_large (λ x. x ≡ status.Large) (text_by (Some c) []) refl (λ x e. e)) (λ none. absurd (reads none))
      (map_some _ _ source.left over long)
      (λ d. absurd (undone d)) (λ d. absurd (undone d)) taken falls

  -- there was no memory for the bytes
  pub run_no_memory : (o : Outlet) → IsRun answers (Some c) status.Memory None source source' o o
  run_no_memory o =
      run_by answers (Some c) (λ x. x ≡ status.Large) [] status.Memory None source source' o o (λ _ e. absurd (cc))
      (given_memory answers (λ x. x ≡ status.Large) (Some c) _ o) (λ none. absurd (reads none))
      (all_some _ source.left (λ bytes. given_memory answers (IsCalledBy answers (Some c) bytes) (Some c) (text_by (Some c) bytes) o))
      (λ e. absurd (cc)) (λ e. absurd (cc)) taken falls

  -- the source failed
  pub run_read_fault : (o : Outlet) → HasRisen source.faults source'.faults → IsRun answers (Some c) status.ReadFault None source source' o o
  run_read_fault o rose = record {
    answer = all_some _ source.left (λ bytes. rose);
    unread = λ none. absurd (reads none);
    command = λ _ e. absurd (cc);
    read_fault = λ _. rose;
    write_fault = λ e. absurd (cc);
    wrote = nothing_added o.written;
    machine = refl;
    ended = λ e. absurd (cc);
    done = λ e. absurd (cc);
    told = λ e. absurd (cc);
    front = λ e. absurd (cc);
    room_writes = all_some _ source.left (λ bytes due is h e. absurd (cc));
    room_count = all_some _ source.left (λ bytes due is h. refl);
    taken = taken;
    source_counts = falls;
    sink_counts = omega arith;
  }

-- as many bytes came, so more are told than may be read
pub large_told : (limit : ℕ) (before after : Option (List ℕ)) → TookBefore Large limit before after → IfSome before (λ bytes. limit < length bytes)
large_told limit None after t = tt {0}
large_told limit (Some all) None t = absurd (cc)
large_told limit (Some all) (Some rest) t =
    let is : all ≡ t.0 ++ rest = cc in
    rw is (let long = t.1 in simp length-append (omega arith))

-- ---- where nothing fails

-- the answer is one that is called for, or there was no memory
only_memory : (wanted : Status → Type 0) (given : Status) (read_failed rose : Type 0) → Answers wanted given read_failed rose → ¬ read_failed → ¬ rose
    → wanted given ⊎ (given ≡ status.Memory)
only_memory wanted status.Done read_failed rose h f g = inl h
only_memory wanted status.Usage read_failed rose h f g = inl h
only_memory wanted (status.Job fault line) read_failed rose h f g = inl h
only_memory wanted (status.Deck slot fault place) read_failed rose h f g = inl h
only_memory wanted status.Large read_failed rose h f g = inl h
only_memory wanted status.ReadFault read_failed rose h f g = absurd (f h)
only_memory wanted status.WriteFault read_failed rose h f g = absurd (g h)
only_memory wanted status.Memory read_failed rose h f g = inr refl
only_memory wanted (status.Snapshot fault line) read_failed rose h f g = inl h

called_as : (c : Command) (bytes : List ℕ) → is_too_long (input_of c) bytes ≡ false → called_by (Some c) bytes ≡ status_of c (job_text c bytes)
called_as c bytes short = ap (λ b. cond b status.Large (status_of c (job_text c bytes))) short

module _ (answers : ℕ → ℕ → Type 0) (one : (n a b : ℕ) → n < 2 ^ 48 → answers n a → answers n b → a ≡ b) where
  pub complete : (c : Command) (given : Status) (left : Option (List ℕ)) (read_failed rose : Type 0)
      → IfSome left (λ bytes. Answers (IsCalledBy answers (Some c) bytes) given read_failed rose)
      → IfSome left (λ bytes. is_too_long (input_of c) bytes ≡ false → IsFaultless c (job_text c bytes) → deck_fault (job_of c (job_text c bytes)).slots ≡ None
      → IsTrusted answers c (job_text c bytes) → ¬ read_failed → ¬ rose → (given ≡ status.Done) ⊎ (given ≡ status.Memory))
  complete c given left read_failed rose all =
      map_some _ _ left (λ bytes h short faultless assembles trusted f g.
      ⊎_elim
      (λ (called : IsCalledBy answers (Some c) bytes given).
      inl (one_called answers one c (job_text c bytes) (status_of c (job_text c bytes)) given status.Done
      (subst (λ found. IsCalledWhere answers c (job_text c bytes) found given) (called_as c bytes short) called)
      (called_done answers c (job_text c bytes) faultless assembles trusted)))
      (λ (none : given ≡ status.Memory). inr none)
      (only_memory (IsCalledBy answers (Some c) bytes) given read_failed rose h f g)) all

-- other words are told how to use the program
pub usage_or_memory : (answers : ℕ → ℕ → Type 0) (c : Option Command) (given : Status) (rose : Type 0) → is_some c ≡ false
    → (reads_by c ≡ false → Answers (IsCalledBy answers c []) given ⊥ rose) → ¬ rose
    → (given ≡ status.Usage) ⊎ (given ≡ status.Memory)
usage_or_memory answers None given rose none all g = only_memory (λ x. x ≡ status.Usage) given ⊥ rose (all refl) (λ h. h) g
usage_or_memory answers (Some c) given rose none all g = absurd (cc)
