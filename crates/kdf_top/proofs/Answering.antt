-- How each answer comes to be given.
use Rattle.std.proofs.Common.{◌≡◌, ◌≢◌, ℕ, ◌<◌, ◌≤◌, ◌^◌, ◌&&◌, List, [], length, Option, Some, None, refl, sym, ap, subst, arith, false, is_some}
use Rattle.std.proofs.lemmas.List.{append-nil}
use Rattle.kdf_io.specs.Outside.{HasRisen, Added, AddedFront}
use Rattle.kdf_text.specs.Text.{text}
use Rattle.kdf_theory.specs.MachineView.{MachineView}
use Rattle.kdf_command.specs.declared.command.Command.{Command}
use Rattle.kdf_top.specs.declared.status.Status.{Status}
use Rattle.kdf_top.specs.declared.status.Status.TheVariants as status
use Rattle.kdf_top.specs.Answered.{Outlet, IsGiven, IsRefusal, IsRefused}
use Rattle.kdf_top.specs.Answers.{Answers, IsCalled, IsDue, IsDueAt, IsMade, Wrote, is_done, keeps_by, refusal, status_of}
use Rattle.kdf_command.specs.Commands.{keeps_machine}
use Rattle.kdf_top.specs.Due.{Keeps}
use Rattle.kdf_top.proofs.Called.{called_done, journal_kept, one_called, one_due_at}

-- ---- nothing was written

pub nothing_added : (w : Option (List ℕ)) → Added w (text []) w
unfolding text
nothing_added None = refl
nothing_added (Some bytes) = ap Some (sym (append-nil bytes))

pub given_memory : (answers : ℕ → ℕ → Type 0) (wanted : Status → Type 0) (c : Option Command) (bytes : List ℕ) (o : Outlet)
    → IsGiven answers wanted c bytes status.Memory None o o
given_memory answers wanted c bytes o = record {
  answer = tt {0};
  wrote = nothing_added o.written;
  machine = refl;
  done = λ e. absurd (cc);
  front = λ e. absurd (cc);
  room_writes = λ due d h. λ e. absurd (cc);
  room_count = λ due d h. refl;
  never_falls = omega arith;
}

-- ---- a reason was to be written

wrote_refusal : (c : Option Command) (told : Status) (t : List ℕ) (before after : Option (List ℕ)) → IsRefusal told → t ≡ refusal c told → Added before t after
    → Wrote c told before after
wrote_refusal c status.Usage t before after is e h = subst (λ x. Added before x after) e h
wrote_refusal c (status.Job fault line) t before after is e h = subst (λ x. Added before x after) e h
wrote_refusal c (status.Deck slot fault place) t before after is e h = subst (λ x. Added before x after) e h
wrote_refusal c status.Large t before after is e h = subst (λ x. Added before x after) e h
wrote_refusal c (status.Snapshot fault line) t before after is e h = subst (λ x. Added before x after) e h
wrote_refusal c status.Done t before after is e h = absurd is
wrote_refusal c status.ReadFault t before after is e h = absurd is
wrote_refusal c status.WriteFault t before after is e h = absurd is
wrote_refusal c status.Memory t before after is e h = absurd is

refusal_due : (answers : ℕ → ℕ → Type 0) (told : Status) (c : Option Command) (bytes t : List ℕ) → IsRefusal told → t ≡ refusal c told
    → IsDueAt answers told c bytes t
refusal_due answers status.Usage c bytes t is e = e
refusal_due answers (status.Job fault line) c bytes t is e = e
refusal_due answers (status.Deck slot fault place) c bytes t is e = e
refusal_due answers status.Large c bytes t is e = e
refusal_due answers (status.Snapshot fault line) c bytes t is e = e
refusal_due answers status.Done c bytes t is e = absurd is
refusal_due answers status.ReadFault c bytes t is e = absurd is
refusal_due answers status.WriteFault c bytes t is e = absurd is
refusal_due answers status.Memory c bytes t is e = absurd is

due_refusal : (answers : ℕ → ℕ → Type 0) (told : Status) (c : Option Command) (bytes t : List ℕ) → IsRefusal told → IsDueAt answers told c bytes t
    → t ≡ refusal c told
due_refusal answers status.Usage c bytes t is e = e
due_refusal answers (status.Job fault line) c bytes t is e = e
due_refusal answers (status.Deck slot fault place) c bytes t is e = e
due_refusal answers status.Large c bytes t is e = e
due_refusal answers (status.Snapshot fault line) c bytes t is e = e
due_refusal answers status.Done c bytes t is e = absurd is
due_refusal answers status.ReadFault c bytes t is e = absurd is
due_refusal answers status.WriteFault c bytes t is e = absurd is
due_refusal answers status.Memory c bytes t is e = absurd is

refusal_answers : (told : Status) (rose : Type 0) → IsRefusal told → Answers (λ x. x ≡ told) told ⊥ rose
refusal_answers status.Usage rose is = refl
refusal_answers (status.Job fault line) rose is = refl
refusal_answers (status.Deck slot fault place) rose is = refl
refusal_answers status.Large rose is = refl
refusal_answers (status.Snapshot fault line) rose is = refl
refusal_answers status.Done rose is = refl
refusal_answers status.ReadFault rose is = absurd is
refusal_answers status.WriteFault rose is = absurd is
refusal_answers status.Memory rose is = absurd is

refusal_undone : (told : Status) → IsRefusal told → is_done told ≡ false
refusal_undone status.Usage is = refl
refusal_undone (status.Job fault line) is = refl
refusal_undone (status.Deck slot fault place) is = refl
refusal_undone status.Large is = refl
refusal_undone (status.Snapshot fault line) is = refl
refusal_undone status.Done is = absurd is
refusal_undone status.ReadFault is = refl
refusal_undone status.WriteFault is = refl
refusal_undone status.Memory is = refl

refusal_whole : (told : Status) → IsRefusal told → told ≢ status.WriteFault
refusal_whole status.Usage is e = cc
refusal_whole (status.Job fault line) is e = cc
refusal_whole (status.Deck slot fault place) is e = cc
refusal_whole status.Large is e = cc
refusal_whole (status.Snapshot fault line) is e = cc
refusal_whole status.Done is e = absurd is
refusal_whole status.ReadFault is e = absurd is
refusal_whole status.WriteFault is e = absurd is
refusal_whole status.Memory is e = absurd is

-- it went out whole
pub refused : (c : Option Command) (told : Status) (t : List ℕ) (o n : Outlet) → IsRefusal told → t ≡ refusal c told
    → Added o.written t n.written → (length t ≤ o.room → n.faults ≡ o.faults) → o.faults ≤ n.faults → IsRefused c told told o n
refused c told t o n is e added stays falls = record {
  answer = refusal_answers told _ is;
  undone = refusal_undone told is;
  wrote = wrote_refusal c told t _ _ is e added;
  front = λ w. absurd (refusal_whole told is w);
  room_writes = λ fits. refusal_whole told is;
  room_count = subst (λ x. length x ≤ o.room → n.faults ≡ o.faults) e stays;
  never_falls = falls;
}

-- or there was no memory for it
pub refused_memory : (c : Option Command) (told : Status) (o : Outlet) → IsRefused c told status.Memory o o
refused_memory c told o = record {
  answer = tt {0};
  undone = refl;
  wrote = nothing_added o.written;
  front = λ e. absurd (cc);
  room_writes = λ fits e. absurd (cc);
  room_count = λ fits. refl;
  never_falls = omega arith;
}

-- what is answered where one answer is called for is answered where it is among those that are
pub answers_among : (wanted : Status → Type 0) (told given : Status) (read_failed rose : Type 0) → wanted told → Answers (λ x. x ≡ told) given read_failed rose
    → Answers wanted given read_failed rose
answers_among wanted told status.Done read_failed rose is h = subst wanted (sym h) is
answers_among wanted told status.Usage read_failed rose is h = subst wanted (sym h) is
answers_among wanted told (status.Job fault line) read_failed rose is h = subst wanted (sym h) is
answers_among wanted told (status.Deck slot fault place) read_failed rose is h = subst wanted (sym h) is
answers_among wanted told status.Large read_failed rose is h = subst wanted (sym h) is
answers_among wanted told (status.Snapshot fault line) read_failed rose is h = subst wanted (sym h) is
answers_among wanted told status.ReadFault read_failed rose is h = h
answers_among wanted told status.WriteFault read_failed rose is h = h
answers_among wanted told status.Memory read_failed rose is h = h

-- the reason of an answer that is the only one to be called for
pub given_refused : (answers : ℕ → ℕ → Type 0) (wanted : Status → Type 0) (told : Status) (c : Option Command) (bytes : List ℕ) (given : Status) (o n : Outlet)
    → IsRefusal told
    → wanted told → ((x : Status) → wanted x → x ≡ told) → IsRefused c told given o n → IsGiven answers wanted c bytes given None o n
given_refused answers wanted told c bytes given o n is called only h =
    let fits : (due : List ℕ) → IsDue answers wanted c bytes due → length due ≤ o.room → length (refusal c told) ≤ o.room =
    λ due d few. subst (λ x. length x ≤ o.room) (due_refusal answers told c bytes due is (subst (λ x. IsDueAt answers x c bytes due) (only d.0 d.1) d.2)) few in
    record {
      answer = answers_among wanted told given _ _ called h.answer;
      wrote = h.wrote;
      machine = sym (ap (λ b. b && keeps_by c) h.undone);
      done = λ d. absurd (let undone = ap is_done d in let isnt = h.undone in cc);
      front = λ w. (refusal c told, (told, called, refusal_due answers told c bytes _ is refl), h.front w);
      room_writes = λ due d few. h.room_writes (fits due d few);
      room_count = λ due d few. h.room_count (fits due d few);
      never_falls = h.never_falls;
    }

-- what is answered over a text is answered over the same text
pub given_over : (answers : ℕ → ℕ → Type 0) (c : Command) (x y : List ℕ) (given : Status) (kept : Option MachineView) (o n : Outlet) → x ≡ y
    → IsGiven answers (IsCalled answers c x) (Some c) x given kept o n → IsGiven answers (IsCalled answers c y) (Some c) y given kept o n
given_over answers c x y given kept o n e h = subst (λ z. IsGiven answers (IsCalled answers c z) (Some c) z given kept o n) e h

-- ---- the text of a command, where any two answers of the service to one word are equal

module _ (answers : ℕ → ℕ → Type 0) (one : (n a b : ℕ) → n < 2 ^ 48 → answers n a → answers n b → a ≡ b) (c : Command) (bytes t : List ℕ)
    (kept : Option MachineView)
    (made : IsMade answers c bytes t kept) where
  -- it is the one that is due
  due : IsDue answers (IsCalled answers c bytes) (Some c) bytes t
  due = (status.Done, called_done answers c bytes made.faultless made.assembles made.trusted, (_, journal_kept answers c bytes kept made.keeps, made.text_is))

  -- what holds where there is room for it holds where there is room for a text that is due
  at_due : (room : ℕ) (P : Type 0) → (length t ≤ room → P) → (x : List ℕ) → IsDue answers (IsCalled answers c bytes) (Some c) bytes x → length x ≤ room → P
  at_due room P fits x is h =
      let d = due in
      let same : x ≡ t = one_due_at answers one d.0 (Some c) bytes x t
      (subst (λ s. IsDueAt answers s (Some c) bytes x) (one_called answers one c bytes (status_of c bytes) is.0 d.0 is.1 d.1) is.2) d.2 in
      fits (subst (λ y. length y ≤ room) same h)

  kept_or_not : (k : Option MachineView) → Keeps answers c bytes k → is_some k ≡ keeps_machine c
  kept_or_not None keeps = sym keeps
  kept_or_not (Some m) keeps = sym keeps.0

  -- it went out whole
  pub given_made : (o n : Outlet) → Added o.written t n.written → (length t ≤ o.room → n.faults ≡ o.faults) → o.faults ≤ n.faults
      → IsGiven answers (IsCalled answers c bytes) (Some c) bytes status.Done kept o n
  given_made o n added stays falls = record {
    answer = called_done answers c bytes made.faultless made.assembles made.trusted;
    wrote = tt;
    machine = kept_or_not kept made.keeps;
    done = λ _. (t, made, added);
    front = λ w. absurd (cc);
    room_writes = λ x d h. λ w. absurd (cc);
    room_count = at_due o.room _ stays;
    never_falls = falls;
  }

  -- or it didn't
  pub given_write_fault : (o n : Outlet) → HasRisen o.faults n.faults → AddedFront o.written t n.written → ¬ (length t ≤ o.room) → o.faults ≤ n.faults
      → IsGiven answers (IsCalled answers c bytes) (Some c) bytes status.WriteFault None o n
  given_write_fault o n rose front long falls = record {
    answer = rose;
    wrote = tt;
    machine = refl;
    done = λ e. absurd (cc);
    front = λ _. (t, due, front);
    room_writes = at_due o.room _ (λ h. absurd (long h));
    room_count = at_due o.room _ (λ h. absurd (long h));
    never_falls = falls;
  }
