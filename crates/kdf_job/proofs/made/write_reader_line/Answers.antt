use Rattle.std.proofs.Common.{◌≡◌, ℕ, ◌<◌, ◌++◌, ap, sym, subst, arith, string_bytes, ◌∙◌}
use Rattle.kdf_job.proofs.MadeTexts.{front, front_more, front_steps, front-none, line_ends, steps-none}
use Rattle.kdf_job.proofs.made.write_reader_line.Goals as goal

pub loop-init : goal.loop-init
loop-init c = record {
  written = c.in_ok-push_str.ensures.bytes ∙ ap (λ xs. string_bytes c.args.out.now ++ xs) (sym (front-none c.args.letters.now.x));
  next = sym (steps-none c.args.letters.now.x);
  few = omega arith;
}

pub loop-preserved : goal.loop-preserved
loop-preserved c =
    let small : c.take.result < 128 = let e = c.take.ensures.letter in omega arith in
    record {
      written = front_more c.args.letters.now.x c.loop.counter c.loop.letters.x c.take.result _ _ _ c.loop.invariant.written c.loop.invariant.next
          c.take.ensures.letter
          (c.in_ok-push.ensures.bytes ∙ ap (λ xs. string_bytes c.loop.out ++ xs) (c.in_ok-push.ensures.ascii small));
      next = front_steps _ _ _ _ c.loop.invariant.next c.take.ensures.next;
      few = omega arith;
    }

pub returns-clause-line : goal.returns-clause-line
returns-clause-line c =
    let all : c.loop.counter ≡ 16 = omega arith in
    let letters : string_bytes c.loop.out ≡ string_bytes c.args.out.now ++ front c.args.letters.now.x 16 =
    subst (λ (k : ℕ). string_bytes c.loop.out ≡ string_bytes c.args.out.now ++ front c.args.letters.now.x k) all c.loop.invariant.written in
    line_ends _ _ _ _ _ letters c.push_str-2.ensures.bytes
