use Rattle.std.proofs.Common.{ℕ, ◌+◌, List, length, refl, sym, ap, ◌∙◌, rules}
use Rattle.kdf_job.proofs.CodesRead.{behind, codes_begin, codes_end, codes_more, codes_none}
use Rattle.kdf_job.proofs.media.codes_in.Goals as goal

pub loop-byte-init : goal.loop-byte-init
loop-byte-init c = record {
  read = codes_begin c.args.text.now ∙ ap (λ (codes : List ℕ). behind codes 0 c.args.text.now) (sym c.new-codes.ensures.items);
  small = search rules;
  many = ap (λ (codes : List ℕ). length codes) c.new-codes.ensures.items;
}

pub returns-in-None-clause-value : goal.returns-in-None-clause-value
returns-in-None-clause-value c =
    let here = c.loop-byte in
    sym (here.invariant.read ∙ codes_none here.codes.items c.args.text.now here.byte-index _ c.loop-byte-test.true refl (sym c.to_code.ensures.value
    ∙ c.in-None.is))

pub loop-byte-preserved : goal.loop-byte-preserved
loop-byte-preserved c =
    let here = c.loop-byte in
    record {
      read = here.invariant.read
          ∙ codes_more here.codes.items c.args.text.now here.byte-index _ c.in-Some.code c.loop-byte-test.true refl (sym c.to_code.ensures.value ∙ c.in-Some.is)
          ∙ ap (λ (codes : List ℕ). behind codes (here.byte-index + 1) c.args.text.now) (sym c.in_ok-push-in-Some.ensures.items);
      small = search rules;
      many = search rules;
    }

pub returns-clause-value : goal.returns-clause-value
returns-clause-value c =
    let here = c.loop-byte in sym (here.invariant.read ∙ codes_end here.codes.items c.args.text.now here.byte-index c.loop-byte-test.false)
