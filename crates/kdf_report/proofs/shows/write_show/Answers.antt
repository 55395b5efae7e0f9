use Rattle.std.proofs.Common.{◌≡◌, ◌+◌, ◌-◌, ◌<◌, arith}
use Rattle.kdf_report.specs.Text.{word_line_at}
use Rattle.kdf_text.proofs.Texts.{text_range_more}
use Rattle.kdf_report.proofs.shows.write_show.Goals as goal

pub loop-address-preserved : goal.loop-address-preserved
loop-address-preserved g c = record {
  written = text_range_more (word_line_at (g.P.Program.state c.args.program.now)) c.args.first c.loop-address.address _ _ _ (omega arith)
      c.loop-address.invariant.written c.in_ok-show_word.ensures;
  some = λ _. omega arith;
  none = λ h. absurd (omega arith);
}

-- the first number is above the last
pub returns : goal.returns
returns g c =
    let none : c.args.last < c.args.first = grind (arith, c.loop-address.invariant.some) in
    let first : c.loop-address.address - c.args.first ≡ c.args.last + 1 - c.args.first = let h = c.loop-address.invariant.none none in omega arith in
    rw (← first) c.loop-address.invariant.written

pub returns-in_ok-show_word : goal.returns-in_ok-show_word
returns-in_ok-show_word g c =
    let last : c.loop-address.address ≡ c.args.last = omega arith in
    let all = text_range_more (word_line_at (g.P.Program.state c.args.program.now)) c.args.first c.loop-address.address _ _ _ (omega arith)
    c.loop-address.invariant.written c.in_ok-show_word.ensures in
    rw last at all
