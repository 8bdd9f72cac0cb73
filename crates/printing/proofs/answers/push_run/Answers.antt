use Rattle.std.proofs.Common.{◌+◌, string_bytes, arith}
use Rattle.printing.specs.Lines.{cycle_line}
use Rattle.jobfile.proofs.Texts.{line_more}
use Rattle.printing.proofs.answers.push_run.Goals as goal

pub loop-i-preserved : goal.loop-i-preserved
loop-i-preserved c =
    line_more cycle_line 1 (c.loop-i.i + 1) c.loop-i.i c.args.records.now _ (string_bytes c.args.text.now) (string_bytes c.loop-i.text) (string_bytes c.writeln.new.self) c.loop-i-test.true (omega arith) c.loop-i.invariant c.in_ok-writeln.ensures.bytes
