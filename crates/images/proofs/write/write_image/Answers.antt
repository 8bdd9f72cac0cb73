use Rattle.std.proofs.Common.{ap, ◌∙◌, arith, rules}
use Rattle.isa.proofs.Numbered.{cause_or_0_by}
use Rattle.images.specs.Words.{word_of}
use Rattle.images.specs.State.{snapshot_of}
use Rattle.images.proofs.Places.{written}
use Rattle.images.proofs.Trip.{write_then_read}
use Rattle.images.proofs.write.write_image.Goals as goal

pub returns : goal.returns
returns c =
    record {
      answer = search rules;
      leaves = written (snapshot_of c.args.state.now) c.args.buffer.now c.write_registers.new.buffer c.word_of.result c.word_of-2.result c.word_of-3.result
          c.write_registers.ensures.words (omega arith) (omega arith) c.word_of.ensures (c.word_of-2.ensures ∙ ap (word_of 4 0) (cause_or_0_by c.args.state.now.cause c.number_or_0.result c.number_or_0.ensures)) c.word_of-3.ensures;
      reads = λ _. write_then_read (snapshot_of c.args.state.now) c.args.state.now.sixteen c.write_registers.ensures.fit (search rules) c.args.state.now.counted;
    }
