use Rattle.std.proofs.Common.{rules}
use Rattle.recovery.specs.Meaning.{look_answer}
use Rattle.std.proofs.lemmas.List.FromFn.{fill_by_all}
use Rattle.pickcore.specs.Calls.{word_or_0}
use Rattle.pickcore.proofs.Registers.{registers_value, registers_settled}
use Rattle.pickcore.proofs.state.Core.registers.Goals as goal

pub returns-clause-value : goal.returns-clause-value
returns-clause-value g c =
    registers_value g.S.Recovery.MARK (g.S.Recovery.meaning c.args.self.now.pipe.scheme) c.args.self.now.running c.from_fn-words.result
    (fill_by_all (λ r. word_or_0 (look_answer g.S.Recovery.MARK (g.S.Recovery.meaning c.args.self.now.pipe.scheme) r)) c.from_fn-words.result 16 0 (search rules) (λ k h. search rules))
    c.if-self.false

pub returns-clause-settled : goal.returns-clause-settled
returns-clause-settled g c stopped =
    registers_settled g.S.Recovery.MARK (g.S.Recovery.meaning c.args.self.now.pipe.scheme) c.from_fn-words.result
    (fill_by_all (λ r. word_or_0 (look_answer g.S.Recovery.MARK (g.S.Recovery.meaning c.args.self.now.pipe.scheme) r)) c.from_fn-words.result 16 0 (search rules) (λ k h. search rules))
    (c.args.self.now.sound.idle stopped).0 c.args.self.now.sound.registers
