use Rattle.std.proofs.Common.{◌≡◌, ℕ, arith}
use Rattle.pickcore.specs.Calls.{load_refusal}
use Rattle.pickcore.specs.Core.{machine_of}
use Rattle.jobs.proofs.Living.{precisely, accepted_none}
use Rattle.jobs.proofs.play.play.Goals as goal

pub returns : goal.returns
returns g c =
    let m = machine_of g.S.Recovery.meaning c.args.core.now in
    let s = c.args.setup in
    let ok = accepted_none (load_refusal m s.delays s.capacity s.program_length s.data_length) tt c.in_ok-load.ensures.answer in
    record {
      outcome = precisely g.S.Recovery.MARK c.args.program.now s c.args.calls.now c.args.answers.now c.args.records.now c.args.copies.now m (machine_of g.S.Recovery.meaning c.load.new.self) c.args.data.now
          c.make_all.result c.make_all.new.answers c.make_all.new.records c.make_all.new.copies (machine_of g.S.Recovery.meaning c.make_all.new.core) c.make_all.new.data
          c.if-answers-calls.false ok c.load.new.self.units c.load.ensures.leaves c.make_all.ensures;
      same = λ e. let z : ◌≡◌ {A = ℕ} 0 1 = cc in absurd (omega arith);
    }
