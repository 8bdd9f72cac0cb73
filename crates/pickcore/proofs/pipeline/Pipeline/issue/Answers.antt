use Rattle.std.proofs.Common.{[], ◌∷◌, get_or, ap, ◌∙◌}
use Rattle.isa.specs.declared.fault.Fault.TheVariants as fault
use Rattle.isa.specs.Table.{row, fetched, sources_of, computes, stores, target}
use Rattle.pickcore.specs.Model.{pipe_of, setting}
use Rattle.pickcore.specs.Record.{issued_or_held}
use Rattle.pickcore.proofs.Issue.{row_work, row_jump, halt_chosen, store_chosen, work_chosen, jump_chosen}
use Rattle.pickcore.proofs.pipeline.Pipeline.issue.Goals as goal

pub returns-in-Err : goal.returns-in-Err
returns-in-Err g c =
    halt_chosen (setting g.S.Recovery.MARK c.args.delays.now c.args.program.now) (pipe_of g.S.Recovery.meaning c.args.self.now) c.args.data.now (fetched c.args.program.now c.args.self.now.next)
    c.in-Err.fault c.drain.result (pipe_of g.S.Recovery.meaning c.drain.new.self)
    c.in-Err.ensures.fetches c.drain.ensures

pub returns-in-Some : goal.returns-in-Some
returns-in-Some g c =
    let i = c.in-Ok.word in
    rw c.from-in-Some.ensures (work_chosen (setting g.S.Recovery.MARK c.args.delays.now c.args.program.now) (pipe_of g.S.Recovery.meaning c.args.self.now) c.args.data.now (fetched c.args.program.now c.args.self.now.next)
    c.in-Some.unit i.1 (sources_of i.0 i.2 i.3) (computes i.0 i.4) (issued_or_held c.work.result) (pipe_of g.S.Recovery.meaning c.work.new.self) (get_or c.args.delays.now c.from.result 0)
    (c.in-Ok.ensures.fetches ∙ row_work i.0 c.in-Some.unit i.1 i.2 i.3 i.4 c.in-Some.ensures) (ap (λ j. get_or c.args.delays.now j 0) c.from.ensures) c.work.ensures)

pub returns-in-Stop : goal.returns-in-Stop
returns-in-Stop g c =
    let i = c.in-Ok.word in
    halt_chosen (setting g.S.Recovery.MARK c.args.delays.now c.args.program.now) (pipe_of g.S.Recovery.meaning c.args.self.now) c.args.data.now (fetched c.args.program.now c.args.self.now.next)
    fault.Stop c.drain-in-Stop.result (pipe_of g.S.Recovery.meaning c.drain-in-Stop.new.self)
    (c.in-Ok.ensures.fetches ∙ ap (λ k. row k i.1 i.2 i.3 i.4) c.in-Stop.is) c.drain-in-Stop.ensures

pub returns-in-Store : goal.returns-in-Store
returns-in-Store g c =
    let i = c.in-Ok.word in
    store_chosen (setting g.S.Recovery.MARK c.args.delays.now c.args.program.now) (pipe_of g.S.Recovery.meaning c.args.self.now) c.args.data.now (fetched c.args.program.now c.args.self.now.next)
    (i.2 ∷ i.3 ∷ []) (stores i.4) c.store.result (pipe_of g.S.Recovery.meaning c.store.new.self) c.store.new.data
    (c.in-Ok.ensures.fetches ∙ ap (λ k. row k i.1 i.2 i.3 i.4) c.in-Store.is) c.store.ensures

pub returns-in_default : goal.returns-in_default
returns-in_default g c =
    let i = c.in-Ok.word in
    rw c.from-in_default.ensures (jump_chosen (setting g.S.Recovery.MARK c.args.delays.now c.args.program.now) (pipe_of g.S.Recovery.meaning c.args.self.now) c.args.data.now (fetched c.args.program.now c.args.self.now.next)
    (sources_of i.0 i.2 i.3) (target i.0 i.4) (issued_or_held c.branch-self.result) (pipe_of g.S.Recovery.meaning c.branch-self.new.self)
    (c.in-Ok.ensures.fetches ∙ row_jump i.0 i.1 i.2 i.3 i.4 c.in-None.ensures c.in_default.not-Stop c.in_default.not-Store) c.branch-self.ensures)
