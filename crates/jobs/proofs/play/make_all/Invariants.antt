use Rattle.pickcore.specs.Core.{machine_of}
use Rattle.jobs.specs.Play.{words_known}
use Rattle.jobs.proofs.Playing.{Going}
use Rattle.jobs.proofs.play.make_all.Given as goal

abbrev pub invariant-loop-i : goal.invariant-loop-i
invariant-loop-i g l =
    Going g.S.Recovery.MARK l.program l.calls l.initial.answers l.initial.records l.initial.copies (machine_of g.S.Recovery.meaning l.initial.core) l.initial.data
    l.i l.totals l.answers l.records l.copies (words_known l.last) (machine_of g.S.Recovery.meaning l.core) l.data
