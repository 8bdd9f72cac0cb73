use Rattle.std.proofs.Common.{◌≡◌, length}
use Rattle.script.specs.Tokens.{lines_of}
use Rattle.script.specs.Found.{next_line}
use Rattle.script.proofs.reader.Reader.next_line.Given as goal

-- the lines so far said nothing
abbrev pub invariant-loop-line : goal.invariant-loop-line
invariant-loop-line l = next_line l.self.number (lines_of l.self.rest.now) ≡ next_line l.initial.self.number (lines_of l.initial.self.rest.now)

abbrev pub decreases-loop-line : goal.decreases-loop-line
decreases-loop-line l = length l.self.rest.now
