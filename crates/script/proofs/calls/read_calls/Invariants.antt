use Rattle.std.proofs.Common.{◌≡◌, ◌<◌, map, length, vec_items}
use Rattle.script.specs.Tokens.{lines_of, words_in}
use Rattle.script.specs.Calls.{calls_of}
use Rattle.script.specs.Told.{found, asked}
use Rattle.script.proofs.Asks.{calls_found, behind, left}
use Rattle.script.proofs.calls.read_calls.Given as goal

-- the calls so far, and those from this line on; a line that is not empty has words, and behind one without words is none
abbrev pub invariant-loop-reader : goal.invariant-loop-reader
invariant-loop-reader l =
    (behind (map asked (vec_items l.calls)) (calls_found (found l.line l.reader)) ≡ calls_of l.fn.reader.number (lines_of l.fn.reader.rest.now))
    × (0 < length l.line.code.now → 0 < length (words_in l.line.code.now))
    × (length (words_in l.line.code.now) ≡ 0 → length (lines_of l.reader.rest.now) ≡ 0)

abbrev pub decreases-loop-reader : goal.decreases-loop-reader
decreases-loop-reader l = left (found l.line l.reader)
