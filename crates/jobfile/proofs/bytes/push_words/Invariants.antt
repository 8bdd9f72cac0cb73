use Rattle.std.proofs.Common.{◌≡◌, ◌++◌, take, vec_items}
use Rattle.jobfile.specs.Bytes.{bytes_of_words}
use Rattle.jobfile.proofs.bytes.push_words.Given as goal

abbrev pub invariant-loop-word : goal.invariant-loop-word
invariant-loop-word l = vec_items l.bytes ≡ vec_items l.initial.bytes ++ bytes_of_words (take l.word-index l.words)
