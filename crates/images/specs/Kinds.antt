-- The number of every kind of word.
use Rattle.std.specs.Prelude.{ℕ}
use Rattle.images.specs.declared.layout.WordKind.{WordKind}
use Rattle.images.specs.declared.layout.WordKind.TheVariants as kind

abbrev pub word_kind_number : WordKind → ℕ
word_kind_number kind.LowHalf = 1
word_kind_number kind.HighHalf = 2
word_kind_number kind.Counter = 3
word_kind_number kind.Cause = 4
word_kind_number kind.Count = 5
