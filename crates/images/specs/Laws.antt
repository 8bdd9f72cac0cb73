-- Each image means one state, and what is no image is refused for its first bad word.
use Rattle.std.specs.Prelude.{◌≡◌, ℕ, ◌^◌, ◌<◌, ◌≤◌, List, length, Ok}
use Rattle.std.specs.List.{AllByRecursion}
use Rattle.std.specs.Result.{result_err}
use Rattle.images.specs.Image.{Snapshot, image_words, read_words}
use Rattle.images.specs.Rules.{first_bad, refusal_for}

-- words that read as a state are its image
abbrev pub ReadThenWrite : Type 0
ReadThenWrite = (ws : List ℕ) (s : Snapshot) → read_words ws ≡ Ok s → image_words s ≡ ws

-- the image of a state reads as it: sixteen registers of 32 bits, a counter of 16 bits, a count of at most 1,000,000
abbrev pub WriteThenRead : Type 0
WriteThenRead =
    (s : Snapshot) → length s.registers ≡ 16 → AllByRecursion (λ x. x < 2 ^ 32) s.registers → s.counter < 2 ^ 16
    → s.count ≤ 1000000 → read_words (image_words s) ≡ Ok s

-- 36 words are refused for the first that breaks its rule, and for nothing else
abbrev pub FirstBadWord : Type 0
FirstBadWord = (ws : List ℕ) → length ws ≡ 36 → result_err (read_words ws) ≡ refusal_for (first_bad 0 ws)
