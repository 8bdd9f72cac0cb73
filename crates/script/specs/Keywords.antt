-- The words that a call begins with.
use Rattle.std.specs.Prelude.{ℕ, cond, List, Some, None, codes, Option}
use Rattle.std.specs.Str.{bytes_eq}
use Rattle.script.specs.declared.keyword.Keyword.{Keyword}
use Rattle.script.specs.declared.keyword.Keyword.TheVariants as key

-- the keyword that a word is, if it is one
abbrev pub keyword_of : List ℕ → Option Keyword
keyword_of w =
    cond (bytes_eq w (codes "step")) (Some key.Step)
    (cond (bytes_eq w (codes "run")) (Some key.Run)
    (cond (bytes_eq w (codes "request")) (Some key.Request)
    (cond (bytes_eq w (codes "cut")) (Some key.Cut)
    (cond (bytes_eq w (codes "amend")) (Some key.Amend)
    (cond (bytes_eq w (codes "take-up")) (Some key.TakeUp)
    (cond (bytes_eq w (codes "resume")) (Some key.Resume)
    (cond (bytes_eq w (codes "report")) (Some key.Report)
    (cond (bytes_eq w (codes "registers")) (Some key.Registers)
    (cond (bytes_eq w (codes "image")) (Some key.Image)
    (cond (bytes_eq w (codes "data")) (Some key.Data) None))))))))))
