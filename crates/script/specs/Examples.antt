-- Texts and what they hold.
use Rattle.std.specs.Prelude.{◌≡◌, [], ◌∷◌, Some, None, Ok, Err, codes}
use Rattle.jobfile.specs.declared.scheme.Scheme.TheVariants.{BypassBuffer, FutureFile}
use Rattle.script.specs.Tokens.{lines_of, words_of}
use Rattle.script.specs.Numerals.{number_of}
use Rattle.script.specs.Calls.{run, take_up, take_up_image, resume, data_words}
use Rattle.script.specs.Scripts.{script_of, move_of}

-- lines, words and numbers
abbrev pub PartsAreRead : Type 0
PartsAreRead =
    (lines_of (codes "a\n\nb") ≡ codes "a" ∷ ([] ∷ (codes "b" ∷ [])))
    × (lines_of (codes "a\n") ≡ codes "a" ∷ [])
    × (words_of (codes " run\t20 \r# to the end") ≡ codes "run" ∷ (codes "20" ∷ []))
    × (number_of (codes "0x00aF") ≡ Some 175)
    × (number_of (codes "4294967295") ≡ Some 4294967295)
    × (number_of (codes "4294967296") ≡ None)
    × (number_of (codes "0x") ≡ None)
    × (number_of (codes "-1") ≡ None)
    × (number_of (codes "1_0") ≡ None)

-- scripts, and the lines that are not right
abbrev pub ScriptsAreRead : Type 0
ScriptsAreRead =
    (script_of (codes "scheme 2\ndelays 2 4 5 3\n\ncapacity 4 # full\nprogram 0x11000007 0\ndata\nresume 0\nrun 20\ntake-up image\ntake-up\ndata")
    ≡ Ok (record { scheme = BypassBuffer; delays = 2 ∷ (4 ∷ (5 ∷ (3 ∷ []))); capacity = 4; program = 285212679 ∷ (0 ∷ []); words = []; calls = resume 0 ∷ (run 20 ∷ (take_up_image ∷ (take_up [] ∷ (data_words ∷ [])))) }))
    × (script_of [] ≡ Err 1)
    × (script_of (codes "scheme 2\n# no more\n") ≡ Err 3)
    × (script_of (codes "scheme 5\n") ≡ Err 1)
    × (script_of (codes "scheme 1\ncapacity 4\n") ≡ Err 2)
    × (script_of (codes "scheme 1\ndelays 1 1 1\n") ≡ Err 2)
    × (script_of (codes "scheme 1\ndelays 1 1 1 1\ncapacity 1\nprogram 0\ndata\n\nstep\nrun 1000001\nwalk\n") ≡ Err 8)

-- jobs of the cradle
abbrev pub MovesAreRead : Type 0
MovesAreRead =
    (move_of (codes "scanner 2 1 1 1 1 4\nspare 4 2 2 2 2 8\nprogram 0\ndata 7\ninterrupt 12\n")
    ≡ Ok (record {
      scanner = record { scheme = BypassBuffer; delays = 1 ∷ (1 ∷ (1 ∷ (1 ∷ []))); capacity = 4 };
      spare = record { scheme = FutureFile; delays = 2 ∷ (2 ∷ (2 ∷ (2 ∷ []))); capacity = 8 };
      program = 0 ∷ [];
      words = 7 ∷ [];
      interrupt = 12;
    }))
    × (move_of (codes "scanner 2 1 1 1 1 4\nspare 4 2 2 2 2 8\nprogram 0\ndata\ninterrupt 12\n\nstep\n") ≡ Err 7)
    × (move_of (codes "scanner 2 1 1 1 1 4\nspare 4 2 2 2 2 8\nprogram 0\ndata\n") ≡ Err 5)

-- all of these
abbrev pub TextsAreRead : Type 0
TextsAreRead = PartsAreRead × ScriptsAreRead × MovesAreRead
