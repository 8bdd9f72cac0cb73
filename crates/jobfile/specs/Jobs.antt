-- A job, and the bytes that hold it.
use Rattle.std.specs.Prelude.{◌≡◌, ℕ, ◌+◌, ◌*◌, ◌^◌, ◌<◌, Bool, true, cond, ◌&&◌, List, [], ◌∷◌, ◌++◌, length, take, drop, Some, None, Option, ◌==◌, nat_le, slice_index}
use Rattle.jobfile.specs.declared.scheme.Scheme.{Scheme}
use Rattle.jobfile.specs.declared.scheme.Scheme.TheVariants.{ReorderBuffer, BypassBuffer, HistoryBuffer, FutureFile}
use Rattle.jobfile.specs.Bytes.{words_of, bytes_of_words}

-- the number of every scheme
abbrev pub scheme_number : Scheme → ℕ
scheme_number ReorderBuffer = 1
scheme_number BypassBuffer = 2
scheme_number HistoryBuffer = 3
scheme_number FutureFile = 4

abbrev pub scheme_at : ℕ → Option Scheme
scheme_at n =
    cond (n == 1) (Some ReorderBuffer) (cond (n == 2) (Some BypassBuffer) (cond (n == 3) (Some HistoryBuffer)
    (cond (n == 4) (Some FutureFile) None)))

-- the scheme, the delays of the units, the capacity, the program, its data words, and how many cycles to run
pub record Order : Type 0 where
  pub scheme : Scheme
  pub delays : List ℕ
  pub capacity : ℕ
  pub program : List ℕ
  pub words : List ℕ
  pub cycles : ℕ

-- The words of a job: scheme, four delays, capacity, program length, data length, cycles, then program and data.

abbrev pub program_length : List ℕ → ℕ
program_length ws = slice_index ws 6

abbrev pub data_length : List ℕ → ℕ
data_length ws = slice_index ws 7

abbrev pub cycles_in : List ℕ → ℕ
cycles_in ws = slice_index ws 8

-- the bytes are as many as the two lengths say, and not too many; there is a cycle to run, and not too many
abbrev pub well_formed : ℕ → List ℕ → Bool
well_formed many ws =
    nat_le many 32804 && (many == 36 + 4 * (program_length ws + data_length ws) && (nat_le 1 (cycles_in ws) && nat_le (cycles_in ws) 1024))

abbrev pub order_of : List ℕ → Scheme → Order
order_of ws s = record {
  scheme = s;
  delays = slice_index ws 1 ∷ (slice_index ws 2 ∷ (slice_index ws 3 ∷ (slice_index ws 4 ∷ [])));
  capacity = slice_index ws 5;
  program = take (program_length ws) (drop 9 ws);
  words = drop (program_length ws) (drop 9 ws);
  cycles = cycles_in ws;
}

abbrev pub with_scheme : List ℕ → Option Scheme → Option Order
with_scheme ws None = None
with_scheme ws (Some s) = Some (order_of ws s)

-- the job that the words of so many bytes hold, if they hold one
abbrev pub job_in : ℕ → List ℕ → Option Order
job_in many ws = cond (well_formed many ws) (with_scheme ws (scheme_at (slice_index ws 0))) None

-- the job that some bytes hold, if they hold one
abbrev pub read_job : List ℕ → Option Order
read_job bytes = job_in (length bytes) (words_of bytes)

-- the words, and the bytes, that hold a job
abbrev pub job_words : Order → List ℕ
job_words o =
    scheme_number o.scheme ∷ (o.delays ++ (o.capacity ∷ (length o.program ∷ (length o.words ∷ (o.cycles ∷ (o.program ++ o.words))))))

abbrev pub job_bytes : Order → List ℕ
job_bytes o = bytes_of_words (job_words o)

-- a job that a file holds: short enough, with a cycle to run, and not too many
abbrev pub fits_file : Order → Bool
fits_file o = nat_le (length o.program + length o.words) 8192 && (nat_le 1 o.cycles && nat_le o.cycles 1024)

-- every word is a number of 32 bits
abbrev pub Words32 : List ℕ → Type 0
Words32 [] = Unit {0}
Words32 (w ∷ ws) = (w < 2 ^ 32) × Words32 ws

-- the bytes of a job that a file holds, of four delays and words of 32 bits, read back as that job
abbrev pub WriteThenRead : Type 0
WriteThenRead = (o : Order) → fits_file o ≡ true → length o.delays ≡ 4 → Words32 o.delays → o.capacity < 2 ^ 32 → Words32 o.program → Words32 o.words
    → read_job (job_bytes o) ≡ Some o
