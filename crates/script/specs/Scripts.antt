-- A desk script and a cradle job, as the text that holds them.
use Rattle.std.specs.Prelude.{ℕ, cond, List, [], ◌∷◌, length, take, drop, Some, None, Ok, Err, codes, Option, Result, ◌==◌, slice_index}
use Rattle.jobfile.specs.declared.scheme.Scheme.{Scheme}
use Rattle.jobfile.specs.Jobs.{scheme_at}
use Rattle.script.specs.Tokens.{lines_of}
use Rattle.script.specs.Numerals.{numbers_behind}
use Rattle.script.specs.Found.{Found, next_line}
use Rattle.script.specs.Calls.{Asked, calls_of}

-- what a line says, and what follows from it; or the number of a line that does not say it
abbrev pub said_or : {A B : Type 0} → Option A → ℕ → (A → Result B ℕ) → Result B ℕ
said_or None n then = Err n
said_or (Some a) n then = then a

-- the first line that says something
abbrev pub first_line : List ℕ → Found
first_line text = next_line 1 (lines_of text)

-- the next line that says something
abbrev pub line_after : Found → Found
line_after f = next_line f.next f.rest

-- one number
abbrev pub one_number : Option (List ℕ) → Option ℕ
one_number None = None
one_number (Some []) = None
one_number (Some (n ∷ [])) = Some n
one_number (Some (n ∷ (m ∷ ns))) = None

-- as many numbers as there are units
abbrev pub four_numbers : Option (List ℕ) → Option (List ℕ)
four_numbers None = None
four_numbers (Some ns) = cond (length ns == 4) (Some ns) None

-- the scheme of a number
abbrev pub scheme_in : Option ℕ → Option Scheme
scheme_in None = None
scheme_in (Some n) = scheme_at n

-- `scheme S`
abbrev pub scheme_line : List (List ℕ) → Option Scheme
scheme_line ws = scheme_in (one_number (numbers_behind (codes "scheme") ws))

-- `delays D D D D`
abbrev pub delays_line : List (List ℕ) → Option (List ℕ)
delays_line ws = four_numbers (numbers_behind (codes "delays") ws)

-- `capacity C`
abbrev pub capacity_line : List (List ℕ) → Option ℕ
capacity_line ws = one_number (numbers_behind (codes "capacity") ws)

-- `program W ..`
abbrev pub program_line : List (List ℕ) → Option (List ℕ)
program_line ws = numbers_behind (codes "program") ws

-- `data W ..`
abbrev pub data_line : List (List ℕ) → Option (List ℕ)
data_line ws = numbers_behind (codes "data") ws

-- a script: what the core is loaded with, the program and its data words, and the calls
pub record Scripted : Type 0 where
  pub scheme : Scheme
  pub delays : List ℕ
  pub capacity : ℕ
  pub program : List ℕ
  pub words : List ℕ
  pub calls : List Asked

-- a script of these parts and its calls, or the number of the line that is none
abbrev pub with_calls : Scheme → List ℕ → ℕ → List ℕ → List ℕ → Result (List Asked) ℕ → Result Scripted ℕ
with_calls s d c p w (Err n) = Err n
with_calls s d c p w (Ok calls) = Ok (record { scheme = s; delays = d; capacity = c; program = p; words = w; calls = calls })

-- the script whose head these five lines are
abbrev pub script_from : Found → Found → Found → Found → Found → Result Scripted ℕ
script_from f g h i j =
    said_or (scheme_line f.words) f.number (λ s.
    said_or (delays_line g.words) g.number (λ d.
    said_or (capacity_line h.words) h.number (λ c.
    said_or (program_line i.words) i.number (λ p.
    said_or (data_line j.words) j.number (λ w.
    with_calls s d c p w (calls_of j.next j.rest))))))

-- the script that a text holds, or the number of the first line that is not right
abbrev pub script_of : List ℕ → Result Scripted ℕ
script_of text =
    let f = first_line text in
    let g = line_after f in
    let h = line_after g in
    let i = line_after h in
    script_from f g h i (line_after i)

-- a core of the cradle: its scheme, delays and capacity
pub record SettingOf : Type 0 where
  pub scheme : Scheme
  pub delays : List ℕ
  pub capacity : ℕ

-- the setting of six numbers, the first of which names this scheme
abbrev pub with_scheme : List ℕ → Option Scheme → Option SettingOf
with_scheme ns None = None
with_scheme ns (Some s) = Some (record { scheme = s; delays = take 4 (drop 1 ns); capacity = slice_index ns 5 })

-- six numbers: the scheme, four delays, and the capacity
abbrev pub setting_in : Option (List ℕ) → Option SettingOf
setting_in None = None
setting_in (Some ns) = cond (length ns == 6) (with_scheme ns (scheme_at (slice_index ns 0))) None

-- `scanner S D D D D C`
abbrev pub scanner_line : List (List ℕ) → Option SettingOf
scanner_line ws = setting_in (numbers_behind (codes "scanner") ws)

-- `spare S D D D D C`
abbrev pub spare_line : List (List ℕ) → Option SettingOf
spare_line ws = setting_in (numbers_behind (codes "spare") ws)

-- `interrupt K`
abbrev pub interrupt_line : List (List ℕ) → Option ℕ
interrupt_line ws = one_number (numbers_behind (codes "interrupt") ws)

-- nothing more is said
abbrev pub no_line : List (List ℕ) → Option (Unit {0})
no_line [] = Some tt
no_line (w ∷ ws) = None

-- a job of the cradle: the two cores, the program and its data words, and when to interrupt
pub record Moved : Type 0 where
  pub scanner : SettingOf
  pub spare : SettingOf
  pub program : List ℕ
  pub words : List ℕ
  pub interrupt : ℕ

-- the job that these five lines tell, with nothing behind them
abbrev pub move_from : Found → Found → Found → Found → Found → Found → Result Moved ℕ
move_from f g h i j k =
    said_or (scanner_line f.words) f.number (λ a.
    said_or (spare_line g.words) g.number (λ b.
    said_or (program_line h.words) h.number (λ p.
    said_or (data_line i.words) i.number (λ w.
    said_or (interrupt_line j.words) j.number (λ n.
    said_or (no_line k.words) k.number (λ _.
    Ok (record { scanner = a; spare = b; program = p; words = w; interrupt = n })))))))

-- the job that a text holds, or the number of the first line that is not right
abbrev pub move_of : List ℕ → Result Moved ℕ
move_of text =
    let f = first_line text in
    let g = line_after f in
    let h = line_after g in
    let i = line_after h in
    let j = line_after i in
    move_from f g h i j (line_after j)
