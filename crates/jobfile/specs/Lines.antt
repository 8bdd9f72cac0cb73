-- The lines that a program prints.
use Rattle.std.specs.Prelude.{ℕ, ◌+◌, ◌/◌, ◌%◌, ◌^◌, cond, List, [], ◌∷◌, ◌++◌, Some, None, codes, decimal, Option, nat_lt}
use Rattle.isa.specs.declared.refusal.Refusal.{Refusal}
use Rattle.isa.specs.Numbers.{cause_or_0, refusal_number}
use Rattle.pickcore.specs.declared.record.CycleRecord.{CycleRecord}
use Rattle.pickcore.specs.declared.record.Report.{Report}
use Rattle.pickcore.specs.Record.{hold_or_0}

-- one line for each element, which are numbered from i
abbrev pub numbered : {A : Type 0} → (ℕ → A → List ℕ) → ℕ → List A → List ℕ
numbered line i [] = []
numbered line i (x ∷ xs) = line i x ++ numbered line (i + 1) xs

-- a hexadecimal digit, the two of a byte, and a word as `0x` and the eight of its bytes, highest first
abbrev pub hex_digit : ℕ → ℕ
hex_digit n = cond (nat_lt n 10) (48 + n) (87 + n)

abbrev pub hex_byte : ℕ → List ℕ
hex_byte b = hex_digit (b / 16) ∷ (hex_digit (b % 16) ∷ [])

abbrev pub hex_word : ℕ → List ℕ
hex_word w = codes "0x" ++ (hex_byte (w / 2 ^ 24 % 256) ++ (hex_byte (w / 2 ^ 16 % 256) ++ (hex_byte (w / 2 ^ 8 % 256) ++ hex_byte (w % 256))))

-- a counter, or a dash where there is none
abbrev pub counter_text : Option ℕ → List ℕ
counter_text None = codes "-"
counter_text (Some n) = decimal n

-- what a cycle did: the retired and the issued counter, and the hold or 0
abbrev pub cycle_text : CycleRecord → List ℕ
cycle_text r = counter_text r.retired ++ (codes " " ++ (counter_text r.issued ++ (codes " " ++ decimal (hold_or_0 r.hold))))

-- a cycle: its number, and what it did
abbrev pub cycle_line : ℕ → CycleRecord → List ℕ
cycle_line i r = decimal i ++ (codes " " ++ (cycle_text r ++ codes "\n"))

-- why, where and after how many instructions a core stopped: the cause or 0, the counter and the count
abbrev pub report_text : Report → List ℕ
report_text r = decimal (cause_or_0 r.cause) ++ (codes " " ++ (decimal r.counter ++ (codes " " ++ decimal r.count)))

-- a stop
abbrev pub stop_line : Report → List ℕ
stop_line r = codes "stop " ++ (report_text r ++ codes "\n")

-- a call that was declined, by its number
abbrev pub declined_line : Refusal → List ℕ
declined_line x = codes "declined " ++ (decimal (refusal_number x) ++ codes "\n")
