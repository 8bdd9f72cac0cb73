-- The table of worked cases. A row holds what the definitions give and what it should be, as numbers.
use Rattle.std.specs.Prelude.{◌≡◌, ℕ, zero, suc, ◌+◌, List, [], ◌∷◌, ◌++◌, replicate, Some, None, Ok, Err, Option, Result, slice_index}
use Rattle.isa.specs.declared.fault.Fault.{Fault}
use Rattle.isa.specs.declared.refusal.Refusal.{Refusal}
use Rattle.isa.specs.declared.words.Kind.{Kind}
use Rattle.isa.specs.Numbers.{kind_number, fault_number, refusal_number, cause_or_0}
use Rattle.isa.specs.Words.{decoded}
use Rattle.isa.specs.Plain.{Plain, stepped}
use Rattle.recovery.specs.declared.Timing.{Timing}
use Rattle.recovery.specs.declared.Timing.TheVariants.{Early, Late}
use Rattle.pickcore.specs.declared.record.CycleRecord.{CycleRecord}
use Rattle.pickcore.specs.Record.{hold_or_0}
use Rattle.pickcore.specs.Calls.{Machine, Step, loaded, resume_leaves, step_of, cut_leaves, image_leaves}

pub record Row : Type 0 where
  pub gives : List ℕ
  pub expected : List ℕ

-- every row gives what it should
abbrev pub Each : List Row → Type 0
Each [] = Unit {0}
Each (r ∷ rs) = (r.gives ≡ r.expected) × Each rs

-- What is seen of a word, of the plain machine's step, and of a core

-- kind, d, a, b and n of a word, or the refusal's number
abbrev pub word_seen : Result (Kind × ℕ × ℕ × ℕ × ℕ) Refusal → List ℕ
word_seen (Ok i) = kind_number i.0 ∷ (i.1 ∷ (i.2 ∷ (i.3 ∷ (i.4 ∷ []))))
word_seen (Err x) = refusal_number x ∷ []

-- 0, the counter, R2 and the first data word after a step, or the fault's number
abbrev pub step_seen : Result Plain Fault → List ℕ
step_seen (Ok p) = 0 ∷ (p.counter ∷ (slice_index p.registers 2 ∷ (slice_index p.words 0 ∷ [])))
step_seen (Err f) = fault_number f ∷ []

-- one instruction, where R0 is x and R1 is y, on these data words
abbrev pub one_step : ℕ → ℕ → ℕ → List ℕ → List ℕ
one_step word x y ws = step_seen (stepped (word ∷ []) (record { registers = x ∷ (y ∷ (0 ∷ [])); words = ws; counter = 0 }))

-- a counter as its number plus 1, or 0 for none
abbrev pub counter_seen : Option ℕ → ℕ
counter_seen None = 0
counter_seen (Some n) = n + 1

-- a record as retired, issued, hold and cause
abbrev pub record_seen : Result CycleRecord Refusal → List ℕ
record_seen (Ok r) = counter_seen r.retired ∷ (counter_seen r.issued ∷ (hold_or_0 r.hold ∷ (cause_or_0 r.cause ∷ [])))
record_seen (Err x) = refusal_number x ∷ []

-- cause, counter, count and R1 of a core
abbrev pub core_seen : Machine → List ℕ
core_seen m = cause_or_0 m.cause ∷ (m.pipe.next ∷ (m.pipe.count ∷ (slice_index m.pipe.scheme.settled 1 ∷ [])))

-- steps in a row, with tags that count up, the records seen, and the core at the end
pub record Trace : Type 0 where
  pub seen : List ℕ
  pub last : Machine

abbrev pub noted : List ℕ → Trace → Trace
noted xs t = record { seen = xs ++ t.seen; last = t.last }

abbrev pub traced : Timing → List ℕ → ℕ → ℕ → Machine → Trace
traced k program tag zero m = record { seen = []; last = m }
traced k program tag (suc n) m =
    let s : Step = step_of k m program [] tag in noted (record_seen s.answer) (traced k program (tag + 1) n s.machine)

-- a core with these delays and this capacity, loaded with a program of so many words and resumed at 0
abbrev pub core : List ℕ → ℕ → ℕ → Machine
core delays capacity many = resume_leaves (loaded delays capacity many 0) 0

-- set R1 7; divide R3 R1 R2; add R1 R1 R1; stop
abbrev pub example : List ℕ
example = 0x11000007 ∷ (0x63120000 ∷ (0x21110000 ∷ (0x00000000 ∷ [])))

-- multiply R3 R1 R2; set R4 1; add R5 R4 R4
abbrev pub waiting_add : List ℕ
waiting_add = 0x53120000 ∷ (0x14000001 ∷ (0x25440000 ∷ []))

abbrev pub eight : Trace
eight = traced Early example 0 8 (core (2 ∷ (4 ∷ (5 ∷ (3 ∷ [])))) 4 4)

abbrev pub seen_in : Timing → List ℕ → ℕ → List ℕ → ℕ → ℕ → List ℕ
seen_in k delays capacity program many n = (traced k program 0 n (core delays capacity many)).seen

-- the words at these indices
abbrev pub words_seen : List ℕ → List ℕ → List ℕ
words_seen [] ws = []
words_seen (i ∷ is) ws = slice_index ws i ∷ words_seen is ws

abbrev pub table : List Row
table =
    -- 0: the example, cycle by cycle
    record {
      gives = eight.seen;
      expected =
          0 ∷ 1 ∷ 0 ∷ 0 ∷ 0 ∷ 0 ∷ 3 ∷ 0 ∷ 1 ∷ 2 ∷ 0 ∷ 0 ∷ 0 ∷ 3 ∷ 0 ∷ 0 ∷ 0 ∷ 0 ∷ 2 ∷ 0 ∷ 0 ∷ 0 ∷ 2 ∷ 0 ∷ 0 ∷ 0 ∷ 2 ∷ 0 ∷ 0 ∷ 0 ∷ 0 ∷ 1 ∷ [];
    }
    -- 1: it stops with cause 1, counter 1, count 1, and R1 is 7
    ∷ record { gives = core_seen eight.last; expected = 1 ∷ 1 ∷ 1 ∷ 7 ∷ [] }
    -- 2 to 4: divide 3, 1, 2; a field that divide does not use; no kind 12
    ∷ record { gives = word_seen (decoded 0x63120000); expected = 6 ∷ 3 ∷ 1 ∷ 2 ∷ 0 ∷ [] }
    ∷ record { gives = word_seen (decoded 0x63120001); expected = 14 ∷ [] }
    ∷ record { gives = word_seen (decoded 0xC0000000); expected = 14 ∷ [] }
    -- 5 and 6: checked add of 2,147,483,647 and 0, and 1
    ∷ record { gives = one_step 0x72010000 2147483647 0 []; expected = 0 ∷ 1 ∷ 2147483647 ∷ 0 ∷ [] }
    ∷ record { gives = one_step 0x72010000 2147483647 1 []; expected = 2 ∷ [] }
    -- 7 to 10: with 4 data words, a load at 3 and at 4, and a store
    ∷ record { gives = one_step 0x82000000 3 0 (9 ∷ 8 ∷ 7 ∷ 6 ∷ []); expected = 0 ∷ 1 ∷ 6 ∷ 9 ∷ [] }
    ∷ record { gives = one_step 0x82000000 4 0 (9 ∷ 8 ∷ 7 ∷ 6 ∷ []); expected = 3 ∷ [] }
    ∷ record { gives = one_step 0x90010000 0 5 (9 ∷ 8 ∷ 7 ∷ 6 ∷ []); expected = 0 ∷ 1 ∷ 0 ∷ 5 ∷ [] }
    ∷ record { gives = one_step 0x90010000 4 5 (9 ∷ 8 ∷ 7 ∷ 6 ∷ []); expected = 3 ∷ [] }
    -- 11: a base of 0xFFFFFFFF with offset 1 loads word 0
    ∷ record { gives = one_step 0x82100001 0 0xFFFFFFFF (9 ∷ 8 ∷ 7 ∷ 6 ∷ []); expected = 0 ∷ 1 ∷ 9 ∷ 9 ∷ [] }
    -- 12 and 13: the add behind a multiply issues in cycle 4 with bypasses, and in cycle 6 without
    ∷ record { gives = seen_in Early (2 ∷ (4 ∷ (1 ∷ (1 ∷ [])))) 4 waiting_add 3 4; expected = 0 ∷ 1 ∷ 0 ∷ 0 ∷ 0 ∷ 2 ∷ 0 ∷ 0 ∷ 0 ∷ 0 ∷ 3 ∷ 0 ∷ 0 ∷ 3 ∷ 0 ∷ 0 ∷ [] }
    ∷ record { gives = seen_in Late (2 ∷ (4 ∷ (1 ∷ (1 ∷ [])))) 4 waiting_add 3 6; expected = 0 ∷ 1 ∷ 0 ∷ 0 ∷ 0 ∷ 2 ∷ 0 ∷ 0 ∷ 0 ∷ 0 ∷ 3 ∷ 0 ∷ 0 ∷ 0 ∷ 3 ∷ 0 ∷ 1 ∷ 0 ∷ 3 ∷ 0 ∷ 2 ∷ 3 ∷ 0 ∷ 0 ∷ [] }
    -- 14: a set behind a multiply of delay 3 has hold 4 in cycle 2
    ∷ record { gives = seen_in Early (2 ∷ (3 ∷ (1 ∷ (1 ∷ [])))) 4 waiting_add 3 2; expected = 0 ∷ 1 ∷ 0 ∷ 0 ∷ 0 ∷ 0 ∷ 4 ∷ 0 ∷ [] }
    -- 15 and 16: two sets of one register have hold 5 in cycle 2; of two, with capacity 1, hold 6
    ∷ record { gives = seen_in Early (2 ∷ (1 ∷ (1 ∷ (1 ∷ [])))) 4 (0x11000001 ∷ (0x11000002 ∷ [])) 2 2; expected = 0 ∷ 1 ∷ 0 ∷ 0 ∷ 0 ∷ 0 ∷ 5 ∷ 0 ∷ [] }
    ∷ record { gives = seen_in Early (2 ∷ (1 ∷ (1 ∷ (1 ∷ [])))) 1 (0x11000001 ∷ (0x12000002 ∷ [])) 2 2; expected = 0 ∷ 1 ∷ 0 ∷ 0 ∷ 0 ∷ 0 ∷ 6 ∷ 0 ∷ [] }
    -- 17: a cut after the example's first cycle
    ∷ record { gives = core_seen (cut_leaves (traced Early example 0 1 (core (2 ∷ (4 ∷ (5 ∷ (3 ∷ [])))) 4 4)).last); expected = 8 ∷ 0 ∷ 0 ∷ 0 ∷ [] }
    -- 18: the example's image has R1 in words 2 and 3, the counter in 32, the cause in 33 and the count in 34
    ∷ record {
      gives = words_seen (2 ∷ 3 ∷ 32 ∷ 33 ∷ 34 ∷ 35 ∷ []) (image_leaves Early eight.last (replicate 36 0));
      expected = 0x11000007 ∷ 0x21000000 ∷ 0x30000001 ∷ 0x40000001 ∷ 0x50000001 ∷ 0xF0000024 ∷ [];
    }
    ∷ []

abbrev pub CasesHold : Type 0
CasesHold = Each table
