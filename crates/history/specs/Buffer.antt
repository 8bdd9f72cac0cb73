-- What a history buffer means.
use Rattle.std.specs.Prelude.{ℕ, List}
use Rattle.recovery.specs.Meaning.{Meaning}
use Rattle.recovery.specs.Slots.{in_slots}
use Rattle.history.specs.Unwind.{unwind, slots_of}
use Rattle.history.specs.declared.buffer.HistoryRecord.{HistoryRecord}
use Rattle.history.specs.declared.buffer.HistoryBuffer.{HistoryBuffer}

-- a meaning by its records and its file: the settled words are what unwinding leaves
abbrev pub meaning_by : ℕ → ℕ → List HistoryRecord → List ℕ → Meaning
meaning_by c t xs ws = in_slots (unwind xs ws) c t (slots_of xs ws)

-- the meaning of the whole buffer
abbrev pub meaning_of : HistoryBuffer → Meaning
meaning_of h = meaning_by h.flight.capacity h.flight.first h.flight.entries.items h.file
