-- The text of some answers, one answer at a time.
use Rattle.std.proofs.Common.{◌≡◌, ℕ, ◌⊎◌, inl, inr, List, [], ◌∷◌, ◌++◌, length, take, drop, refl, sym, ◌∙◌, append_assoc, append-nil, arith}
use Rattle.pickcore.specs.declared.record.CycleRecord.{CycleRecord}
use Rattle.jobs.specs.declared.call.Call.{Call}
use Rattle.jobs.specs.declared.call.Answer.{Answer}
use Rattle.jobs.specs.Play.{records_in, copies_in}
use Rattle.printing.specs.Lines.{call_name, answer_lines}
use Rattle.deskrun.specs.Desk.{answers_text}

-- what is written and what is to come, one answer on
pub text_more : (c : Call) (a : Answer) (calls calls' : List Call) (answers answers' : List Answer) (rows own later : List CycleRecord) (copied words others text text' whole : List ℕ)
    → calls ≡ c ∷ calls' → answers ≡ a ∷ answers'
    → own ≡ take (records_in a) rows → later ≡ drop (records_in a) rows → words ≡ take (copies_in a) copied → others ≡ drop (copies_in a) copied
    → text' ≡ text ++ answer_lines (call_name c) a own words
    → text ++ answers_text calls answers rows copied ≡ whole
    → text' ++ answers_text calls' answers' later others ≡ whole
text_more c a calls calls' answers answers' rows own later copied words others text text' whole ec ea eo el ew ex e h =
    let split : answers_text (c ∷ calls') (a ∷ answers') rows copied
    ≡ answer_lines (call_name c) a (take (records_in a) rows) (take (copies_in a) copied) ++ answers_text calls' answers' (drop (records_in a) rows) (drop (copies_in a) copied) = refl in
    let joined = append_assoc text (answer_lines (call_name c) a own words) (answers_text calls' answers' later others) in
    cc

-- where no call or no answer is left, nothing is to come
pub text_all : (calls : List Call) (answers : List Answer) (rows : List CycleRecord) (copied text whole : List ℕ) → (length calls ≡ 0) ⊎ (length answers ≡ 0) → text ++ answers_text calls answers rows copied ≡ whole → text ≡ whole
text_all [] answers rows copied text whole l h = sym (append-nil text) ∙ h
text_all (c ∷ calls) [] rows copied text whole l h = sym (append-nil text) ∙ h
text_all (c ∷ calls) (a ∷ answers) rows copied text whole (inl l) h = absurd (omega arith)
text_all (c ∷ calls) (a ∷ answers) rows copied text whole (inr l) h = absurd (omega arith)
