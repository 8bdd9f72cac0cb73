-- With nothing in flight, the words that look answers are the settled ones.
use Rattle.std.proofs.Common.{◌≡◌, ℕ, ◌<◌, Bool, true, false, cond, List, [], length, get_or, replicate, Some, None, sym, ap, ◌∙◌}
use Rattle.std.proofs.lemmas.List.FromFn.{fill_by_all}
use Rattle.std.proofs.lemmas.Bool.{lt-ltb}
use Rattle.recovery.specs.declared.Timing.{Timing}
use Rattle.recovery.specs.declared.Timing.TheVariants.{Early, Late}
use Rattle.recovery.specs.Meaning.{Meaning, look_answer}
use Rattle.pickcore.specs.Calls.{word_or_0, looked}

pub look_settled : (k : Timing) (m : Meaning) (r : ℕ) → m.flight ≡ [] → r < 16 → look_answer k m r ≡ Some (get_or m.settled r 0)
look_settled k m r e l = ap (λ es. look_answer k (record { settled = m.settled; capacity = m.capacity; flight = es }) r) e ∙ empty k
  where
    empty : (k : Timing) → look_answer k (record { settled = m.settled; capacity = m.capacity; flight = [] }) r ≡ Some (get_or m.settled r 0)
    empty Early = ap (λ b. cond (cond b false true) None (Some (get_or m.settled r 0))) (lt-ltb r 16 l)
    empty Late = ap (λ b. cond (cond b false true) None (Some (get_or m.settled r 0))) (lt-ltb r 16 l)

pub looked_settled : (k : Timing) (m : Meaning) → m.flight ≡ [] → length m.settled ≡ 16 → looked k m ≡ m.settled
looked_settled k m e l =
    sym (fill_by_all (λ r. word_or_0 (look_answer k m r)) m.settled 16 0 l (λ r h. sym (ap word_or_0 (look_settled k m r e h))))

-- the answer of a stopped core, by the words that were looked at
pub registers_value : (k : Timing) (m : Meaning) (running : Bool) (ws : List ℕ) → ws ≡ looked k m → running ≡ false → ◌≡◌ {A = List ℕ × ℕ} (ws, 0) (cond running (replicate 16 0, 6) (looked k m, 0))
registers_value k m running ws e h = ap (λ xs. (xs, 0)) e ∙ sym (ap (λ b. cond {A = List ℕ × ℕ} b (replicate 16 0, 6) (looked k m, 0)) h)

pub registers_settled : (k : Timing) (m : Meaning) (ws : List ℕ) → ws ≡ looked k m → m.flight ≡ [] → length m.settled ≡ 16 → ◌≡◌ {A = List ℕ × ℕ} (ws, 0) (m.settled, 0)
registers_settled k m ws e f l = ap (λ xs. (xs, 0)) (e ∙ looked_settled k m f l)
