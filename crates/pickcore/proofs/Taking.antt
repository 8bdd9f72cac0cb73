-- The registers of an image are placed one after another; with nothing in flight they become the settled ones.
use Rattle.std.proofs.Common.{◌≡◌, ℕ, suc, ◌+◌, ◌<◌, ◌≤◌, true, false, cond, ◌&&◌, ltb, List, [], ◌∷◌, ◌++◌, length, take, set, sym, ap, ◌∙◌, subst, append_assoc, append-nil, add-zero, arith, length-set}
use Rattle.std.proofs.lemmas.List.{take_all, take_more_set}
use Rattle.std.proofs.lemmas.Bool.{lt-ltb}
use Rattle.recovery.specs.Meaning.{Meaning, is_empty, with_settled, place_answer, place_leaves}
use Rattle.images.specs.Image.{Snapshot}
use Rattle.pickcore.specs.Limits.{stretch}
use Rattle.pickcore.specs.Calls.{Machine, between, placed_from, taken_up}
use Rattle.pickcore.specs.Sound.{Counters, Tied, Sound}
use Rattle.pickcore.proofs.Sounds.{cause_below}

-- one register more
pub placed_more : (m : Meaning) (r : ℕ) (xs : List ℕ) (w : ℕ) → placed_from m r (xs ++ (w ∷ [])) ≡ place_leaves (placed_from m r xs) (r + length xs) w
placed_more m r [] w = ap (λ k. place_leaves m k w) (sym (add-zero r))
placed_more m r (x ∷ xs) w =
    let e : (r + 1) + length xs ≡ r + suc (length xs) = omega arith in
    placed_more (place_leaves m r x) (r + 1) xs w ∙ ap (λ k. place_leaves (placed_from (place_leaves m r x) (r + 1) xs) k w) e

-- with nothing in flight a register below 16 takes the word
pub placed : (m : Meaning) (r w : ℕ) → m.flight ≡ [] → r < 16 → place_leaves m r w ≡ with_settled m (set m.settled r w)
placed m r w e l =
    let t : place_answer m r ≡ true = ap (λ es. is_empty es && ltb r 16) e ∙ lt-ltb r 16 l in
    ap (λ b. cond b (with_settled m (set m.settled r w)) m) t

-- and so do all of them, from r on
placed_onto : (ws : List ℕ) (m : Meaning) (r : ℕ) → m.flight ≡ [] → r + length ws ≡ 16 → length m.settled ≡ 16 → placed_from m r ws ≡ with_settled m (take r m.settled ++ ws)
placed_onto [] m r e n l =
    let t : take r m.settled ≡ m.settled = take_all r m.settled (omega arith) in
    sym (ap (with_settled m) (append-nil (take r m.settled) ∙ t))
placed_onto (w ∷ ws) m r e n l =
    let here = placed m r w e (omega arith) in
    let on = placed_onto ws (with_settled m (set m.settled r w)) (r + 1) e (omega arith) (length-set m.settled r w ∙ l) in
    ap (λ y. placed_from y (r + 1) ws) here ∙ (on ∙ ap (with_settled m) (ap (λ xs. xs ++ ws) (take_more_set m.settled r w (omega arith)) ∙ append_assoc (take r m.settled) (w ∷ []) ws))

pub placed_all : (m : Meaning) (ws : List ℕ) → m.flight ≡ [] → length m.settled ≡ 16 → length ws ≡ 16 → placed_from m 0 ws ≡ with_settled m ws
placed_all m ws e l n = placed_onto ws m 0 e (omega arith) l

-- a sound core that takes up a state holds it
module _ (m : Machine) (s : Snapshot) (h : Sound m) (off : m.running ≡ false) (n : length s.registers ≡ 16) where
  settled_all : placed_from m.pipe.scheme 0 s.registers ≡ with_settled m.pipe.scheme s.registers
  settled_all = placed_all m.pipe.scheme s.registers (h.idle off).0 h.registers n

  pub taken_holds : between (taken_up m s) ≡ s
  taken_holds = ap (λ (y : Meaning). record { registers = y.settled; counter = s.counter; cause = s.cause; count = s.count }) settled_all

  pub taken_sound : s.counter ≤ 65535 → s.count ≤ stretch → Sound (taken_up m s)
  taken_sound c k =
      let flight : (placed_from m.pipe.scheme 0 s.registers).flight ≡ [] = ap (λ (y : Meaning). y.flight) settled_all ∙ (h.idle off).0 in
      record {
        idle = λ _. (flight, (h.idle off).1);
        tied = subst (λ es. Tied es m.pipe.stages) (sym (ap (λ (y : Meaning). y.flight) settled_all)) h.tied;
        paced = λ on. let z = sym off ∙ on in let u : ◌≡◌ {A = ℕ} 0 1 = cc in absurd (omega arith);
        count = k;
        cycles = h.cycles;
        next = c;
        counters = subst Counters (sym (ap (λ (y : Meaning). y.flight) settled_all)) h.counters;
        cause = cause_below s.cause;
        registers = ap (λ (y : Meaning). length y.settled) settled_all ∙ n;
        stages = h.stages;
        delays = h.delays;
        program = h.program;
        words = h.words;
      }
