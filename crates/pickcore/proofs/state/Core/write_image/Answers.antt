use Rattle.std.proofs.Common.{◌≡◌, ℕ, cond, List, replicate, Ok, Err, refl, sym, ap, ◌∙◌, subst}
use Rattle.std.proofs.lemmas.Bool.{le-leb}
use Rattle.isa.specs.declared.refusal.Refusal.TheVariants as refusal
use Rattle.images.specs.Image.{Snapshot, image_words, read_words, write_answer, write_leaves}
use Rattle.pickcore.specs.Calls.{looked, count_of_image}
use Rattle.pickcore.proofs.state.Core.write_image.Goals as goal

pub returns : goal.returns
returns g c =
    let core = c.args.self.now in
    let k = g.S.Recovery.MARK in
    let before = c.args.buffer.now in
    let few : core.pipe.count ≡ count_of_image core.pipe.count = sym (ap (λ b. cond b core.pipe.count 1000000) (le-leb core.pipe.count 1000000 core.sound.count)) in
    let written : (xs : List ℕ) (n : ℕ) → c.registers.result.0 ≡ xs → core.pipe.count ≡ n → c.write_image.new.buffer ≡ write_leaves (record { registers = xs; counter = core.pipe.next; cause = core.cause; count = n }) before =
    λ xs n e f. c.write_image.ensures.leaves ∙ (ap (λ ys. write_leaves (record { registers = ys; counter = core.pipe.next; cause = core.cause; count = core.pipe.count }) before) e ∙ ap (λ v. write_leaves (record { registers = xs; counter = core.pipe.next; cause = core.cause; count = v }) before) f) in
    let seen : c.registers.result.0 ≡ looked k (g.S.Recovery.meaning core.pipe.scheme) =
    ap (λ (r : List ℕ × ℕ). r.0) c.registers.ensures.value ∙ ap (λ b. (cond {A = List ℕ × ℕ} b (replicate 16 0, 6) (looked k (g.S.Recovery.meaning core.pipe.scheme), 0)).0) c.if-self.false in
    record {
      answer = c.write_image.ensures.answer ∙ sym (ap (λ b. cond b (Err refusal.Running) (write_answer before)) c.if-self.false);
      leaves = written (looked k (g.S.Recovery.meaning core.pipe.scheme)) (count_of_image core.pipe.count) seen few ∙ sym (ap (λ b. cond b before (write_leaves (record { registers = looked k (g.S.Recovery.meaning core.pipe.scheme); counter = core.pipe.next; cause = core.cause; count = count_of_image core.pipe.count }) before)) c.if-self.false);
      settled = λ off. written (g.S.Recovery.meaning core.pipe.scheme).settled core.pipe.count (ap (λ (r : List ℕ × ℕ). r.0) (c.registers.ensures.settled off)) refl;
      reads = λ ok.
          let state : List ℕ → ℕ → Snapshot = λ xs n. record { registers = xs; counter = core.pipe.next; cause = core.cause; count = n } in
          subst (λ (s : Snapshot). read_words (image_words s) ≡ Ok s) (ap (λ xs. state xs core.pipe.count) seen ∙ ap (state (looked k (g.S.Recovery.meaning core.pipe.scheme))) few) (c.write_image.ensures.reads ok);
    }
