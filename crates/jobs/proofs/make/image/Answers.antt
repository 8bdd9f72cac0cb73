use Rattle.std.proofs.Common.{◌≡◌, ℕ, Bool, true, false, cond, List, replicate, Ok, Err, Result, ap, ◌∙◌, append-nil, arith}
use Rattle.isa.specs.declared.refusal.Refusal.{Refusal}
use Rattle.isa.specs.declared.refusal.Refusal.TheVariants as refusal
use Rattle.images.specs.Image.{Snapshot, image_words, write_answer, write_leaves}
use Rattle.pickcore.specs.Calls.{imaged}
use Rattle.pickcore.specs.Core.{machine_of}
use Rattle.jobs.proofs.make.image.Goals as goal

into_zeros : (b : Bool) (s : Snapshot) (u : Unit {0}) → ◌≡◌ {A = Result (Unit {0}) Refusal} (Ok u) (cond b (Err refusal.Running) (write_answer (replicate 36 0)))
    → ◌≡◌ {A = Result (List ℕ) Refusal} (Ok (cond b (replicate 36 0) (write_leaves s (replicate 36 0)))) (cond b (Err refusal.Running) (Ok (image_words s)))
into_zeros true s u e = let z : ◌≡◌ {A = ℕ} 0 1 = cc in absurd (omega arith)
into_zeros false s u e = ap Ok (append-nil (image_words s))

pub returns : goal.returns
returns g c =
    let m = machine_of g.S.Recovery.meaning c.args.core.now in
    record {
      value = ap Ok c.write_image.ensures.leaves ∙ into_zeros m.running (imaged g.S.Recovery.MARK m) tt c.in_ok-write_image.ensures.answer;
      reads = c.in_ok-write_image.ensures.reads;
    }
