use Rattle.std.proofs.Common.{sym, ap, ◌∙◌}
use Rattle.std.proofs.lemmas.Result.{IfOk-weaker}
use Rattle.pickcore.specs.Calls.{accepted, load_refusal, unloaded}
use Rattle.pickcore.specs.declared.setup.Setup.{Setup}
use Rattle.jobfile.specs.Held.{held}
use Rattle.jobrun.specs.Runs.{plain_by}
use Rattle.jobrun.proofs.Picks.{turned_down}
use Rattle.jobrun.proofs.plain.plain_job.Goals as goal

pub returns-in-Err : goal.returns-in-Err
returns-in-Err c =
    let a = c.in-Err.ensures.answer
    ∙ (ap (λ m. accepted (load_refusal m c.setup-setup.result.delays c.setup-setup.result.capacity c.setup-setup.result.program_length c.setup-setup.result.data_length)) c.new-core.ensures
    ∙ ap (λ (s : Setup). accepted (load_refusal unloaded s.delays s.capacity s.program_length s.data_length)) c.setup-setup.ensures) in
    IfOk-weaker c.to_string.result _ _ (λ s e. e ∙ sym (ap (plain_by (held c.args.job)) (turned_down (held c.args.job) c.in-Err.refusal a))) c.to_string.ensures.ok
