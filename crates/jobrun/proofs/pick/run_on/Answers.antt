use Rattle.std.proofs.Common.{◌≡◌, ◌-◌, ◌++◌, length, take, string_bytes, sym, refl, ap, ◌∙◌, subst, arith}
use Rattle.std.proofs.lemmas.Result.{IfOk-weaker}
use Rattle.pickcore.specs.Calls.{accepted, load_refusal, load_leaves, report_answer}
use Rattle.pickcore.specs.declared.setup.Setup.{Setup}
use Rattle.pickcore.specs.Core.{machine_of}
use Rattle.jobfile.specs.Held.{held, setup_of}
use Rattle.jobrun.specs.Runs.{PrintsBy, refused, last_line, cycle_lines}
use Rattle.jobrun.proofs.Picks.{with_lists, same_lists, declines, never_refused, shows, front_of}
use Rattle.jobrun.proofs.pick.run_on.Goals as goal

pub returns-in-Err : goal.returns-in-Err
returns-in-Err g c =
    let o = with_lists (held c.args.job) c.as_slice-program.result.now c.as_mut_slice-data.result.now in
    let same = same_lists (held c.args.job) c.as_slice-program.result.now c.as_mut_slice-data.result.now c.as_slice-program.ensures.value c.as_mut_slice-data.ensures.value in
    let fit = c.setup-setup.ensures ∙ ap setup_of (sym same) in
    IfOk-weaker c.to_string.result _ _
    (λ s e. subst (λ j. PrintsBy g.S.Recovery.MARK j (refused j) (string_bytes s)) same
    (declines o (machine_of g.S.Recovery.meaning c.new-core.result) c.in-Err.refusal g.S.Recovery.MARK (string_bytes s) c.new-core.ensures (c.in-Err.ensures.answer ∙ ap (λ (s : Setup). accepted (load_refusal (machine_of g.S.Recovery.meaning c.new-core.result) s.delays s.capacity s.program_length s.data_length)) fit) e))
    c.to_string.ensures.ok

pub unreachable-requires : goal.unreachable-requires
unreachable-requires g c =
    let same = same_lists (held c.args.job) c.as_slice-program.result.now c.as_mut_slice-data.result.now c.as_slice-program.ensures.value c.as_mut_slice-data.ensures.value in
    let fit = c.setup-setup.ensures ∙ ap setup_of (sym same) in
    never_refused (with_lists (held c.args.job) c.as_slice-program.result.now c.as_mut_slice-data.result.now)
    (machine_of g.S.Recovery.meaning c.new-core.result) (machine_of g.S.Recovery.meaning c.load-loaded.new.self) (machine_of g.S.Recovery.meaning c.resume.new.self)
    c.new-core.ensures (c.in_default.ensures.answer ∙ ap (λ (s : Setup). accepted (load_refusal (machine_of g.S.Recovery.meaning c.new-core.result) s.delays s.capacity s.program_length s.data_length)) fit) (c.load-loaded.ensures.leaves ∙ ap (λ (s : Setup). load_leaves (machine_of g.S.Recovery.meaning c.new-core.result) s.delays s.capacity s.program_length s.data_length) fit) c.resume.ensures.leaves
    g.S.Recovery.MARK c.as_mut_slice.result.now c.run.new.records (machine_of g.S.Recovery.meaning c.run.new.self) c.run.new.data
    c.in_default-run.field-0 c.in_default-run.ensures.runs

pub returns : goal.returns
returns g c =
    let o = with_lists (held c.args.job) c.as_slice-program.result.now c.as_mut_slice-data.result.now in
    let same = same_lists (held c.args.job) c.as_slice-program.result.now c.as_mut_slice-data.result.now c.as_slice-program.ensures.value c.as_mut_slice-data.ensures.value in
    let fit = c.setup-setup.ensures ∙ ap setup_of (sym same) in
    let n : c.in_ok-records.records.len ≡ length c.run.new.records = omega (arith, c.run.auto.records, c.as_mut_slice.ensures.len) in
    subst (λ j. PrintsBy g.S.Recovery.MARK j (refused j) (string_bytes c.push_last.new.text)) same
    (shows o (machine_of g.S.Recovery.meaning c.new-core.result) (machine_of g.S.Recovery.meaning c.load-loaded.new.self) (machine_of g.S.Recovery.meaning c.resume.new.self)
    c.new-core.ensures (c.in_default.ensures.answer ∙ ap (λ (s : Setup). accepted (load_refusal (machine_of g.S.Recovery.meaning c.new-core.result) s.delays s.capacity s.program_length s.data_length)) fit) (c.load-loaded.ensures.leaves ∙ ap (λ (s : Setup). load_leaves (machine_of g.S.Recovery.meaning c.new-core.result) s.delays s.capacity s.program_length s.data_length) fit) c.resume.ensures.leaves
    g.S.Recovery.MARK c.as_mut_slice.result.now c.run.new.records (machine_of g.S.Recovery.meaning c.run.new.self) c.run.new.data
    c.in-Ok.done (string_bytes c.push_last.new.text) c.in-Ok.ensures.runs (c.as_mut_slice.ensures.len ∙ c.in_ok-records.ensures.len)
    (c.in_ok-push_last.ensures refl
    ∙ (ap (λ r. string_bytes c.push_cycles.new.text ++ last_line r) c.report.ensures
    ∙ ap (λ x. x ++ last_line (report_answer (machine_of g.S.Recovery.meaning c.run.new.self)))
    (c.in_ok-push_cycles.ensures refl
    ∙ (ap (λ x. x ++ cycle_lines (take (c.in-Ok.done - 0) c.deref.result.now)) c.new-text.ensures.bytes
    ∙ ap cycle_lines (front_of c.deref.result.now c.run.new.records _ c.in_ok-records.records.len c.in-Ok.done c.deref.ensures.value n))))))
