use Rattle.std.proofs.Common.{false, sym, ap, ◌∙◌}
use Rattle.drmaa_types.specs.Refusals.{refused_or}
use Rattle.job_template.specs.JobTests.{command_tests, limit_tests, path_tests, slot_tests}
use Rattle.job_template.specs.Unsupported.{other_tests}
use Rattle.job_template.proofs.Groups.{refused_1, refused_2, refused_3, refused_4, left_to_5}
use Rattle.job_template.proofs.jobs.validate_job.Goals as goal

pub returns-in-Some : goal.returns-in-Some
returns-in-Some c =
    let t = c.args.t.now in
    sym (refused_1 (command_tests t) (path_tests c.args.queues.now t) (slot_tests c.args.slots c.args.queues.now c.args.now t) (limit_tests false t.resource_limits) (other_tests t.others) tt c.in-Some.refusal
    (sym c.wrong_command.ensures ∙ c.in-Some.is))

pub returns-in-Some-wrong_path : goal.returns-in-Some-wrong_path
returns-in-Some-wrong_path c =
    let t = c.args.t.now in
    sym (refused_2 (command_tests t) (path_tests c.args.queues.now t) (slot_tests c.args.slots c.args.queues.now c.args.now t) (limit_tests false t.resource_limits) (other_tests t.others) tt c.in-Some-wrong_path.refusal
    (sym c.wrong_command.ensures ∙ c.in_default.is) (sym c.wrong_path.ensures ∙ c.in-Some-wrong_path.is))

pub returns-in-Some-wrong_slots : goal.returns-in-Some-wrong_slots
returns-in-Some-wrong_slots c =
    let t = c.args.t.now in
    sym (refused_3 (command_tests t) (path_tests c.args.queues.now t) (slot_tests c.args.slots c.args.queues.now c.args.now t) (limit_tests false t.resource_limits) (other_tests t.others) tt c.in-Some-wrong_slots.refusal
    (sym c.wrong_command.ensures ∙ c.in_default.is) (sym c.wrong_path.ensures ∙ c.in_default-wrong_path.is) (sym c.wrong_slots.ensures ∙ c.in-Some-wrong_slots.is))

pub returns-in-Some-wrong_limit : goal.returns-in-Some-wrong_limit
returns-in-Some-wrong_limit c =
    let t = c.args.t.now in
    sym (refused_4 (command_tests t) (path_tests c.args.queues.now t) (slot_tests c.args.slots c.args.queues.now c.args.now t) (limit_tests false t.resource_limits) (other_tests t.others) tt c.in-Some-wrong_limit.refusal
    (sym c.wrong_command.ensures ∙ c.in_default.is) (sym c.wrong_path.ensures ∙ c.in_default-wrong_path.is) (sym c.wrong_slots.ensures ∙ c.in_default-wrong_slots.is) (sym c.wrong_limit.ensures ∙ c.in-Some-wrong_limit.is))

pub returns-in-Some-unsupported : goal.returns-in-Some-unsupported
returns-in-Some-unsupported c =
    let t = c.args.t.now in
    sym (left_to_5 (command_tests t) (path_tests c.args.queues.now t) (slot_tests c.args.slots c.args.queues.now c.args.now t) (limit_tests false t.resource_limits) (other_tests t.others) tt
    (sym c.wrong_command.ensures ∙ c.in_default.is) (sym c.wrong_path.ensures ∙ c.in_default-wrong_path.is) (sym c.wrong_slots.ensures ∙ c.in_default-wrong_slots.is) (sym c.wrong_limit.ensures ∙ c.in_default-wrong_limit.is)
    ∙ ap (λ o. refused_or o tt) (sym c.unsupported.ensures ∙ c.in-Some-unsupported.is))

pub returns-in-None : goal.returns-in-None
returns-in-None c =
    let t = c.args.t.now in
    sym (left_to_5 (command_tests t) (path_tests c.args.queues.now t) (slot_tests c.args.slots c.args.queues.now c.args.now t) (limit_tests false t.resource_limits) (other_tests t.others) tt
    (sym c.wrong_command.ensures ∙ c.in_default.is) (sym c.wrong_path.ensures ∙ c.in_default-wrong_path.is) (sym c.wrong_slots.ensures ∙ c.in_default-wrong_slots.is) (sym c.wrong_limit.ensures ∙ c.in_default-wrong_limit.is)
    ∙ ap (λ o. refused_or o tt) (sym c.unsupported.ensures ∙ c.in-None.is))
