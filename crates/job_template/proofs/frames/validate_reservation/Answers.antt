use Rattle.std.proofs.Common.{sym, ap, ◌∙◌}
use Rattle.drmaa_types.specs.Refusals.{first_refusal}
use Rattle.drmaa_types.specs.declared.refusals.Refusal.TheVariants.{InvalidArgument}
use Rattle.drmaa_types.specs.declared.refusals.Which.TheVariants.{Duration}
use Rattle.job_template.specs.declared.templates.Frame.{Frame}
use Rattle.job_template.specs.Frames.{frame_of, length_tests, name_tests, slot_tests, start_tests}
use Rattle.job_template.specs.Unsupported.{other_tests}
use Rattle.job_template.proofs.Groups.{refused_2, refused_3}
use Rattle.job_template.proofs.frames.validate_reservation.Goals as goal

pub returns-in-Some-wrong_start : goal.returns-in-Some-wrong_start
returns-in-Some-wrong_start c =
    let t = c.args.t.now in
    let f = frame_of c.args.now t in
    sym (refused_2 (name_tests t) (start_tests c.args.now t f) (length_tests t f) (slot_tests f.min f.max) (other_tests t.others) f c.in-Some-wrong_start.refusal
    (sym c.wrong_name.ensures ∙ c.in_default.is) (sym c.wrong_start.ensures ∙ c.in-Some-wrong_start.is))

pub returns-in_default-frame : goal.returns-in_default-frame
returns-in_default-frame c =
    let t = c.args.t.now in
    let f = frame_of c.args.now t in
    sym (refused_3 (name_tests t) (start_tests c.args.now t f) (length_tests t f) (slot_tests f.min f.max) (other_tests t.others) f (InvalidArgument Duration)
    (sym c.wrong_name.ensures ∙ c.in_default.is) (sym c.wrong_start.ensures ∙ c.in_default-wrong_start.is) c.in_default-frame.ensures.late)

pub returns-in-Some-wrong_length : goal.returns-in-Some-wrong_length
returns-in-Some-wrong_length c =
    let t = c.args.t.now in
    let f = frame_of c.args.now t in
    sym (refused_3 (name_tests t) (start_tests c.args.now t f) (length_tests t f) (slot_tests f.min f.max) (other_tests t.others) f c.in-Some-wrong_length.refusal
    (sym c.wrong_name.ensures ∙ c.in_default.is) (sym c.wrong_start.ensures ∙ c.in_default-wrong_start.is)
    (ap (λ (g : Frame). first_refusal (length_tests t g)) (sym c.in-Some-frame.ensures.frame.1) ∙ (sym c.wrong_length.ensures ∙ c.in-Some-wrong_length.is)))
