use Rattle.std.proofs.Common.{◌≡◌, ◌++◌, sym, subst, OnOk, string_bytes}
use Rattle.wait_reasons.specs.declared.reasons.Reason.{Reason}
use Rattle.wait_reasons.specs.Texts.{reason_text}
use Rattle.wait_reasons.proofs.printed.push_reason.Goals as goal

pub returns-in-ReservationGone : goal.returns-in-ReservationGone
unfolding reason_text
returns-in-ReservationGone c =
    subst (λ (r : Reason). OnOk c.push_one-in-ReservationGone.result (string_bytes c.push_one-in-ReservationGone.new.out ≡ string_bytes c.args.out.now ++ reason_text c.args.queues.now r))
    (sym c.in-ReservationGone.is) c.push_one-in-ReservationGone.ensures
