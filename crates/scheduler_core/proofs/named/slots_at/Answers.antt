use Rattle.std.proofs.Common.{filter, sym, ◌∙◌, ap}
use Rattle.std.specs.Prelude.{max}
use Rattle.std.specs.Option.{option_map}
use Rattle.drmaa_model.specs.declared.reservations.Accepted.{Accepted}
use Rattle.drmaa_model.specs.Load.{reservation_of}
use Rattle.drmaa_model.specs.Time.{lasts}
use Rattle.scheduler_core.proofs.LastingLaws.{lasting-same, not-found}
use Rattle.scheduler_core.proofs.named.slots_at.Goals as goal

pub returns-then-not-is_accepted_at : goal.returns-then-not-is_accepted_at
returns-then-not-is_accepted_at c =
    let rs = filter (lasts (max c.args.book.now.moment c.args.at)) c.args.book.now.reservations.items in
    sym (ap (option_map (λ (a : Accepted). a.slots)) (not-found (reservation_of c.args.number rs) (sym (c.if-not-is_accepted_at.ensures {u = tt}))))

pub returns-in-Some : goal.returns-in-Some
returns-in-Some c =
    let m = max c.args.book.now.moment c.args.at in
    let rs = c.args.book.now.reservations.items in
    ap (option_map (λ (a : Accepted). a.slots))
    (c.in-Some.ensures {u = tt} ∙ lasting-same m c.args.number rs c.requires.book.fit.accepted.rising (sym (c.if-not-is_accepted_at.ensures {u = tt})))

pub returns-in-None : goal.returns-in-None
returns-in-None c =
    let m = max c.args.book.now.moment c.args.at in
    let rs = c.args.book.now.reservations.items in
    ap (option_map (λ (a : Accepted). a.slots))
    (c.in-None.ensures {u = tt} ∙ lasting-same m c.args.number rs c.requires.book.fit.accepted.rising (sym (c.if-not-is_accepted_at.ensures {u = tt})))
