use Rattle.std.proofs.Common.{◌++◌, ◌∷◌, [], List, sym, subst}
use Rattle.std.specs.List.{AllByRecursion}
use Rattle.drmaa_types.specs.declared.moments.End.{End}
use Rattle.drmaa_types.specs.declared.moments.End.TheVariants.{At}
use Rattle.drmaa_model.specs.declared.reservations.Accepted.{Accepted}
use Rattle.plan_book.specs.Book.{plan_of}
use Rattle.plan_book.specs.Quiet.{IsAlarmed, LastsUntil, IsQuiet}
use Rattle.plan_book.proofs.AlarmLaws.{alarmed-accepted, lasts-accepted}
use Rattle.plan_book.proofs.BlockLaws.{lasting-quiet}
use Rattle.plan_book.proofs.book.Book.put_reservation.Goals as goal

pub returns-clause-quiet : goal.returns-clause-quiet
returns-clause-quiet c =
    let s = c.args.self.now in
    let x = c.args.accepted in
    let rs = s.reservations.items in
    let alarm = c.lower_lasting.new.self in
    let quiet : IsQuiet alarm (plan_of s) = lasting-quiet s.alarm alarm (At x.until) (plan_of s) c.lower_lasting.ensures.ends c.lower_lasting.ensures.lasting c.lower_lasting.ensures.soonest c.requires.quiet in
    record {
      rows = subst (λ (all : List Accepted). AllByRecursion (IsAlarmed alarm.ends.items all) s.rows.items) (sym c.push_reserved.ensures.items)
          (alarmed-accepted alarm.ends.items x rs s.rows.items quiet.rows);
      reservations = subst (AllByRecursion (LastsUntil alarm.lasting)) (sym c.push_reserved.ensures.items)
          (subst (λ (e : End). AllByRecursion (LastsUntil e) (rs ++ x ∷ [])) (sym c.lower_lasting.ensures.lasting) (lasts-accepted s.alarm.lasting x rs c.requires.quiet.reservations));
      soonest = quiet.soonest;
      few = quiet.few;
    }
