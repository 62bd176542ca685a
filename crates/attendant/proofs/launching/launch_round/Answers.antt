use Rattle.std.proofs.Common.{inl, inr, ◌∙◌, sym, ap, subst, refl, ℕ, true, false, List, [], ◌∷◌, ◌++◌, Option, Some, append-nil}
use Rattle.std.specs.Prelude.{IfSome}
use Rattle.drmaa_model.specs.declared.calls.Call.TheVariants as call
use Rattle.drmaa_model.specs.declared.replies.Launch.{Launch}
use Rattle.drmaa_model.specs.declared.replies.Reply.TheVariants as reply
use Rattle.call_history.specs.Clients.{number_of}
use Rattle.attendant.specs.Acts.{Act, TakeLaunch, own_acts}
use Rattle.attendant.specs.Posts.{post, Succeeds}
use Rattle.attendant.specs.Steps.{entry_of, reports_of, Takes, not_taken}
use Rattle.attendant.specs.PairLaws.{post-itself}
use Rattle.attendant.proofs.Desks.{still-both, fails-last}
use Rattle.attendant.proofs.Entries.{reserved_get, reserved_updates}
use Rattle.attendant.proofs.launching.launch_round.Goals as goal

pub returns-then-is_err-clause-desk : goal.returns-then-is_err-clause-desk
returns-then-is_err-clause-desk g c = post-itself _ c.requires

pub returns-in-Err-clause-steps : goal.returns-in-Err-clause-steps
returns-in-Err-clause-steps g c =
    let e = c.in-Err.ensures.err in
    inl (record { mine_is = e.0; asked_is = refl; fate_is = refl; same = λ k. reserved_get c.args.reaper.now.children c.reserve.new.self c.reserve.ensures.rest_kept k }, not_taken e.1 e.2 e.3 e.4)

pub returns-then-not-made-clause-desk : goal.returns-then-not-made-clause-desk
returns-then-not-made-clause-desk g c = still-both _ _ _ c.take_launch.ensures.desk c.report_start-made.ensures.desk

pub returns-in-Ok-start-clause-desk : goal.returns-in-Ok-start-clause-desk
returns-in-Ok-start-clause-desk g c = still-both _ _ _ c.take_launch.ensures.desk c.report_start-made.ensures.desk

pub returns-then-not-report_start-clause-desk : goal.returns-then-not-report_start-clause-desk
returns-then-not-report_start-clause-desk g c = still-both _ _ _ c.take_launch.ensures.desk c.report_start.ensures.desk

pub returns-clause-desk : goal.returns-clause-desk
returns-clause-desk g c = still-both _ _ _ c.take_launch.ensures.desk c.report_start.ensures.desk

pub returns-then-not-made-clause-steps : goal.returns-then-not-made-clause-steps
returns-then-not-made-clause-steps g c =
    let taken : Takes (number_of c.args.desk.now.client) (own_acts c.args.desk.now.client) (own_acts c.take_launch.new.desk.client) c.in-Some.launch =
    subst (λ (o : Option Launch). IfSome o (Takes (number_of c.args.desk.now.client) (own_acts c.args.desk.now.client) (own_acts c.take_launch.new.desk.client))) c.in-Some.is c.in-Ok.ensures.taken in
    let served = subst (λ (o : Option Launch). IfSome o (λ l. Succeeds (post g.C.Clock.given g.C.Clock.least c.args.desk.now) call.TakeLaunch (reply.Launch l) (post g.C.Clock.given g.C.Clock.least c.take_launch.new.desk))) c.in-Some.is c.in-Ok.ensures.served in
    let w = c.if-not-made.ensures.cause refl in
    inr (
      record {
        launch = c.in-Some.launch;
        began = true;
        made = record {
          is_new = taken.is_new;
          mine_is = c.if-not-made.ensures.made ∙ taken.mine_is ∙ sym (append-nil _);
          asked_is = rw c.get.ensures at c.in-Ok-start.ensures.asked;
          fate_is = c.in-Ok-start.ensures.fates;
          puts = record {
            child = c.in-Ok-start.child;
            put = record { key = c.put.ensures.key; was_empty = sym (reserved_get c.args.reaper.now.children c.reserve.new.self c.reserve.ensures.rest_kept c.put.ensures.key) ∙ c.put.ensures.was_empty; updates = reserved_updates c.args.reaper.now.children c.reserve.new.self c.put.new.children c.put.ensures.key _ c.reserve.ensures.rest_kept c.put.ensures.updates };
            tells = c.in-Ok-start.ensures.child;
          };
        };
        fault = w.0;
        fails = fails-last _ (post g.C.Clock.given g.C.Clock.least c.take_launch.new.desk) _ _ _ c.take_launch.ensures.desk c.report_start-made.ensures.desk w.1;
        taken = taken.mine_is;
        last = refl;
        takes = served;
      },
      refl,
    )

pub returns-then-not-report_start-clause-steps : goal.returns-then-not-report_start-clause-steps
returns-then-not-report_start-clause-steps g c =
    let taken : Takes (number_of c.args.desk.now.client) (own_acts c.args.desk.now.client) (own_acts c.take_launch.new.desk.client) c.in-Some.launch =
    subst (λ (o : Option Launch). IfSome o (Takes (number_of c.args.desk.now.client) (own_acts c.args.desk.now.client) (own_acts c.take_launch.new.desk.client))) c.in-Some.is c.in-Ok.ensures.taken in
    let served = subst (λ (o : Option Launch). IfSome o (λ l. Succeeds (post g.C.Clock.given g.C.Clock.least c.args.desk.now) call.TakeLaunch (reply.Launch l) (post g.C.Clock.given g.C.Clock.least c.take_launch.new.desk))) c.in-Some.is c.in-Ok.ensures.served in
    let w = c.if-not-report_start.ensures.cause refl in
    inr (
      record {
        launch = c.in-Some.launch;
        began = false;
        made = record {
          is_new = taken.is_new;
          mine_is = c.if-not-report_start.ensures.made ∙ taken.mine_is ∙ sym (append-nil _);
          asked_is = rw c.get.ensures at c.in-Err-start.ensures.asked;
          fate_is = c.in-Err-start.ensures.fates;
          puts = λ k. reserved_get c.args.reaper.now.children c.reserve.new.self c.reserve.ensures.rest_kept k;
        };
        fault = w.0;
        fails = fails-last _ (post g.C.Clock.given g.C.Clock.least c.take_launch.new.desk) _ _ _ c.take_launch.ensures.desk c.report_start.ensures.desk w.1;
        taken = taken.mine_is;
        last = refl;
        takes = served;
      },
      refl,
    )

pub returns-in-Ok-start-clause-steps : goal.returns-in-Ok-start-clause-steps
returns-in-Ok-start-clause-steps g c =
    let taken : Takes (number_of c.args.desk.now.client) (own_acts c.args.desk.now.client) (own_acts c.take_launch.new.desk.client) c.in-Some.launch =
    subst (λ (o : Option Launch). IfSome o (Takes (number_of c.args.desk.now.client) (own_acts c.args.desk.now.client) (own_acts c.take_launch.new.desk.client))) c.in-Some.is c.in-Ok.ensures.taken in
    let served = subst (λ (o : Option Launch). IfSome o (λ l. Succeeds (post g.C.Clock.given g.C.Clock.least c.args.desk.now) call.TakeLaunch (reply.Launch l) (post g.C.Clock.given g.C.Clock.least c.take_launch.new.desk))) c.in-Some.is c.in-Ok.ensures.served in
    let w = c.if-not-made.ensures.made in
    record {
      launch = c.in-Some.launch;
      of_job = refl;
      reply = w.0;
      made = record {
        is_new = taken.is_new;
        mine_is = w.1 ∙ ap (λ (l : List Act). l ++ reports_of (number_of c.take_launch.new.desk.client) true c.in-Some.launch (Some w.0)) taken.mine_is
            ∙ ap (λ (n : ℕ). (own_acts c.args.desk.now.client ++ entry_of (number_of c.args.desk.now.client) TakeLaunch (reply.Launch c.in-Some.launch) ∷ []) ++ reports_of n true c.in-Some.launch (Some w.0)) c.take_launch.ensures.desk.number;
        asked_is = rw c.get.ensures at c.in-Ok-start.ensures.asked;
        fate_is = c.in-Ok-start.ensures.fates;
        puts = record {
          child = c.in-Ok-start.child;
          put = record { key = c.put.ensures.key; was_empty = sym (reserved_get c.args.reaper.now.children c.reserve.new.self c.reserve.ensures.rest_kept c.put.ensures.key) ∙ c.put.ensures.was_empty; updates = reserved_updates c.args.reaper.now.children c.reserve.new.self c.put.new.children c.put.ensures.key _ c.reserve.ensures.rest_kept c.put.ensures.updates };
          tells = c.in-Ok-start.ensures.child;
        };
      };
      taken = post g.C.Clock.given g.C.Clock.least c.take_launch.new.desk;
      takes = served;
      reports = w.2;
    }

pub returns-clause-steps : goal.returns-clause-steps
returns-clause-steps g c =
    let taken : Takes (number_of c.args.desk.now.client) (own_acts c.args.desk.now.client) (own_acts c.take_launch.new.desk.client) c.in-Some.launch =
    subst (λ (o : Option Launch). IfSome o (Takes (number_of c.args.desk.now.client) (own_acts c.args.desk.now.client) (own_acts c.take_launch.new.desk.client))) c.in-Some.is c.in-Ok.ensures.taken in
    let served = subst (λ (o : Option Launch). IfSome o (λ l. Succeeds (post g.C.Clock.given g.C.Clock.least c.args.desk.now) call.TakeLaunch (reply.Launch l) (post g.C.Clock.given g.C.Clock.least c.take_launch.new.desk))) c.in-Some.is c.in-Ok.ensures.served in
    let w = c.if-not-report_start.ensures.made in
    record {
      launch = c.in-Some.launch;
      of_job = refl;
      reply = w.0;
      made = record {
        is_new = taken.is_new;
        mine_is = w.1 ∙ ap (λ (l : List Act). l ++ reports_of (number_of c.take_launch.new.desk.client) false c.in-Some.launch (Some w.0)) taken.mine_is
            ∙ ap (λ (n : ℕ). (own_acts c.args.desk.now.client ++ entry_of (number_of c.args.desk.now.client) TakeLaunch (reply.Launch c.in-Some.launch) ∷ []) ++ reports_of n false c.in-Some.launch (Some w.0)) c.take_launch.ensures.desk.number;
        asked_is = rw c.get.ensures at c.in-Err-start.ensures.asked;
        fate_is = c.in-Err-start.ensures.fates;
        puts = λ k. reserved_get c.args.reaper.now.children c.reserve.new.self c.reserve.ensures.rest_kept k;
      };
      taken = post g.C.Clock.given g.C.Clock.least c.take_launch.new.desk;
      takes = served;
      reports = w.2;
    }
