use Rattle.std.proofs.Common.{◌≡◌, ◌∙◌, ap, ℕ, ◌+◌, arith, unwrap_or, Result, Option, None, Some, sym, subst, refl, [], append-nil}
use Rattle.std.specs.Prelude.{IsOk, Err}
use Rattle.std.specs.Result.{result_ok}
use Rattle.drmaa_types.specs.declared.refusals.Refusal.{Refusal}
use Rattle.attendant.specs.PairLaws.{post-itself}
use Rattle.attendant.proofs.Desks.{still-both}
use Rattle.attendant.proofs.Ends.{polling_on}
use Rattle.attendant.proofs.Places.{order_none, places_on, count_on, count_same, kept_some, first_some, places_as, polls_all, loses_later, loses_early, each_none, each_on}
use Rattle.attendant.proofs.reaping.poll_all.Goals as goal
use Rattle.attendant.proofs.reaping.poll_all.Goals.{in-Ok, in-Err}

first_is_some : (o : Option Refusal) (why : Refusal) → o ≡ None → o ≡ Some why → ⊥
first_is_some o why none some = cc

pub loop-key-preserved : goal.loop-key-preserved
loop-key-preserved g c =
    let i = c.loop-key.invariant in
    let e = c.poll_at.ensures in
    record {
      desk = still-both _ _ _ i.desk e.desk;
      polling = polling_on g.T.Child.told _ _ _ _ _ _ _ _ _ i.polling e.polling;
      count = i.count + unwrap_or (result_ok c.poll_at.result) 0;
      places = places_on g.T.Child.told g.T.Child.faults 0 c.loop-key.key (c.loop-key.key + 1) _ _ _ _ _ _ _ _ _ i.count _ (c.loop-key.refused ≡ None) (IsOk c.poll_at.result) (c.match-poll_at.refused ≡ None) (omega arith) (omega arith)
          (λ none. elim c.match-poll_at.branch [ in-Ok w ↦ sym w.refused-is ∙ none | in-Err w ↦ absurd (first_is_some _ _ (sym w.refused-is ∙ none) w.first_of-refused.ensures) ])
          (λ none. elim c.match-poll_at.branch [ in-Ok w ↦ subst IsOk (sym w.in-Ok.is) refl | in-Err w ↦ absurd (first_is_some _ _ (sym w.refused-is ∙ none) w.first_of-refused.ensures) ])
          i.places e.place;
      lost = elim c.match-poll_at.branch [
        | in-Ok w ↦ kept_some c.loop-key.refused c.match-poll_at.refused _ _ w.refused-is
            (λ why l. (loses_later g.T.Child.told g.T.Child.faults 0 c.loop-key.key (c.loop-key.key + 1) _ _ _ _ _ _ _ _ _ i.count _ _ _ why e.desk i.places e.place l).0) i.lost
        | in-Err w ↦ first_some c.loop-key.refused c.match-poll_at.refused w.in-Err.why _ _ (w.refused-is ∙ w.first_of-refused.ensures)
            (λ why l. (loses_later g.T.Child.told g.T.Child.faults 0 c.loop-key.key (c.loop-key.key + 1) _ _ _ _ _ _ _ _ _ i.count _ _ _ why e.desk i.places e.place l).0) i.lost
            (loses_early g.T.Child.told g.T.Child.faults 0 c.loop-key.key (c.loop-key.key + 1) _ _ _ _ _ _ _ _ _ i.count _ _ _ w.in-Err.why i.desk i.places e.place w.in-Err.ensures.lost).0
      ];
      counted = elim c.match-poll_at.branch [
        | in-Ok w ↦ count_on _ _ _ i.count w.in-Ok.count _ 4294967295 w.reports-is w.saturating_add-reports.ensures i.counted (ap (λ (r : Result ℕ Refusal). unwrap_or (result_ok r) 0) w.in-Ok.is)
        | in-Err w ↦ count_same _ _ i.count _ 4294967295 w.reports-is i.counted (ap (λ (r : Result ℕ Refusal). unwrap_or (result_ok r) 0) w.in-Err.is)
      ];
      all = each_on g.T.Child.told g.T.Child.faults 0 c.loop-key.key _ _ _ _ _ _ _ _ _ i.count _ _ c.poll_at.result i.desk e.desk i.places e.place i.all e.lost;
    }

pub loop-key-init : goal.loop-key-init
loop-key-init g c = record {
  desk = post-itself _ c.requires;
  polling = record {
    keeping = record { keeps = λ launcher asked fate k. k };
    unanswered = λ u. u;
    agrees = λ launcher asked fate u k a. a;
  };
  count = 0;
  places = record {
    polled = λ k low high. absurd (omega (arith, high));
    before = λ k low. refl;
    after = λ k high. refl;
    added = [];
    mine_is = sym (append-nil _);
    ends = tt;
    counted = refl;
    order = order_none _ _;
    whole = λ clean k h there gone. absurd (cc);
  };
  lost = tt;
  counted = refl;
  all = each_none g.T.Child.told g.T.Child.faults _ _;
}

pub returns-in-Some-clause-places : goal.returns-in-Some-clause-places
returns-in-Some-clause-places g c =
    let i = c.loop-key.invariant in
    polls_all g.T.Child.told g.T.Child.faults c.loop-key.key _ _ c.args.reaper.now.children c.loop-key.reaper.children _ _ i.count (Err c.in-Some.why)
    (omega (arith, c.capacity-key-end.ensures.slots, c.loop-key-test.false))
    (places_as g.T.Child.told g.T.Child.faults 0 c.loop-key.key _ _ _ _ _ _ i.count (c.loop-key.refused ≡ None) (IsOk {T = ℕ} {E = Refusal} (Err c.in-Some.why)) (λ clean. absurd (cc)) i.places)
    tt (rw c.in-Some.is at i.lost) i.all
