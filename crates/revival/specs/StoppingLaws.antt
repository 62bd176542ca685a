-- The ends of the started jobs of a world, one after another, over what was served.
use Rattle.std.proofs.Common.{◌≡◌, ℕ, zero, suc, ◌+◌, ◌<◌, ◌≤◌, ◌^◌, Bool, true, false, cond, leb, not, ◌&&◌, List, [], ◌∷◌, ◌++◌, map, filter, length, Option, Some, None, refl, sym, ◌∙◌, ap, subst, arith, append-nil, append_assoc}
use Rattle.std.specs.List.{AllByRecursion}
use Rattle.std.specs.Prelude.{Result, Ok, Err, IfOk, IsOk}
use Rattle.std.specs.Option.{option_map, option_map_or}
use Rattle.std.proofs.lemmas.Bool.{and_parts, leb-true, false≢true}
use Rattle.drmaa_types.specs.States.{is_started, rerun_code}
use Rattle.drmaa_types.specs.declared.identifiers.JobId.{JobId}
use Rattle.drmaa_types.specs.declared.states.Exit.TheVariants.{Code}
use Rattle.drmaa_model.specs.declared.calls.Call.{Call}
use Rattle.drmaa_model.specs.declared.calls.Call.TheVariants as call
use Rattle.drmaa_model.specs.declared.configs.Config.{Config}
use Rattle.drmaa_model.specs.declared.courses.Kill.{Kill}
use Rattle.drmaa_model.specs.declared.courses.Kill.TheVariants as kill
use Rattle.drmaa_model.specs.declared.courses.Order.{Order}
use Rattle.drmaa_model.specs.declared.entries.Entry.{Entry}
use Rattle.drmaa_model.specs.declared.faults.NoEntry.{NoEntry}
use Rattle.drmaa_model.specs.declared.replies.Reply.{Reply}
use Rattle.drmaa_model.specs.declared.replies.Reply.TheVariants as reply
use Rattle.drmaa_model.specs.declared.rows.Row.{Row}
use Rattle.drmaa_model.specs.declared.rows.Started.{Started}
use Rattle.drmaa_model.specs.Courses.{is_asked, is_unasked}
use Rattle.drmaa_model.specs.Effects.{gives}
use Rattle.drmaa_model.specs.Events.{is_started_from, started_from, started_of}
use Rattle.drmaa_model.specs.Fit.{IsFit, IsFor, number_of}
use Rattle.drmaa_model.specs.FitLaws.{all-append}
use Rattle.drmaa_model.specs.History.{Ledger, IsLegal, now_of, replay}
use Rattle.drmaa_model.specs.HistoryLaws.{replay-step, legal-push}
use Rattle.drmaa_model.specs.RecordedCalls.{recorded}
use Rattle.drmaa_model.specs.Plan.{Plan}
use Rattle.drmaa_model.specs.Refusals.{refusal}
use Rattle.drmaa_model.specs.RestSteps.{legal-still}
use Rattle.drmaa_model.specs.RowLaws.{all-implied, all-map, all-each, all-both, row_of-all, row_of-map, rising-found}
use Rattle.drmaa_model.specs.Rows.{row_of, with_course}
use Rattle.drmaa_model.specs.Size.{size}
use Rattle.drmaa_model.specs.SizeLaws.{legal-size}
use Rattle.drmaa_model.specs.StepLaws.{legal-consistent, legal-config, legal-entries}
use Rattle.drmaa_model.specs.Steps.{answer, answer_now, IsStep}
use Rattle.drmaa_model.specs.Time.{advance}
use Rattle.drmaa_model.specs.World.{World}
use Rattle.revival.specs.Stops.{reruns, stop_call, stop, is_started_row, stops}
use Rattle.revival.specs.Stopping.{Finds, course_after_stop, is_over_below, over_below, stops_below, told_call, told_stop, NoneStarted, AreOver, IsStopping, Keeps, IsStopped}
use Rattle.revival.specs.StopLaws.{filter-none, find-all, map-alike, map-same, over-out, stays, over_below-job, stop-ends, ends-too, all-over, Ends, stop-world}

-- ---- what is told of a job

unasked-is : (k : Kill) → is_unasked k ≡ not (is_asked k)
unasked-is kill.No = refl
unasked-is kill.Asked = refl
unasked-is kill.Failed = refl

stop_call-told : (row : Row) → stop_call row ≡ told_call (started_of row)
stop_call-told row =
    ap (λ (b : Bool). cond (row.wants.rerunnable && b) (call.Exited row.job row.course.attempt (Code rerun_code)) (call.ExitUnknown row.job row.course.attempt)) (unasked-is row.course.kill)

stop-told : (moment : ℕ) (row : Row) (found : Started) → started_of row ≡ found → stop moment row ≡ told_stop moment found
stop-told moment row found told =
    ap (λ (c : Call). let e : Entry = record { caller = record { 0 = 0 }; at = moment; call = c; reply = reply.Unit } in e) (stop_call-told row ∙ ap told_call told)

-- ---- where time rests

still : (ledger : Ledger) (at : ℕ) → IsLegal ledger.config ledger.history → at ≡ (now_of ledger).plan.moment → advance (now_of ledger) at ≡ now_of ledger
still ledger at legal here =
    ap (λ (p : Plan). let w : World = record (now_of ledger) { plan = p } in w) (legal-still ledger.config ledger.history ((now_of ledger).entries + 1) at legal (omega (arith, here)))

-- ---- the first of them

-- nothing has ended yet
pub begin : (first : Ledger) → IsLegal first.config first.history → IsStopping 0 first first
begin first legal =
    let w = now_of first in
    let none : AllByRecursion (λ (r : Row). is_over_below 0 r ≡ false) w.plan.rows = all-each (λ (r : Row). is_over_below 0 r ≡ false) (λ r. over-out 0 r (omega arith)) w.plan.rows in
    record {
      is = sym (ap (λ (rows : List Row). let l : Ledger = record first { history = first.history ++ map (stop w.plan.moment) rows } in l) (filter-none (is_over_below 0) w.plan.rows none)
          ∙ ap (λ (es : List Entry). let l : Ledger = record first { history = es } in l) (append-nil first.history));
      legal = legal;
      over = record {
        rows = sym (map-same (over_below 0 w.plan.moment) w.plan.rows
            (all-implied (λ (r : Row). is_over_below 0 r ≡ false) (λ (r : Row). over_below 0 w.plan.moment r ≡ r) (stays 0 w.plan.moment) w.plan.rows none));
        reservations = refl;
        moment = refl;
        sessions = refl;
        small = omega arith;
      };
    }

pub record IsNext (from : ℕ) (ledger : Ledger) (found : Started) : Type 0 where
  pub row : Row
  pub first : started_from from (now_of ledger).plan.rows ≡ Some row
  pub told : started_of row ≡ found
  pub kept : row_of row.job (now_of ledger).plan.rows ≡ Some row
  pub started : is_started_row row ≡ true
  pub low : from ≤ row.job.0
  pub below : row.job.0 < (now_of ledger).plan.next_job

next-row : (from : ℕ) (ledger : Ledger) (row : Row) → IsFit (now_of ledger).plan → started_from from (now_of ledger).plan.rows ≡ Some row → IsNext from ledger (started_of row)
next-row from ledger row fit found =
    let rows = (now_of ledger).plan.rows in
    let next = (now_of ledger).plan.next_job in
    let all = find-all (λ (r : Row). (row_of r.job rows ≡ Some r) × (number_of r < next)) (is_started_from from) rows row
    (all-both (λ (r : Row). row_of r.job rows ≡ Some r) (λ (r : Row). number_of r < next) rows (rising-found rows fit.jobs.rising) fit.jobs.below) found in
    let parts = and_parts (is_started row.course.state) (leb from row.job.0) all.1 in
    record { row = row; first = found; told = refl; kept = all.0.0; started = parts.0; low = leb-true from row.job.0 parts.1; below = all.0.1 }

next-told : (from : ℕ) (ledger : Ledger) (found : Started) → IsFit (now_of ledger).plan → Some found ≡ option_map started_of (started_from from (now_of ledger).plan.rows) → IsNext from ledger found
next-told from ledger found fit same =
    (elim (started_from from (now_of ledger).plan.rows) as (λ o. started_from from (now_of ledger).plan.rows ≡ o → Some found ≡ option_map started_of o → IsNext from ledger found) [
      | None ↦ λ e is. absurd (cc)
      | Some row ↦ λ e is. subst (IsNext from ledger) (sym (some-is found (started_of row) is)) (next-row from ledger row fit e)
    ]) refl same where
      some-is : (a b : Started) → Some a ≡ Some b → a ≡ b
      some-is a b same = cc

pub next-found : (from at : ℕ) (first ledger : Ledger) (found : Started) → at ≡ (now_of first).plan.moment → IsStopping from first ledger → Finds at from ledger (Some found) → IsNext from ledger found
next-found from at first ledger found here stopping finds =
    let ok = legal-consistent ledger.config ledger.history stopping.legal in
    next-told from ledger found ok.fit
    (subst (λ (w : World). Some found ≡ option_map started_of (started_from from w.plan.rows)) (still ledger at stopping.legal (here ∙ sym stopping.over.moment)) finds)

-- ---- its end

map-push : {X Y : Type 0} (f : X → Y) (xs : List X) (x : X) → map f (xs ++ x ∷ []) ≡ map f xs ++ f x ∷ []
map-push f [] x = refl
map-push f (y ∷ ys) x = ap (λ zs. f y ∷ zs) (map-push f ys x)

stop-step : (at : ℕ) (ledger : Ledger) (row : Row) → IsLegal ledger.config ledger.history → at ≡ (now_of ledger).plan.moment
    → (end : Ends at (now_of ledger) row (stop_call row) (course_after_stop (now_of ledger).plan.moment row)) → IsStep (now_of ledger) (stop at row) end.next
stop-step at ledger row legal here end =
    let most = legal-size ledger.config ledger.history legal in
    let config : (now_of ledger).config.journal ≡ ledger.config.journal = ap (λ (c : Config). c.journal) (legal-config ledger.config ledger.history legal) in
    let small = end.small in
    record {
      answered = subst (λ (w : World). answer_now at w (stop_call row) ≡ gives reply.Unit end.next) (sym (still ledger at legal here)) end.answered;
      within = omega (arith, small, most, config);
    }

one-more : (first : Ledger) (ledger : Ledger) (at from number : ℕ) (row : Row) → at ≡ (now_of first).plan.moment → ledger ≡ record first { history = first.history ++ stops_below from (now_of first) }
    → filter (is_over_below number) (now_of first).plan.rows ≡ filter (is_over_below from) (now_of first).plan.rows ++ row ∷ []
    → record ledger { history = ledger.history ++ stop at row ∷ [] } ≡ record first { history = first.history ++ stops_below number (now_of first) }
one-more first ledger at from number row here is reported =
    let w = now_of first in
    let before = filter (is_over_below from) w.plan.rows in
    ap (λ (n : ℕ). let l : Ledger = record ledger { history = ledger.history ++ stop n row ∷ [] } in l) here
    ∙ ap (λ (k : Ledger). let l : Ledger = record k { history = k.history ++ stop w.plan.moment row ∷ [] } in l) is
    ∙ ap (λ (es : List Entry). let l : Ledger = record first { history = es } in l)
    (append_assoc first.history (stops_below from w) (stop w.plan.moment row ∷ [])
    ∙ ap (λ (es : List Entry). first.history ++ es) (sym (map-push (stop w.plan.moment) before row) ∙ ap (map (stop w.plan.moment)) (sym reported)))

stop-row : (from at : ℕ) (first ledger : Ledger) (found : Started) → IsLegal first.config first.history → at ≡ (now_of first).plan.moment → IsStopping from first ledger → (next : IsNext from ledger found)
    → IsStopping (next.row.job.0 + 1) first (record ledger { history = ledger.history ++ stop at next.row ∷ [] })
stop-row from at first ledger found legal here stopping next =
    let w = now_of first in
    let v = now_of ledger in
    let row = next.row in
    let m = w.plan.moment in
    let over = stopping.over in
    let ok = legal-consistent ledger.config ledger.history stopping.legal in
    let now : at ≡ v.plan.moment = here ∙ sym over.moment in
    let end = stop-world at v row ok next.kept next.started in
    let step = stop-step at ledger row stopping.legal now end in
    let after : replay ledger.config (ledger.history ++ stop at row ∷ []) ≡ end.next = replay-step ledger.config ledger.history (stop at row) end.next step in
    let too = ends-too from m row w.plan.rows (legal-consistent first.config first.history legal).fit.jobs.rising next.low (subst (λ (rows : List Row). started_from from rows ≡ Some row) over.rows next.first) in
    let small = end.small in
    let smaller = over.small in
    record {
      is = one-more first ledger at from (row.job.0 + 1) row here stopping.is too.reported;
      legal = legal-push ledger.config ledger.history (stop at row) end.next stopping.legal step;
      over = subst (AreOver (row.job.0 + 1) w) (sym after) (record {
        rows = end.moves.rows ∙ ap (λ (n : ℕ). map (with_course row.job (course_after_stop n row)) v.plan.rows) over.moment
            ∙ ap (map (with_course row.job (course_after_stop m row))) over.rows ∙ too.rows_are;
        reservations = end.moves.reservations ∙ over.reservations;
        moment = end.moves.moment ∙ over.moment;
        sessions = end.sessions ∙ over.sessions;
        small = omega (arith, small, smaller);
      });
    }

pub stop-next : (from at : ℕ) (first ledger : Ledger) (found : Started) → IsLegal first.config first.history → at ≡ (now_of first).plan.moment → IsStopping from first ledger → IsNext from ledger found
    → IsStopping (found.job.0 + 1) first (record ledger { history = ledger.history ++ told_stop at found ∷ [] })
stop-next from at first ledger found legal here stopping next =
    let number : next.row.job.0 + 1 ≡ found.job.0 + 1 = ap (λ (s : Started). s.job.0 + 1) next.told in
    subst (λ (e : Entry). IsStopping (found.job.0 + 1) first (record ledger { history = ledger.history ++ e ∷ [] })) (stop-told at next.row found next.told)
    (subst (λ (n : ℕ). IsStopping n first (record ledger { history = ledger.history ++ stop at next.row ∷ [] })) number
    (stop-row from at first ledger found legal here stopping next))

-- the end of a started job, as the machine is asked to report it
pub end-free : (from at : ℕ) (first ledger : Ledger) (found : Started) → at ≡ (now_of first).plan.moment → IsStopping from first ledger → IsNext from ledger found
    → refusal (advance (now_of ledger) at) (told_call found) ≡ None
end-free from at first ledger found here stopping next =
    let v = now_of ledger in
    let end = stop-world at v next.row (legal-consistent ledger.config ledger.history stopping.legal) next.kept next.started in
    subst (λ (w : World). refusal w (told_call found) ≡ None) (sym (still ledger at stopping.legal (here ∙ sym stopping.over.moment)))
    (subst (λ (c : Call). refusal v c ≡ None) (stop_call-told next.row ∙ ap told_call next.told) end.free)

-- it is answered ok
end-unit : (from at : ℕ) (first ledger : Ledger) (found : Started) (r : Reply) (after : World) → at ≡ (now_of first).plan.moment → IsStopping from first ledger → IsNext from ledger found
    → answer (now_of ledger) at (told_call found) ≡ gives r after → r ≡ reply.Unit
end-unit from at first ledger found r after here stopping next answered =
    let v = now_of ledger in
    let now : at ≡ v.plan.moment = here ∙ sym stopping.over.moment in
    let end = stop-world at v next.row (legal-consistent ledger.config ledger.history stopping.legal) next.kept next.started in
    let step = stop-step at ledger next.row stopping.legal now end in
    reply-of r reply.Unit after end.next (sym answered ∙ ap (answer v at) (sym (stop_call-told next.row ∙ ap told_call next.told)) ∙ step.answered) where
      reply-of : (a b : Reply) (x y : World) → gives a x ≡ gives b y → a ≡ b
      reply-of a b x y same = cc

-- the entry of what was asked
abbrev pub asked_entry : ℕ → Call → Reply → Entry
asked_entry at asked told = record { caller = record { 0 = 0 }; at = at; call = asked; reply = told }

-- what the machine answers to it
pub end-found : (from at : ℕ) (first old new : Ledger) (found : Started) (asked : Call) (result : Result Reply NoEntry) → IsLegal first.config first.history → at ≡ (now_of first).plan.moment
    → IsStopping from first old → Finds at from old (Some found) → asked ≡ told_call found → recorded asked ≡ asked
    → (refusal (advance (now_of old) at) asked ≡ None → IsOk result)
    → IfOk result (λ (r : Reply). IsStep (now_of old) (asked_entry at (recorded asked) r) (now_of new))
    → IfOk result (λ (r : Reply). new ≡ record old { history = old.history ++ asked_entry at (recorded asked) r ∷ [] })
    → IsStopping (found.job.0 + 1) first new
end-found from at first old new found asked (Ok r) legal here stopping finds call_is recorded_is reports step entry =
    let next = next-found from at first old found here stopping finds in
    let same : recorded asked ≡ told_call found = recorded_is ∙ call_is in
    let answered : answer (now_of old) at (told_call found) ≡ gives r (now_of new) = ap (answer (now_of old) at) (sym same) ∙ step.answered in
    let unit = end-unit from at first old found r (now_of new) here stopping next answered in
    let is : new ≡ record old { history = old.history ++ told_stop at found ∷ [] } =
    entry ∙ ap (λ (c : Call). let l : Ledger = record old { history = old.history ++ asked_entry at c r ∷ [] } in l) same
    ∙ ap (λ (q : Reply). let l : Ledger = record old { history = old.history ++ asked_entry at (told_call found) q ∷ [] } in l) unit in
    subst (IsStopping (found.job.0 + 1) first) (sym is) (stop-next from at first old found legal here stopping next)
end-found from at first old new found asked (Err why) legal here stopping finds call_is recorded_is reports step entry =
    let next = next-found from at first old found here stopping finds in
    absurd (false≢true (reports (subst (λ (c : Call). refusal (advance (now_of old) at) c ≡ None) (sym call_is) (end-free from at first old found here stopping next))))

-- ---- all of them

-- no order stands where no job is started
unstarted : (job : JobId) (rows : List Row) → NoneStarted rows → option_map_or (λ (r : Row). is_started r.course.state) (row_of job rows) false ≡ false
unstarted job rows none =
    (elim (row_of job rows) as (λ o. row_of job rows ≡ o → option_map_or (λ (r : Row). is_started r.course.state) o false ≡ false) [
      | None ↦ λ e. refl
      | Some r ↦ λ e. row_of-all (λ (row : Row). is_started_row row ≡ false) job rows r none e
    ]) refl

no-orders : (p : Plan) → IsFit p → NoneStarted p.rows → p.orders ≡ []
no-orders p fit none = empty p.orders fit.asked where
  empty : (orders : List Order) → AllByRecursion (IsFor p.rows) orders → orders ≡ []
  empty [] all = refl
  empty (o ∷ orders) all = absurd (false≢true (sym (unstarted o.job p.rows none) ∙ all.0.started))

-- each started job by its course after its end
over : ℕ → Row → Row
over moment row = cond (is_started_row row) (record row { course = course_after_stop moment row }) row

over-stops : (moment : ℕ) (row : Row) → is_started_row (over moment row) ≡ false
unfolding over
over-stops moment row =
    (elim (is_started_row row) as (λ b. is_started_row row ≡ b → is_started_row (cond b (record row { course = course_after_stop moment row }) row) ≡ false) [
      | true ↦ λ e. stop-ends moment row
      | false ↦ λ e. e
    ]) refl

over-job : (moment : ℕ) (row : Row) → (over moment row).job ≡ row.job
unfolding over
over-job moment row = elim (is_started_row row) as (λ b. (cond b (record row { course = course_after_stop moment row }) row).job ≡ row.job) [ true ↦ refl | false ↦ refl ]

over-keeps : (moment : ℕ) (o : Option Row) → option_map_or is_started_row o false ≡ false → option_map (over moment) o ≡ o
unfolding over
over-keeps moment None idle = refl
over-keeps moment (Some row) idle = ap (λ (b : Bool). Some (cond b (record row { course = course_after_stop moment row }) row)) idle

over-numbers : (moment : ℕ) (rows : List Row) → map number_of (map (over moment) rows) ≡ map number_of rows
over-numbers moment [] = refl
over-numbers moment (row ∷ rows) = ap (λ (j : JobId). j.0 ∷ map number_of (map (over moment) rows)) (over-job moment row) ∙ ap (λ (ns : List ℕ). row.job.0 ∷ ns) (over-numbers moment rows)

over-same : (from moment : ℕ) (row : Row) → is_over_below from row ≡ is_started_row row → over_below from moment row ≡ over moment row
unfolding over
over-same from moment row is = ap (λ (b : Bool). cond b (record row { course = course_after_stop moment row }) row) is

filter-alike : {X : Type 0} (t u : X → Bool) (xs : List X) → AllByRecursion (λ x. t x ≡ u x) xs → filter t xs ≡ filter u xs
filter-alike t u [] all = refl
filter-alike t u (x ∷ xs) all = ap (λ b. cond b (x ∷ filter t xs) (filter t xs)) all.0 ∙ ap (λ ys. cond (u x) (x ∷ ys) ys) (filter-alike t u xs all.1)

keeps-all : (w v : World) → IsFit v.plan → v.plan.rows ≡ map (over w.plan.moment) w.plan.rows → v.sessions ≡ w.sessions → v.plan.reservations ≡ w.plan.reservations → v.plan.moment ≡ w.plan.moment → size v ≤ size w → Keeps w v
keeps-all w v fit rows sessions reservations moment small =
    let m = w.plan.moment in
    let stopped : NoneStarted v.plan.rows = subst NoneStarted (sym rows) (all-map (λ (r : Row). is_started_row r ≡ false) (over m) w.plan.rows (all-each (λ (r : Row). is_started_row (over m r) ≡ false) (over-stops m) w.plan.rows)) in
    record {
      stopped = stopped;
      orders = no-orders v.plan fit stopped;
      rows = λ job idle. ap (row_of job) rows ∙ row_of-map (over m) (over-job m) job w.plan.rows ∙ over-keeps m (row_of job w.plan.rows) idle;
      jobs = ap (map number_of) rows ∙ over-numbers m w.plan.rows;
      sessions = sessions;
      reservations = reservations;
      moment = moment;
      small = small;
    }

none-told : (o : Option Row) → None ≡ option_map started_of o → o ≡ None
none-told None same = refl
none-told (Some row) same = absurd (cc)

stopped-all : (from : ℕ) (first ledger : Ledger) → IsStopping from first ledger → started_from from (now_of ledger).plan.rows ≡ None → IsStopped first ledger
stopped-all from first ledger stopping none =
    let w = now_of first in
    let m = w.plan.moment in
    let o = stopping.over in
    let ok = legal-consistent ledger.config ledger.history stopping.legal in
    let all = all-over from m w.plan.rows (subst (λ (rows : List Row). started_from from rows ≡ None) o.rows none) in
    record {
      is = stopping.is ∙ ap (λ (rows : List Row). let l : Ledger = record first { history = first.history ++ map (stop m) rows } in l) (filter-alike (is_over_below from) is_started_row w.plan.rows all);
      legal = stopping.legal;
      keeps = keeps-all w (now_of ledger) ok.fit
          (o.rows ∙ map-alike (over_below from m) (over m) w.plan.rows (all-implied (λ (r : Row). is_over_below from r ≡ is_started_row r) (λ (r : Row). over_below from m r ≡ over m r) (over-same from m) w.plan.rows all))
          o.sessions o.reservations o.moment o.small;
    }

pub all-stopped : (from at : ℕ) (first ledger : Ledger) → at ≡ (now_of first).plan.moment → IsStopping from first ledger → Finds at from ledger None → IsStopped first ledger
all-stopped from at first ledger here stopping finds =
    stopped-all from first ledger stopping
    (none-told (started_from from (now_of ledger).plan.rows)
    (subst (λ (w : World). None ≡ option_map started_of (started_from from w.plan.rows)) (still ledger at stopping.legal (here ∙ sym stopping.over.moment)) finds))

-- ---- numbers

-- there is a number above that of a started job
pub number-small : (from : ℕ) (ledger : Ledger) (found : Started) → IsLegal ledger.config ledger.history → length ledger.history ≤ 4_000_000 → IsNext from ledger found → found.job.0 + 1 < 2 ^ 64
number-small from ledger found legal few next =
    let ok = legal-consistent ledger.config ledger.history legal in
    let count = legal-entries ledger.config ledger.history legal in
    let number : next.row.job.0 ≡ found.job.0 = ap (λ (s : Started). s.job.0) next.told in
    let below = next.below in
    let most = ok.jobs in
    omega (arith, below, most, count, few, number)

pub number-low : (from : ℕ) (ledger : Ledger) (found : Started) → IsNext from ledger found → from ≤ found.job.0
number-low from ledger found next =
    (let number : next.row.job.0 ≡ found.job.0 = ap (λ (s : Started). s.job.0) next.told in let low = next.low in omega (arith, low, number))

-- ---- recorded calls

-- a journal keeps the report of an end as it is
stop-recorded : (row : Row) → recorded (stop_call row) ≡ stop_call row
stop-recorded row =
    elim (reruns row) as (λ b. recorded (cond b (call.Exited row.job row.course.attempt (Code rerun_code)) (call.ExitUnknown row.job row.course.attempt)) ≡ cond b (call.Exited row.job row.course.attempt (Code rerun_code)) (call.ExitUnknown row.job row.course.attempt)) [
      | true ↦ refl
      | false ↦ refl
    ]

pub stops-recorded : (entries : List Entry) (w : World) → AllByRecursion (λ (e : Entry). recorded e.call ≡ e.call) entries → AllByRecursion (λ (e : Entry). recorded e.call ≡ e.call) (entries ++ stops w)
stops-recorded entries w front =
    all-append (λ (e : Entry). recorded e.call ≡ e.call) entries (stops w) front
    (all-map (λ (e : Entry). recorded e.call ≡ e.call) (stop w.plan.moment) (filter is_started_row w.plan.rows)
    (all-each (λ (row : Row). recorded (stop_call row) ≡ stop_call row) stop-recorded (filter is_started_row w.plan.rows)))

-- ---- legality

next-low : (from : ℕ) (ledger : Ledger) (row : Row) → IsNext from ledger (started_of row) → from ≤ row.job.0
next-low from ledger row next = number-low from ledger (started_of row) next

-- the number of a job that is still to end is below the next number of the first world
below-next : (from : ℕ) (first ledger : Ledger) (row : Row) → IsLegal first.config first.history → IsStopping from first ledger → started_from from (now_of ledger).plan.rows ≡ Some row
    → row.job.0 < (now_of first).plan.next_job
below-next from first ledger row legal stopping found =
    let w = now_of first in
    let m = w.plan.moment in
    let next = w.plan.next_job in
    (find-all (λ (r : Row). number_of r < next) (is_started_from from) (map (over_below from m) w.plan.rows) row
    (all-map (λ (r : Row). number_of r < next) (over_below from m) w.plan.rows
    (all-implied (λ (r : Row). number_of r < next) (λ (r : Row). number_of (over_below from m r) < next) (λ r h. subst (λ (j : JobId). j.0 < next) (sym (over_below-job from m r)) h)
    w.plan.rows (legal-consistent first.config first.history legal).fit.jobs.below))
    (subst (λ (rows : List Row). started_from from rows ≡ Some row) stopping.over.rows found)).0

-- so all end, one after another
stops-on : (fuel from : ℕ) (first ledger : Ledger) → IsLegal first.config first.history → (now_of first).plan.next_job ≤ from + fuel → IsStopping from first ledger → (last : Ledger) × IsStopped first last
stops-on zero from first ledger legal enough stopping =
    (elim (started_from from (now_of ledger).plan.rows) as (λ o. started_from from (now_of ledger).plan.rows ≡ o → (last : Ledger) × IsStopped first last) [
      | None ↦ λ e. (ledger, stopped-all from first ledger stopping e)
      | Some row ↦ λ e.
          (let next = next-row from ledger row (legal-consistent ledger.config ledger.history stopping.legal).fit e in
          let below = below-next from first ledger row legal stopping e in
          let low = next-low from ledger row next in
          absurd (omega (arith, below, low, enough)))
    ]) refl
stops-on (suc fuel) from first ledger legal enough stopping =
    (elim (started_from from (now_of ledger).plan.rows) as (λ o. started_from from (now_of ledger).plan.rows ≡ o → (last : Ledger) × IsStopped first last) [
      | None ↦ λ e. (ledger, stopped-all from first ledger stopping e)
      | Some row ↦ λ e.
          (let m = (now_of first).plan.moment in
          let next = next-row from ledger row (legal-consistent ledger.config ledger.history stopping.legal).fit e in
          let low = next-low from ledger row next in
          stops-on fuel (row.job.0 + 1) first (record ledger { history = ledger.history ++ told_stop m (started_of row) ∷ [] }) legal (omega (arith, low, enough))
          (stop-next from m first ledger (started_of row) legal refl stopping next))
    ]) refl

-- A legal history followed by the ends of its started jobs is legal, and this becomes of its world.
pub stops-legal : (config : Config) (entries : List Entry) → IsLegal config entries
    → IsLegal config (entries ++ stops (replay config entries)) × Keeps (replay config entries) (replay config (entries ++ stops (replay config entries)))
stops-legal config entries legal =
    let first : Ledger = record { config = config; history = entries } in
    let all = stops-on (now_of first).plan.next_job 0 first first legal (omega arith) (begin first legal) in
    (subst (λ (l : Ledger). IsLegal l.config l.history) all.1.is all.1.legal, subst (λ (l : Ledger). Keeps (replay config entries) (now_of l)) all.1.is all.1.keeps)
