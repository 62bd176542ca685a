-- What a script's line asks may stand in a journal: templates that were read have no attribute of another form under `other`.
use Rattle.std.proofs.Common.{◌≡◌, ℕ, true, false, cond, ◌&&◌, List, [], ◌∷◌, ◌++◌, Option, Some, None, refl, sym, ap, subst}
use Rattle.std.specs.List.{AllByRecursion, list_all}
use Rattle.std.specs.Map.{lookup}
use Rattle.std.specs.Str.{bytes_eq}
use Rattle.std.proofs.lemmas.Option.{none-some, same_Some}
use Rattle.drmaa_types.specs.declared.refusals.Attribute.{Attribute}
use Rattle.job_template.specs.declared.templates.JobTemplate.{JobTemplate}
use Rattle.job_template.specs.declared.templates.ReservationTemplate.{ReservationTemplate}
use Rattle.drmaa_model.specs.declared.calls.Call.{Call}
use Rattle.text_codec.specs.Formats.{◌>>=◌, checked}
use Rattle.text_codec.specs.Fields.{always, no_more}
use Rattle.text_forms.specs.Templates.{is_other, other_form}
use Rattle.journal_forms.specs.Calls.{has_others}
use Rattle.script_lines.specs.declared.draft.Draft.{Draft}
use Rattle.script_lines.specs.declared.fields.JobField.{JobField}
use Rattle.script_lines.specs.declared.fields.JobField.TheVariants as job
use Rattle.script_lines.specs.declared.fields.ReservationField.{ReservationField}
use Rattle.script_lines.specs.declared.fields.ReservationField.TheVariants as reservation
use Rattle.script_lines.specs.declared.lines.Line.{Line}
use Rattle.script_lines.specs.declared.lines.Line.TheVariants as line
use Rattle.script_lines.specs.declared.refs.Ref.{Ref}
use Rattle.script_lines.specs.TemplateFields.{other_fields}
use Rattle.script_lines.specs.Templates.{IsJobField, IsReservationField, filled, made, with_field, is_set, booked, is_reservation_set, with_reservation_field, no_fields, no_reservation_fields}
use Rattle.script_text.specs.declared.scripts.Mode.{Mode}
use Rattle.script_text.specs.declared.scripts.Script.{Script}
use Rattle.script_text.specs.Follows.{is_wait, is_serial_line, is_register}
use Rattle.script_text.specs.Scripts.{Part, After, Makes}
use Rattle.script_text.specs.Scripts.Part.{Job, Reservation, Lines}
use Rattle.script_asks.specs.declared.given.Given.{Given}
use Rattle.script_asks.specs.Asks.{asks, number_of, numbers_of, filter_of, number_if, template_in, template_of}
use Rattle.drmaa_model.specs.RowLaws.{all-push}
use Rattle.script_journals.specs.Calls.{is_attendants, is_registers, is_waiting}

-- ---- templates

push-other : (others : List Attribute) (x : Attribute) → list_all is_other others ≡ true → is_other x ≡ true → list_all is_other (others ++ x ∷ []) ≡ true
push-other [] x all is = ap (λ b. b && true) is
push-other (o ∷ others) x all is =
    (elim (is_other o) as (λ b. (b && list_all is_other others) ≡ true → (b && list_all is_other (others ++ x ∷ [])) ≡ true) [
      | true ↦ λ h. push-other others x h is
      | false ↦ λ h. absurd (cc)
    ]) all

pub AreOthers : JobTemplate → Type 0
AreOthers t = list_all is_other t.others ≡ true

pub AreBookedOthers : ReservationTemplate → Type 0
AreBookedOthers t = list_all is_other t.others ≡ true

filled-others : (t : JobTemplate) (f : JobField) → IsJobField f → AreOthers t → AreOthers (filled t f)
unfolding AreOthers other_fields other_form always checked no_more
filled-others t (job.Other x) valid all = push-other t.others x all valid.0.1
filled-others t _ valid all = all

made-others : (d : Draft) (fs : List JobField) (e : Draft) → AllByRecursion IsJobField fs → AreOthers d.template → made d fs ≡ Some e → AreOthers e.template
made-others d [] e valid all is = let same : d ≡ e = cc in subst (λ (x : Draft). AreOthers x.template) same all
made-others d (f ∷ fs) e valid all is =
    (elim (is_set d f) as (λ b. cond b None (made (with_field d f) fs) ≡ Some e → AreOthers e.template) [
      | true ↦ λ h. absurd (cc)
      | false ↦ λ h. made-others (with_field d f) fs e valid.1 (filled-others d.template f valid.0 all) h
    ]) is

set-others : (t : ReservationTemplate) (f : ReservationField) → IsReservationField f → AreBookedOthers t → AreBookedOthers (with_reservation_field t f)
unfolding AreBookedOthers other_fields other_form always checked no_more
set-others t (reservation.Other x) valid all = push-other t.others x all valid.0.1
set-others t _ valid all = all

booked-others : (t : ReservationTemplate) (fs : List ReservationField) (r : ReservationTemplate) → AllByRecursion IsReservationField fs → AreBookedOthers t → booked t fs ≡ Some r → AreBookedOthers r
booked-others t [] r valid all is = let same : t ≡ r = cc in subst AreBookedOthers same all
booked-others t (f ∷ fs) r valid all is =
    (elim (is_reservation_set t f) as (λ b. cond b None (booked (with_reservation_field t f) fs) ≡ Some r → AreBookedOthers r) [
      | true ↦ λ h. absurd (cc)
      | false ↦ λ h. booked-others (with_reservation_field t f) fs r valid.1 (set-others t f valid.0 all) h
    ]) is

-- ---- scripts

-- no template of the script has an attribute of another form under `other`
pub record HasOthers (s : Script) : Type 0 where
  pub jobs : AllByRecursion (λ (p : List ℕ × JobTemplate). AreOthers p.1) s.jobs
  pub reservations : AllByRecursion (λ (p : List ℕ × ReservationTemplate). AreBookedOthers p.1) s.reservations

after-others : (m : Mode) (s : Script) (p : Part) (t : Script) → After m s p t → HasOthers s → HasOthers t
unfolding AreOthers AreBookedOthers
after-others m s (Job n fs) t (d, is, early, new, named, valid, same) has =
    subst HasOthers (sym same) (record {
      jobs = all-push (λ (q : List ℕ × JobTemplate). AreOthers q.1) s.jobs (n, d.template) has.jobs (made-others no_fields fs d valid refl is);
      reservations = has.reservations;
    })
after-others m s (Reservation n fs) t (r, is, early, new, named, valid, same) has =
    subst HasOthers (sym same) (record {
      jobs = has.jobs;
      reservations = all-push (λ (q : List ℕ × ReservationTemplate). AreBookedOthers q.1) s.reservations (n, r) has.reservations (booked-others no_reservation_fields fs r valid refl is);
    })
after-others m s (Lines true ls) t (open_, follow, same) has = subst HasOthers (sym same) (record { jobs = has.jobs; reservations = has.reservations })
after-others m s (Lines false ls) t (open_, follow, same) has = subst HasOthers (sym same) (record { jobs = has.jobs; reservations = has.reservations })

pub makes-others : (m : Mode) (s : Script) (ps : List Part) (t : Script) → Makes m s ps t → HasOthers s → HasOthers t
makes-others m s [] t is has = subst HasOthers is has
makes-others m s (p ∷ ps) t (u, first, rest) has = makes-others m u ps t rest (after-others m s p u first has)

-- ---- what lines ask

-- what is asked, if anything is, has this property
abbrev pub Asks : (Call → Type 0) → Option Call → Type 0
Asks P o = (c : Call) → o ≡ Some c → P c

this : (P : Call → Type 0) {c : Call} → P c → Asks P (Some c)
this P {c = c} own = λ d is. subst P (same_Some c d is) own

one : {A : Type 0} (P : Call → Type 0) (o : Option A) (f : A → Call) → ((x : A) → o ≡ Some x → P (f x)) → Asks P (o >>= λ x. Some (f x))
one P None f each = λ c is. absurd (none-some c is)
one P (Some x) f each = this P (each x refl)

two : {A B : Type 0} (P : Call → Type 0) (o : Option A) (p : Option B) (f : A → B → Call) → ((x : A) (y : B) → p ≡ Some y → P (f x y)) → Asks P (o >>= λ x. p >>= λ y. Some (f x y))
two P None p f each = λ c is. absurd (none-some c is)
two P (Some x) p f each = one P p (f x) (each x)

-- what is found by its name is one of the list
found : {T : Type 0} (P : T → Type 0) (name : List ℕ) (xs : List (List ℕ × T)) (t : T) → AllByRecursion (λ (q : List ℕ × T). P q.1) xs → lookup (bytes_eq name) xs ≡ Some t → P t
found P name [] t all is = absurd (none-some t is)
found P name ((k, u) ∷ xs) t all is =
    (elim (bytes_eq name k) as (λ b. cond b (Some u) (lookup (bytes_eq name) xs) ≡ Some t → P t) [
      | true ↦ λ e. subst P (same_Some u t e) all.0
      | false ↦ λ e. found P name xs t all.1 e
    ]) is

-- a template, given a reservation
given-others : (u t : JobTemplate) (o : Option (Option ℕ)) → AreOthers u → (o >>= λ r. Some (template_in u r)) ≡ Some t → AreOthers t
unfolding AreOthers
given-others u t None all is = absurd (none-some t is)
given-others u t (Some r) all is = subst (λ (x : JobTemplate). list_all is_other x.others ≡ true) (same_Some (template_in u r) t is) all

-- a template that is named, with the reservation that the line names
template-others : (s : Script) (names : List (List ℕ × Given)) (template : List ℕ) (reserved : Option Ref) (t : JobTemplate) → HasOthers s → template_of s names template reserved ≡ Some t → AreOthers t
template-others s names template reserved t has is =
    (elim (lookup (bytes_eq template) s.jobs) as (λ o. lookup (bytes_eq template) s.jobs ≡ o → (o >>= λ u. number_if names reserved >>= λ r. Some (template_in u r)) ≡ Some t → AreOthers t) [
      | None ↦ λ e h. absurd (none-some t h)
      | Some u ↦ λ e h. given-others u t (number_if names reserved) (found AreOthers template s.jobs u has.jobs e) h
    ]) refl is

-- A line's own call: launcher or reaper make it, it registers a callback, and it waits, where that is said of the line; and no
-- template has an attribute of another form under `other`, where the script's have none.
abbrev pub IsOwn : Script → Line → Call → Type 0
IsOwn s l c = (is_attendants c ≡ is_serial_line l) × (is_registers c ≡ is_register l) × (is_waiting c ≡ is_wait l) × (HasOthers s → has_others c ≡ true)

-- what each line asks is its own
pub asks-own : (s : Script) (names : List (List ℕ × Given)) (attempt : ℕ → ℕ) (begun : ℕ) (l : Line) → Asks (IsOwn s l) (asks s names attempt begun l)
unfolding AreOthers AreBookedOthers
asks-own s names attempt begun (line.Close session) = one _ (number_of names session) _ (λ n is. (refl, refl, refl, λ has. refl))
asks-own s names attempt begun (line.Run name session template reserved) = two _ (number_of names session) (template_of s names template reserved) _ (λ n k is. (refl, refl, refl, λ has. template-others s names template reserved k has is))
asks-own s names attempt begun (line.Bulk name session template begin end step bound reserved) = two _ (number_of names session) (template_of s names template reserved) _ (λ n k is. (refl, refl, refl, λ has. template-others s names template reserved k has is))
asks-own s names attempt begun (line.Jobs session filter) = two _ (number_of names session) (filter_of names filter) _ (λ n k is. (refl, refl, refl, λ has. refl))
asks-own s names attempt begun (line.Array session array) = two _ (number_of names session) (number_of names array) _ (λ n k is. (refl, refl, refl, λ has. refl))
asks-own s names attempt begun (line.Suspend session job) = two _ (number_of names session) (number_of names job) _ (λ n k is. (refl, refl, refl, λ has. refl))
asks-own s names attempt begun (line.Resume session job) = two _ (number_of names session) (number_of names job) _ (λ n k is. (refl, refl, refl, λ has. refl))
asks-own s names attempt begun (line.Hold session job) = two _ (number_of names session) (number_of names job) _ (λ n k is. (refl, refl, refl, λ has. refl))
asks-own s names attempt begun (line.Release session job) = two _ (number_of names session) (number_of names job) _ (λ n k is. (refl, refl, refl, λ has. refl))
asks-own s names attempt begun (line.Terminate session job) = two _ (number_of names session) (number_of names job) _ (λ n k is. (refl, refl, refl, λ has. refl))
asks-own s names attempt begun (line.SuspendArray session array) = two _ (number_of names session) (number_of names array) _ (λ n k is. (refl, refl, refl, λ has. refl))
asks-own s names attempt begun (line.ResumeArray session array) = two _ (number_of names session) (number_of names array) _ (λ n k is. (refl, refl, refl, λ has. refl))
asks-own s names attempt begun (line.HoldArray session array) = two _ (number_of names session) (number_of names array) _ (λ n k is. (refl, refl, refl, λ has. refl))
asks-own s names attempt begun (line.ReleaseArray session array) = two _ (number_of names session) (number_of names array) _ (λ n k is. (refl, refl, refl, λ has. refl))
asks-own s names attempt begun (line.TerminateArray session array) = two _ (number_of names session) (number_of names array) _ (λ n k is. (refl, refl, refl, λ has. refl))
asks-own s names attempt begun (line.Reap session job) = two _ (number_of names session) (number_of names job) _ (λ n k is. (refl, refl, refl, λ has. refl))
asks-own s names attempt begun (line.ReapArray session array) = two _ (number_of names session) (number_of names array) _ (λ n k is. (refl, refl, refl, λ has. refl))
asks-own s names attempt begun (line.State session job) = two _ (number_of names session) (number_of names job) _ (λ n k is. (refl, refl, refl, λ has. refl))
asks-own s names attempt begun (line.Info session job) = two _ (number_of names session) (number_of names job) _ (λ n k is. (refl, refl, refl, λ has. refl))
asks-own s names attempt begun (line.WaitStarted session timeout jobs) = two _ (number_of names session) (numbers_of names jobs) _ (λ n k is. (refl, refl, refl, λ has. refl))
asks-own s names attempt begun (line.WaitTerminated session timeout jobs) = two _ (number_of names session) (numbers_of names jobs) _ (λ n k is. (refl, refl, refl, λ has. refl))
asks-own s names attempt begun (line.Reserve name session template) = two _ (number_of names session) (lookup (bytes_eq template) s.reservations) _ (λ n k is. (refl, refl, refl, λ has. found AreBookedOthers template s.reservations k has.reservations is))
asks-own s names attempt begun (line.Reservation session reservation) = two _ (number_of names session) (number_of names reservation) _ (λ n k is. (refl, refl, refl, λ has. refl))
asks-own s names attempt begun (line.Reservations session) = one _ (number_of names session) _ (λ n is. (refl, refl, refl, λ has. refl))
asks-own s names attempt begun (line.Cancel session reservation) = two _ (number_of names session) (number_of names reservation) _ (λ n k is. (refl, refl, refl, λ has. refl))
asks-own s names attempt begun (line.AllJobs session filter) = two _ (number_of names session) (filter_of names filter) _ (λ n k is. (refl, refl, refl, λ has. refl))
asks-own s names attempt begun (line.AllReservations session) = one _ (number_of names session) _ (λ n is. (refl, refl, refl, λ has. refl))
asks-own s names attempt begun (line.Queues session) = one _ (number_of names session) _ (λ n is. (refl, refl, refl, λ has. refl))
asks-own s names attempt begun (line.Machines session) = one _ (number_of names session) _ (λ n is. (refl, refl, refl, λ has. refl))
asks-own s names attempt begun (line.At moment) = λ c is. absurd (none-some c is)
asks-own s names attempt begun (line.Started job) = one _ (number_of names job) _ (λ n is. (refl, refl, refl, λ has. refl))
asks-own s names attempt begun (line.StartFailed job) = one _ (number_of names job) _ (λ n is. (refl, refl, refl, λ has. refl))
asks-own s names attempt begun (line.Exit job code) = one _ (number_of names job) _ (λ n is. (refl, refl, refl, λ has. refl))
asks-own s names attempt begun (line.ExitSignal job signal) = one _ (number_of names job) _ (λ n is. (refl, refl, refl, λ has. refl))
asks-own s names attempt begun (line.ExitUnknown job) = one _ (number_of names job) _ (λ n is. (refl, refl, refl, λ has. refl))
asks-own s names attempt begun (line.SignalDone job kind) = one _ (number_of names job) _ (λ n is. (refl, refl, refl, λ has. refl))
asks-own s names attempt begun (line.SignalFailed job kind) = one _ (number_of names job) _ (λ n is. (refl, refl, refl, λ has. refl))
asks-own s names attempt begun _ = this _ (refl, refl, refl, λ has. refl)

-- so it may stand in a journal
pub asks-holds : (s : Script) (names : List (List ℕ × Given)) (attempt : ℕ → ℕ) (begun : ℕ) (l : Line) → HasOthers s → Asks (λ c. has_others c ≡ true) (asks s names attempt begun l)
asks-holds s names attempt begun l has = λ c is. (asks-own s names attempt begun l c is).3 has
