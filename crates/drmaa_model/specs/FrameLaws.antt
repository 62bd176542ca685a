-- What the frame of a template that is not refused has.
use Rattle.std.proofs.Common.{◌≡◌, ℕ, ◌+◌, ◌<◌, ◌≤◌, Bool, true, false, leb, ltb, eqb, not, ◌&&◌, ◌||◌, [], ◌∷◌, ◌++◌, Option, Some, None, arith}
use Rattle.std.specs.Prelude.{is_some}
use Rattle.std.specs.Option.{option_map}
use Rattle.std.proofs.lemmas.Bool.{or_parts, ltb-false, leb-false, eqb-false}
use Rattle.drmaa_types.specs.Moments.{greatest}
use Rattle.drmaa_types.specs.Refusals.{first_refusal}
use Rattle.drmaa_types.specs.declared.refusals.Refusal.{Refusal}
use Rattle.drmaa_types.specs.declared.refusals.Refusal.TheVariants.{InvalidArgument}
use Rattle.drmaa_types.specs.declared.refusals.Which.TheVariants as which
use Rattle.job_template.specs.declared.templates.Frame.{Frame}
use Rattle.job_template.specs.declared.templates.ReservationTemplate.{ReservationTemplate}
use Rattle.drmaa_types.specs.declared.template_parts.Start.{Start}
use Rattle.job_template.specs.Frames.{moment_of, starts, ends, lasts, Interval, interval, frame_of, frame_tests, name_tests, start_tests, length_tests, slot_tests}
use Rattle.job_template.specs.Unsupported.{other_tests}
use Rattle.drmaa_model.specs.OperationLaws.{refusal-append, no_test}

-- What is true of the frame of a template that is not refused.
pub record IsFrame (now : ℕ) (f : Frame) : Type 0 where
  pub since : now ≤ f.from
  pub lasting : 0 < f.span
  pub inside : f.from + f.span ≤ f.until
  pub least : 1 ≤ f.min
  pub range : f.min ≤ f.max

-- an interval that lies ahead and has a moment
record IsAhead (now : ℕ) (i : Interval) : Type 0 where
  since : now ≤ i.from
  lasting : 0 < i.span
  inside : i.from + i.span ≤ i.until

-- none of the tests of start, end and duration holds
record IsPassed (now : ℕ) (starts ends lasts : Bool) (i : Interval) : Type 0 where
  late : (starts && ltb i.from now) ≡ false
  alone : (not starts && ends && not lasts) ≡ false
  early : (not starts && ends && lasts && ltb i.until (now + i.span)) ≡ false
  unset : (not ends && not lasts) ≡ false
  backward : (starts && ends && leb i.until i.from) ≡ false
  long : (lasts && (eqb i.span 0 || ltb i.until (i.from + i.span) || ltb greatest i.until)) ≡ false

-- the duration is not 0, and inside
duration : (now : ℕ) (starts ends : Bool) (i : Interval) → IsPassed now starts ends true i → (0 < i.span) × (i.from + i.span ≤ i.until)
duration now starts ends i passed =
    let all = or_parts (eqb i.span 0 || ltb i.until (i.from + i.span)) (ltb greatest i.until) passed.long in
    let two = or_parts (eqb i.span 0) (ltb i.until (i.from + i.span)) all.0 in
    let some = eqb-false i.span 0 two.0 in
    let within = ltb-false i.until (i.from + i.span) two.1 in
    (omega arith, within)

ahead : (now : ℕ) (start : Option Start) (end span : Option ℕ) → IsPassed now (is_some start) (is_some end) (is_some span) (interval now (option_map (moment_of now) start) end span)
    → IsAhead now (interval now (option_map (moment_of now) start) end span)
ahead now (Some start) (Some end) (Some span) passed =
    let long = duration now true true (interval now (Some (moment_of now start)) (Some end) (Some span)) passed in
    record { since = ltb-false (moment_of now start) now passed.late; lasting = long.0; inside = long.1 }
ahead now (Some start) (Some end) None passed =
    let since = ltb-false (moment_of now start) now passed.late in
    let before = leb-false end (moment_of now start) passed.backward in
    record { since = since; lasting = omega arith; inside = omega arith }
ahead now (Some start) None (Some span) passed =
    let long = duration now true false (interval now (Some (moment_of now start)) None (Some span)) passed in
    record { since = ltb-false (moment_of now start) now passed.late; lasting = long.0; inside = omega arith }
ahead now (Some start) None None passed = (let no = passed.unset in absurd (cc))
ahead now None (Some end) (Some span) passed =
    let long = duration now false true (interval now None (Some end) (Some span)) passed in
    let early = ltb-false end (now + span) passed.early in
    record { since = omega arith; lasting = long.0; inside = omega arith }
ahead now None (Some end) None passed = (let no = passed.alone in absurd (cc))
ahead now None None (Some span) passed =
    let long = duration now false false (interval now None None (Some span)) passed in
    record { since = omega arith; lasting = long.0; inside = omega arith }
ahead now None None None passed = (let no = passed.unset in absurd (cc))

-- the frame of a template that is not refused
pub frame-is : (now : ℕ) (t : ReservationTemplate) → first_refusal (frame_tests now t) ≡ None → IsFrame now (frame_of now t)
frame-is now t free =
    let f = frame_of now t in
    let four = refusal-append (name_tests t ++ start_tests now t f ++ length_tests t f ++ slot_tests f.min f.max) (other_tests t.others) free in
    let three = refusal-append (name_tests t ++ start_tests now t f ++ length_tests t f) (slot_tests f.min f.max) four.0 in
    let two = refusal-append (name_tests t ++ start_tests now t f) (length_tests t f) three.0 in
    let one = refusal-append (name_tests t) (start_tests now t f) two.0 in
    let late : Bool × Refusal = (starts t && ltb f.from now, InvalidArgument which.StartTime) in
    let alone : Bool × Refusal = (not (starts t) && ends t && not (lasts t), InvalidArgument which.StartTime) in
    let early : Bool × Refusal = (not (starts t) && ends t && lasts t && ltb f.until (now + f.span), InvalidArgument which.StartTime) in
    let unset : Bool × Refusal = (not (ends t) && not (lasts t), InvalidArgument which.Duration) in
    let backward : Bool × Refusal = (starts t && ends t && leb f.until f.from, InvalidArgument which.EndTime) in
    let long : Bool × Refusal = (lasts t && (eqb f.span 0 || ltb f.until (f.from + f.span) || ltb greatest f.until), InvalidArgument which.Duration) in
    let few : Bool × Refusal = (eqb f.min 0, InvalidArgument which.MinSlots) in
    let less : Bool × Refusal = (ltb f.max f.min, InvalidArgument which.MaxSlots) in
    let a = no_test late (alone ∷ early ∷ unset ∷ []) one.1 in
    let b = no_test alone (early ∷ unset ∷ []) a.1 in
    let c = no_test early (unset ∷ []) b.1 in
    let d = no_test unset [] c.1 in
    let e = no_test backward (long ∷ []) two.1 in
    let g = no_test long [] e.1 in
    let h = no_test few (less ∷ []) three.1 in
    let k = no_test less [] h.1 in
    let is = ahead now t.start_time t.end_time t.duration (record { late = a.0; alone = b.0; early = c.0; unset = d.0; backward = e.0; long = g.0 }) in
    let some = eqb-false f.min 0 h.0 in
    record { since = is.since; lasting = is.lasting; inside = is.inside; least = omega arith; range = ltb-false f.max f.min k.0 }
