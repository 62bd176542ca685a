-- There is one forecast at most.
use Rattle.std.proofs.Common.{◌≡◌, ℕ, ◌+◌, ◌<◌, ◌≤◌, Bool, true, false, cond, inl, inr, List, [], ◌∷◌, filter, Option, Some, refl, sym, ◌∙◌, ap, subst, arith}
use Rattle.std.specs.Prelude.{nat_le}
use Rattle.std.specs.List.{AllByRecursion}
use Rattle.std.specs.Option.{option_map_or}
use Rattle.std.proofs.lemmas.Bool.{cases_lt, cases_order, le-leb, lt-leb, leb-true, false≢true}
use Rattle.drmaa_types.specs.declared.identifiers.CallerId.{CallerId}
use Rattle.drmaa_types.specs.declared.identifiers.JobId.{JobId}
use Rattle.drmaa_types.specs.declared.states.Exit.{Exit}
use Rattle.drmaa_types.specs.declared.states.Exit.TheVariants.{Code}
use Rattle.drmaa_model.specs.declared.calls.Call.{Call}
use Rattle.drmaa_model.specs.declared.calls.Call.TheVariants as call
use Rattle.drmaa_model.specs.declared.entries.Entry.{Entry}
use Rattle.drmaa_model.specs.declared.replies.Reply.{Reply}
use Rattle.drmaa_model.specs.declared.rows.Row.{Row}
use Rattle.drmaa_model.specs.AnswerLaws.{given-reply}
use Rattle.drmaa_model.specs.Consistent.{IsConsistent}
use Rattle.drmaa_model.specs.Effects.{gives, nothing}
use Rattle.drmaa_model.specs.History.{after_entry, replay_from, IsLegalFrom}
use Rattle.drmaa_model.specs.RowLaws.{all-both, all-filter, all-implied, all-passes}
use Rattle.drmaa_model.specs.Rows.{row_of}
use Rattle.drmaa_model.specs.StepLaws.{step-consistent, step-moment}
use Rattle.drmaa_model.specs.Steps.{answer, IsStep}
use Rattle.drmaa_model.specs.Time.{advance}
use Rattle.drmaa_model.specs.World.{World}
use Rattle.forecast_laws.specs.EventLaws.{filter-none}
use Rattle.forecast_laws.specs.Forecasts.{IsDone, IsForeseen, ends, launches, AreForeseen, EndsBefore, Precedes, AreInSequence, world_by, IsForecast}
use Rattle.forecast_laws.specs.ForeseenLaws.{is_ending_in, none-of, ending-advance, same-job, IsEndOf, answer-of, exit-of, step-ending, end-ending}

-- ---- the entries at one moment

-- they leave a job that is to end so, where none is its end
run-ending : (es : List Entry) (w : World) (x : ℕ) (job : JobId) → IsConsistent w → IsLegalFrom w es → AreForeseen w es
    → AllByRecursion (λ (e : Entry). (e.at ≡ x) × (IsEndOf job e → ⊥)) es → is_ending_in job (advance w x).plan.rows ≡ true → is_ending_in job (advance (replay_from w es) x).plan.rows ≡ true
run-ending [] w x job ok legal foreseen apart is = is
run-ending (e ∷ es) w x job ok legal foreseen apart is =
    let next = after_entry w e in
    let here : is_ending_in job (advance w e.at).plan.rows ≡ true = subst (λ (n : ℕ). is_ending_in job (advance w n).plan.rows ≡ true) (sym apart.0.0) is in
    run-ending es next x job (step-consistent w e next ok legal.0) legal.1 foreseen.1 apart.1
    (ending-advance (next.entries + 1) x next.plan job (step-ending w e next job ok legal.0 foreseen.0.1 apart.0.1 here))

-- ---- the entries up to a moment

abbrev up_to : ℕ → Entry → Bool
up_to x e = nat_le e.at x

-- where the first is later, all are
cut-none : (x : ℕ) (e : Entry) (es : List Entry) → x < e.at → AllByRecursion (Precedes e) es → filter (up_to x) es ≡ []
cut-none x e es later sequence = filter-none (up_to x) es (all-implied (Precedes e) (λ (f : Entry). up_to x f ≡ false) (λ f p. lt-leb f.at x (let t = p.time in omega (arith, later, t))) es sequence)

cut-front : (x : ℕ) (e : Entry) (es : List Entry) → e.at ≤ x → filter (up_to x) (e ∷ es) ≡ e ∷ filter (up_to x) es
cut-front x e es early = ap (λ b. cond b (e ∷ filter (up_to x) es) (filter (up_to x) es)) (le-leb e.at x early)

cut-all : (x : ℕ) (e : Entry) (es : List Entry) → x < e.at → AllByRecursion (Precedes e) es → filter (up_to x) (e ∷ es) ≡ []
cut-all x e es later sequence = ap (λ b. cond b (e ∷ filter (up_to x) es) (filter (up_to x) es)) (lt-leb e.at x later) ∙ cut-none x e es later sequence

-- they are legal and foreseen, as the first ones
cut-legal : (x : ℕ) (w : World) (es : List Entry) → AreInSequence es → IsLegalFrom w es → IsLegalFrom w (filter (up_to x) es)
cut-legal x w [] sequence legal = tt
cut-legal x w (e ∷ es) sequence legal = elim (cases_lt x e.at) [
  | inl later ↦ subst (IsLegalFrom w) (sym (cut-all x e es later sequence.0)) tt
  | inr early ↦ subst (IsLegalFrom w) (sym (cut-front x e es early)) (legal.0, cut-legal x (after_entry w e) es sequence.1 legal.1)
]

cut-foreseen : (x : ℕ) (w : World) (es : List Entry) → AreInSequence es → AreForeseen w es → AreForeseen w (filter (up_to x) es)
cut-foreseen x w [] sequence all = tt
cut-foreseen x w (e ∷ es) sequence all = elim (cases_lt x e.at) [
  | inl later ↦ subst (AreForeseen w) (sym (cut-all x e es later sequence.0)) tt
  | inr early ↦ subst (AreForeseen w) (sym (cut-front x e es early)) (all.0, cut-foreseen x (after_entry w e) es sequence.1 all.1)
]

-- ---- the first entry

-- no entry is foreseen where nothing is left to do
none-foreseen : (w : World) (e : Entry) (next : World) → IsConsistent w → IsStep w e next → IsForeseen w e → IsDone w e.at → ⊥
none-foreseen w e next ok step (ends job attempt same told asked) done =
    false≢true (sym (none-of job (advance w e.at).plan.rows done.ended) ∙ end-ending w e next job attempt ok step same told asked)
none-foreseen w e next ok step (launches same) done = apart e.reply next (sym done.launched ∙ answer-of w e next call.TakeLaunch step same) where
  apart : (r : Reply) (v : World) → nothing ≡ gives r v → ⊥
  apart r v h = cc

-- a job that is to end has its end among the entries at that moment: the first of them, or another end before it
must-end : (w : World) (e : Entry) (es : List Entry) (job : JobId) → IsConsistent w → IsForecast w (e ∷ es) → is_ending_in job (advance w e.at).plan.rows ≡ true
    → (EndsBefore job e → ⊥) → (IsEndOf job e → ⊥) → ⊥
must-end w e es job ok all is before own =
    let here = cut-front e.at e es (omega arith) in
    let apart : AllByRecursion (λ (f : Entry). (f.at ≡ e.at) × (IsEndOf job f → ⊥)) (e ∷ filter (up_to e.at) es) = (
      (refl, own),
      all-implied (λ (f : Entry). Precedes e f × (up_to e.at f ≡ true)) (λ (f : Entry). (f.at ≡ e.at) × (IsEndOf job f → ⊥))
          (λ f both. (let same : f.at ≡ e.at = (let t = both.0.time in let u = leb-true f.at e.at both.1 in omega (arith, t, u)) in
          (same, λ end. before (both.0.ends_first (sym same) job end.0 end.1 end.2))))
          (filter (up_to e.at) es) (all-both (Precedes e) (λ (f : Entry). up_to e.at f ≡ true) (filter (up_to e.at) es) (all-filter (Precedes e) (up_to e.at) es all.sequence.0) (all-passes (up_to e.at) es)),
    ) in
    let done = all.done e.at all.since.0 (let h = all.within.0 in omega (arith, h)) in
    let stays = run-ending (filter (up_to e.at) (e ∷ es)) w e.at job ok (cut-legal e.at w (e ∷ es) all.sequence all.legal) (cut-foreseen e.at w (e ∷ es) all.sequence all.foreseen)
    (subst (AllByRecursion (λ (f : Entry). (f.at ≡ e.at) × (IsEndOf job f → ⊥))) (sym here) apart) is in
    false≢true (sym (none-of job (advance (world_by w (e ∷ es) e.at) e.at).plan.rows done.ended) ∙ stays)

-- the first entries of two forecasts are at one moment
not-earlier : (w : World) (e f : Entry) (es fs : List Entry) → IsConsistent w → IsForecast w (e ∷ es) → IsForecast w (f ∷ fs) → e.at < f.at → ⊥
not-earlier w e f es fs ok one two early =
    let done = two.done e.at one.since.0 (let h = one.within.0 in omega (arith, h)) in
    none-foreseen w e (after_entry w e) ok one.legal.0 one.foreseen.0.1
    (subst (λ (gs : List Entry). IsDone (replay_from w gs) e.at) (cut-all e.at f fs early two.sequence.0) done)

entry-same : (e f : Entry) → e.caller ≡ f.caller → e.at ≡ f.at → e.call ≡ f.call → e.reply ≡ f.reply → e ≡ f
entry-same e f a b c d =
    ap (λ (x : CallerId). let g : Entry = record e { caller = x } in g) a ∙ ap (λ (x : ℕ). let g : Entry = record e { caller = f.caller; at = x } in g) b
    ∙ ap (λ (x : Call). let g : Entry = record f { call = x; reply = e.reply } in g) c ∙ ap (λ (x : Reply). let g : Entry = record f { reply = x } in g) d

job-of : (j k : JobId) (a b : ℕ) (x y : Exit) → call.Exited j a x ≡ call.Exited k b y → j ≡ k
job-of j k a b x y same = cc

not-launch : (j : JobId) (a : ℕ) (x : Exit) → call.Exited j a x ≡ call.TakeLaunch → ⊥
not-launch j a x same = cc

-- the end of a job that is to end, or of one of a lesser number, comes first; so the end of one of a greater number does not
first-ends : (w : World) (e f : Entry) (fs : List Entry) (job other : JobId) (attempt : ℕ) → IsConsistent w → IsForecast w (f ∷ fs) → e.at ≡ f.at
    → is_ending_in job (advance w e.at).plan.rows ≡ true → f.call ≡ call.Exited other attempt (Code 0) → job.0 < other.0 → ⊥
first-ends w e f fs job other attempt ok two same is reports below =
    must-end w f fs job ok two (subst (λ (n : ℕ). is_ending_in job (advance w n).plan.rows ≡ true) same is)
    (λ before. (let number = job-of before.other other before.attempt attempt before.exit (Code 0) (sym before.reports ∙ reports) in
    let low = before.below in let eq : before.other.0 ≡ other.0 = ap (λ (j : JobId). j.0) number in omega (arith, low, eq, below)))
    (λ own. (let number = job-of job other own.0 attempt own.1 (Code 0) (sym own.2 ∙ reports) in
    let eq : job.0 ≡ other.0 = ap (λ (j : JobId). j.0) number in omega (arith, eq, below)))

-- nor does a launch
first-launch : (w : World) (e f : Entry) (fs : List Entry) (job : JobId) → IsConsistent w → IsForecast w (f ∷ fs) → e.at ≡ f.at
    → is_ending_in job (advance w e.at).plan.rows ≡ true → f.call ≡ call.TakeLaunch → ⊥
first-launch w e f fs job ok two same is launch =
    must-end w f fs job ok two (subst (λ (n : ℕ). is_ending_in job (advance w n).plan.rows ≡ true) same is)
    (λ before. not-launch before.other before.attempt before.exit (sym before.reports ∙ launch))
    (λ own. not-launch job own.0 own.1 (sym own.2 ∙ launch))

first-same : (w : World) (e f : Entry) (es fs : List Entry) → IsConsistent w → IsForecast w (e ∷ es) → IsForecast w (f ∷ fs) → e.at ≡ f.at
    → IsForeseen w e → IsForeseen w f → (e.call ≡ f.call) × (e.reply ≡ f.reply)
first-same w e f es fs ok one two same (ends j a calls told asked) (ends k b calls' told' asked') =
    let end = exit-of w e (after_entry w e) j a ok one.legal.0 calls told in
    let end' = exit-of w f (after_entry w f) k b ok two.legal.0 calls' told' in
    let is = end-ending w e (after_entry w e) j a ok one.legal.0 calls told asked in
    let is' = end-ending w f (after_entry w f) k b ok two.legal.0 calls' told' asked' in
    elim (cases_order j.0 k.0) [
      | inl equal ↦
          (let number = same-job j k equal in
          let there : row_of end'.row.job (advance w e.at).plan.rows ≡ Some end'.row = ap (λ (n : ℕ). row_of end'.row.job (advance w n).plan.rows) same ∙ end'.moves.found in
          let job_is : end.row.job ≡ end'.row.job = end.number ∙ number ∙ sym end'.number in
          let row_is : Some end.row ≡ Some end'.row = sym end.moves.found ∙ ap (λ (n : JobId). row_of n (advance w e.at).plan.rows) job_is ∙ there in
          let attempt : a ≡ b = sym end.attempt_is ∙ ap (λ (o : Option Row). option_map_or (λ (r : Row). r.course.attempt) o 0) row_is ∙ end'.attempt_is in
          (calls ∙ ap (λ (n : JobId). call.Exited n a (Code 0)) number ∙ ap (λ (n : ℕ). call.Exited k n (Code 0)) attempt ∙ sym calls', told ∙ sym told'))
      | inr (inl below) ↦ absurd (first-ends w e f fs j k b ok two same is calls' below)
      | inr (inr above) ↦ absurd (first-ends w f e es k j a ok one (sym same) is' calls above)
    ]
first-same w e f es fs ok one two same (ends j a calls told asked) (launches calls') =
    absurd (first-launch w e f fs j ok two same (end-ending w e (after_entry w e) j a ok one.legal.0 calls told asked) calls')
first-same w e f es fs ok one two same (launches calls) (ends k b calls' told' asked') =
    absurd (first-launch w f e es k ok one (sym same) (end-ending w f (after_entry w f) k b ok two.legal.0 calls' told' asked') calls)
first-same w e f es fs ok one two same (launches calls) (launches calls') =
    let here = answer-of w e (after_entry w e) call.TakeLaunch one.legal.0 calls in
    let there = answer-of w f (after_entry w f) call.TakeLaunch two.legal.0 calls' in
    (calls ∙ sym calls', given-reply e.reply f.reply (after_entry w e) (after_entry w f) (sym here ∙ ap (λ (n : ℕ). answer w n call.TakeLaunch) same ∙ there))

-- ---- all entries

-- what is left of a forecast after its first entry is one from there on
tail : (w : World) (e : Entry) (es : List Entry) → IsConsistent w → IsForecast w (e ∷ es) → IsForecast (after_entry w e) es
tail w e es ok all =
    let next = after_entry w e in
    let moment : next.plan.moment ≡ e.at = (let m = step-moment w e next ok all.legal.0 in let s = all.since.0 in omega (arith, m, s)) in
    record {
      legal = all.legal.1;
      foreseen = all.foreseen.1;
      sequence = all.sequence.1;
      since = all-implied (Precedes e) (λ (f : Entry). (after_entry w e).plan.moment ≤ f.at) (λ f p. (let t = p.time in omega (arith, t, moment))) es all.sequence.0;
      within = all.within.1;
      done = λ x low high. subst (λ (gs : List Entry). IsDone (replay_from w gs) x) (cut-front x e es (omega (arith, low, moment))) (all.done x (let s = all.since.0 in omega (arith, low, moment, s)) high);
    }

pub one-forecast : (es fs : List Entry) (w : World) → IsConsistent w → IsForecast w es → IsForecast w fs → es ≡ fs
one-forecast [] [] w ok one two = refl
one-forecast [] (f ∷ fs) w ok one two =
    absurd (none-foreseen w f (after_entry w f) ok two.legal.0 two.foreseen.0.1 (one.done f.at two.since.0 (let h = two.within.0 in omega (arith, h))))
one-forecast (e ∷ es) [] w ok one two =
    absurd (none-foreseen w e (after_entry w e) ok one.legal.0 one.foreseen.0.1 (two.done e.at one.since.0 (let h = one.within.0 in omega (arith, h))))
one-forecast (e ∷ es) (f ∷ fs) w ok one two =
    let same : e.at ≡ f.at = (elim (cases_order e.at f.at) [
      | inl equal ↦ equal
      | inr (inl below) ↦ absurd (not-earlier w e f es fs ok one two below)
      | inr (inr above) ↦ absurd (not-earlier w f e fs es ok two one above)
    ]) in
    let both = first-same w e f es fs ok one two same one.foreseen.0.1 two.foreseen.0.1 in
    let first : e ≡ f = entry-same e f (one.foreseen.0.0 ∙ sym two.foreseen.0.0) same both.0 both.1 in
    let rest : es ≡ fs = one-forecast es fs (after_entry w e) (step-consistent w e (after_entry w e) ok one.legal.0) (tail w e es ok one)
    (subst (λ (g : Entry). IsForecast (after_entry w g) fs) (sym first) (tail w f fs ok two)) in
    ap (λ (g : Entry). g ∷ es) first ∙ ap (λ (gs : List Entry). f ∷ gs) rest
