-- The laws of occurrences.
use Rattle.std.proofs.Common.{◌≡◌, ℕ, ◌+◌, ◌*◌, ◌<◌, ◌≤◌, List, length, map, get_or, Result, Ok, Err, IfOk, IfErr, inl, inr, sym, ap, ◌∙◌, arith}
use Rattle.std.specs.Prelude.{◌⊎◌}
use Rattle.std.proofs.Math.Nat.{mul-le-mul_left}
use Rattle.std.proofs.lemmas.List.{ext_get_or}
use Rattle.std.proofs.lemmas.Option.{none-some, same_Some}
use Rattle.drmaa_types.specs.Moments.{greatest}
use Rattle.drmaa_types.specs.declared.refusals.Refusal.{Refusal}
use Rattle.drmaa_types.specs.declared.refusals.Refusal.TheVariants.{OutOfMemory}
use Rattle.job_template.specs.declared.templates.ReservationTemplate.{ReservationTemplate}
use Rattle.recurring_reservations.specs.declared.recurrences.Every.{Every}
use Rattle.recurring_reservations.specs.declared.recurrences.Every.TheVariants.{Days, Weeks, Months}
use Rattle.recurring_reservations.specs.declared.recurrences.Recurring.{Recurring}
use Rattle.recurring_reservations.specs.DateLaws.{one-later, later-rise}
use Rattle.recurring_reservations.specs.Occurrences.{number_in, IsOccurrence, first_start, lasting, IsLate, HasNone, by_test, by_end, AreStarts, from_moment, AreOccurrences}

-- ---- one list

pub one-occurrence : (m : ℕ) (every : Every) (i x y : ℕ) → IsOccurrence m every i x → IsOccurrence m every i y → x ≡ y
one-occurrence m (Days n) i x y first second = first ∙ sym second
one-occurrence m (Weeks n) i x y first second = first ∙ sym second
one-occurrence m (Months n) i x y first second = one-later m (n * i) x y first second

one-start : (m : ℕ) (every : Every) (count seconds : ℕ) (xs ys : List ℕ) → AreStarts m every count seconds xs → AreStarts m every count seconds ys → xs ≡ ys
one-start m every count seconds xs ys first second =
    let same : length xs ≡ count = first.number in
    ext_get_or 0 xs ys (first.number ∙ sym second.number)
    (λ i inside. (let listed : i < count = omega (arith, same) in one-occurrence m every i (get_or xs i 0) (get_or ys i 0) (first.each i listed) (second.each i listed)))

pub one-list : (r : Recurring) (ones others : List ReservationTemplate) → AreOccurrences r ones → AreOccurrences r others → ones ≡ others
one-list r ones others first second =
    first.templates_are
    ∙ ap (map (from_moment r.template)) (one-start (first_start r) r.every r.count (lasting r) first.starts second.starts first.occur second.occur)
    ∙ sym second.templates_are

-- ---- or none

pub not-late : (m : ℕ) (every : Every) (count seconds : ℕ) (xs : List ℕ) → AreStarts m every count seconds xs → IsLate m every count seconds → ⊥
not-late m every count seconds xs occur late =
    let same = one-occurrence m every late.place late.from (get_or xs late.place 0) late.occurs (occur.each late.place late.listed) in
    let above = late.above in
    let within = occur.within late.place late.listed in
    omega arith

pub not-both : (r : Recurring) (templates : List ReservationTemplate) (reason : Refusal) → AreOccurrences r templates → HasNone r reason → ⊥
not-both r templates reason all (by_test e) = none-some _ (sym all.tested ∙ e)
not-both r templates reason all (by_end free late e) = not-late (first_start r) r.every r.count (lasting r) all.starts all.occur late

-- and one reason to have none
one-reason : (r : Recurring) (a b : Refusal) → HasNone r a → HasNone r b → a ≡ b
one-reason r a b (by_test e) (by_test f) = same_Some a b (sym e ∙ f)
one-reason r a b (by_test e) (by_end free late is) = absurd (none-some a (sym free ∙ e))
one-reason r a b (by_end free late is) (by_test f) = absurd (none-some b (sym free ∙ f))
one-reason r a b (by_end free late is) (by_end free_too late_too is_too) = is ∙ sym is_too

same-error : (a b : Refusal) → a ≡ b → ◌≡◌ {A = Result (List ReservationTemplate) Refusal} (Err a) (Err b)
same-error a b e = cc

-- so an answer that tells nothing else tells that reason
pub tells-reason : (r : Recurring) (result : Result (List ReservationTemplate) Refusal) → IfOk result (AreOccurrences r) → IfErr result (λ why. (why ≡ OutOfMemory) ⊎ HasNone r why)
    → (reason : Refusal) → HasNone r reason → (result ≡ Err reason) ⊎ (result ≡ Err OutOfMemory)
tells-reason r (Ok templates) ok err reason has = absurd (not-both r templates reason ok has)
tells-reason r (Err why) ok (inl memory) reason has = inr (same-error why OutOfMemory memory)
tells-reason r (Err why) ok (inr other) reason has = inl (same-error why reason (one-reason r why reason other has))

-- ---- each later than the one before

times-more : (n i j : ℕ) → i < j → n * (i + 1) ≤ n * j
times-more n i j less = let next : i + 1 ≤ j = omega arith in mul-le-mul_left n next

spaced : (m step i j x y : ℕ) → 1 ≤ step → x ≡ m + step * i → y ≡ m + step * j → i < j → x < y
spaced m step i j x y least first second less =
    let more = times-more step i j less in
    omega arith

pub rise : (m : ℕ) (every : Every) (i j x y : ℕ) → 1 ≤ number_in every → IsOccurrence m every i x → IsOccurrence m every j y → x ≤ greatest → i < j → x < y
rise m (Days n) i j x y least first second within less = spaced m (86_400 * n) i j x y (omega arith) first second less
rise m (Weeks n) i j x y least first second within less = spaced m (7 * (86_400 * n)) i j x y (omega arith) (omega (arith, first)) (omega (arith, second)) less
rise m (Months n) i j x y least first second within less =
    let more = times-more n i j less in
    later-rise m (n * i) (n * j) x y first second within (omega arith)
