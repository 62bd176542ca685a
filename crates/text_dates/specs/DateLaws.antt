-- The laws of dates.
use Rattle.std.proofs.Common.{◌≡◌, ℕ, ◌+◌, ◌*◌, ◌/◌, ◌%◌, ◌<◌, ◌≤◌, ◌&&◌, nat_le, true, [], pos, negsuc, Some, codes, refl, ap, subst, ◌∙◌, arith}
use Rattle.std.specs.Prelude.{ℤ, ◌+ℤ◌, ◌*ℤ◌}
use Rattle.std.proofs.lemmas.Int.{ints}
use Rattle.std.proofs.lemmas.Bool.Decides.{nat_tests}
use Rattle.std.proofs.lemmas.Option.{none-some, cond_some}
use Rattle.jiff.specs.Words.{IsDate, days_in_month}
use Rattle.jiff_core.specs.Calendar.{days_from_civil}
use Rattle.drmaa_types.specs.Moments.{greatest}
use Rattle.text_codec.specs.Formats.{IsFormat, mapped}
use Rattle.text_codec.specs.Exact.{beside, before, two}
use Rattle.text_codec.specs.ExactLaws.{beside_exact, before_exact, two_exact, exact_laws}
use Rattle.text_codec.specs.StepLaws.{bind}
use Rattle.text_codec.specs.FormatLaws.{mapped_laws}
use Rattle.text_dates.specs.declared.dates.DateTime.{DateTime}
use Rattle.text_dates.specs.Dates.{IsAt, is_date, day_number, second_of_day, moment_at, moment_of, day, time, digits, made, pairs, date}

-- the test of a date
pub date_tested : (y m d : ℕ) → is_date y m d ≡ true → IsDate (pos y) (pos m) (pos d)
date_tested y m d e = ((grind (arith, ints, nat_tests), grind (arith, ints, nat_tests)), (grind (arith, ints, nat_tests), grind (arith, ints, nat_tests)), (grind (arith, ints, nat_tests), grind (arith, ints, nat_tests)))

pub date_passes : (y m d : ℕ) → IsDate (pos y) (pos m) (pos d) → is_date y m d ≡ true
date_passes y m d h =
    let y1 : y ≤ 9999 = omega (arith, ints, h.0.1) in
    let m1 : 1 ≤ m = omega (arith, ints, h.1.0) in
    let m2 : m ≤ 12 = omega (arith, ints, h.1.1) in
    let d1 : 1 ≤ d = omega (arith, ints, h.2.0) in
    let d2 : d ≤ days_in_month (pos y) m = omega (arith, ints, h.2.1) in
    grind (arith, nat_tests)

-- what is spelled in pairs of digits
digits_laws : IsFormat digits
unfolding digits day time
digits_laws = exact_laws _ (before_exact (codes "Z") _ refl (beside_exact (codes "T") _ _ refl
    (beside_exact (codes "-") _ _ refl (beside_exact [] two two refl two_exact two_exact) (beside_exact (codes "-") two two refl two_exact two_exact))
    (beside_exact (codes ":") two _ refl two_exact (beside_exact (codes ":") two two refl two_exact two_exact))))

pairs_made : (p : ((ℕ × ℕ) × (ℕ × ℕ)) × (ℕ × (ℕ × ℕ))) → p.0.0.1 < 100 → pairs (made p) ≡ p
pairs_made p l =
    let high : (p.0.0.0 * 100 + p.0.0.1) / 100 ≡ p.0.0.0 = omega (arith, l) in
    let low : (p.0.0.0 * 100 + p.0.0.1) % 100 ≡ p.0.0.1 = omega (arith, l) in
    rw (high, low) refl

made_pairs : (d : DateTime) → made (pairs d) ≡ d
made_pairs d = let year : d.year / 100 * 100 + d.year % 100 ≡ d.year = omega arith in rw year refl

-- what is valid is two digits each
digits_below : (p : ((ℕ × ℕ) × (ℕ × ℕ)) × (ℕ × (ℕ × ℕ))) → digits.valid p → p.0.0.1 < 100
unfolding digits day time before beside two
digits_below p v = v.0.0.1

pub date_laws : IsFormat date
unfolding date
date_laws = mapped_laws made pairs digits digits_laws (λ p v. pairs_made p (digits_below p v)) (λ d v. made_pairs d)

-- a date with a moment is of digits
pub dated_digits : (d : DateTime) (m : ℕ) → moment_of d ≡ Some m → date.valid d
unfolding moment_of date digits day time mapped before beside two
dated_digits d m e = bind (day_number d) _ m e (λ n a b. bind (second_of_day d) _ m b (λ s c f.
    let k = cond_some (is_date d.year d.month d.day) (days_from_civil (pos d.year) d.month d.day) n a in
    let l = cond_some (nat_le d.hour 23 && nat_le d.minute 59 && nat_le d.second 59) (d.hour * 3600 + d.minute * 60 + d.second) s c in
    let t = small d k.0 l.0 in
    (((omega (arith, t), omega arith), (omega (arith, t), omega (arith, t))), (omega (arith, t), (omega (arith, t), omega (arith, t))))))
  where
    small : (d : DateTime) → is_date d.year d.month d.day ≡ true → (nat_le d.hour 23 && nat_le d.minute 59 && nat_le d.second 59) ≡ true → (d.year ≤ 9999) × (d.month ≤ 12) × (d.day ≤ 31) × (d.hour ≤ 23) × (d.minute ≤ 59) × (d.second ≤ 59)
    small d h k = (grind (arith, nat_tests), grind (arith, nat_tests), grind (arith, nat_tests), grind (arith, nat_tests), grind (arith, nat_tests), grind (arith, nat_tests))

-- the moment of a date is what the definition says
pub moment_is : (d : DateTime) (m : ℕ) → moment_of d ≡ Some m → IsAt d m
unfolding moment_of
moment_is d m e = bind (day_number d) _ m e (λ n a b. bind (second_of_day d) _ m b (λ s c f.
    let k = cond_some (is_date d.year d.month d.day) (days_from_civil (pos d.year) d.month d.day) n a in
    let l = cond_some (nat_le d.hour 23 && nat_le d.minute 59 && nat_le d.second 59) (d.hour * 3600 + d.minute * 60 + d.second) s c in
    let at = at_moment _ m f in
    record {
      date = date_tested d.year d.month d.day k.0;
      hour = grind (arith, nat_tests);
      minute = grind (arith, nat_tests);
      second = grind (arith, nat_tests);
      value = ap (λ x. (x *ℤ pos 86_400) +ℤ pos (d.hour * 3600 + d.minute * 60 + d.second)) k.1 ∙ ap (λ x. (n *ℤ pos 86_400) +ℤ pos x) l.1 ∙ at.0;
      within = at.1;
    }))
  where
    at_moment : (z : ℤ) (m : ℕ) → moment_at z ≡ Some m → (z ≡ pos m) × (m ≤ greatest)
    at_moment (pos n) m f =
        let k = cond_some (nat_le n greatest) n m f in
        subst (λ x. (pos n ≡ pos x) × (x ≤ greatest)) k.1 (refl, grind (arith, nat_tests))
    at_moment (negsuc n) m f = absurd (none-some _ f)

pub is_moment : (d : DateTime) (m : ℕ) → IsAt d m → moment_of d ≡ Some m
unfolding moment_of
is_moment d m h =
    let passes = date_passes d.year d.month d.day h.date in
    let clock : (nat_le d.hour 23 && nat_le d.minute 59 && nat_le d.second 59) ≡ true = in_day d.hour d.minute d.second h.hour h.minute h.second in
    let within : nat_le m greatest ≡ true = below m greatest h.within in
    rw (passes, clock, h.value, within) refl
  where
    below : (a b : ℕ) → a ≤ b → nat_le a b ≡ true
    below a b l = grind (arith, nat_tests)

    in_day : (a b c : ℕ) → a ≤ 23 → b ≤ 59 → c ≤ 59 → (nat_le a 23 && nat_le b 59 && nat_le c 59) ≡ true
    in_day a b c p q r = grind (arith, nat_tests)
