use Rattle.std.proofs.Common.{◌≡◌, ◌+◌, Option, Some, None, refl, arith}
use Rattle.std.specs.Option.{IfNone, IfSome, IsNone}
use Rattle.reservation_calendar.proofs.Ties.{low_start_fits, fitting_low_start}
use Rattle.reservation_calendar.proofs.calendar.Calendar.earliest.Goals as goal

if_none : {T : Type 0} (P : Type 0) (r : Option T) → IfNone r P → IsNone r → P
if_none P None h e = h
if_none P (Some x) h e = cc

none_if : {T : Type 0} (P : T → Type 0) (r : Option T) → IfSome r P → ((x : T) → P x → ⊥) → IsNone r
none_if P None h never = refl
none_if P (Some x) h never = absurd (never x h)

if_some : {T : Type 0} (P Q : T → Type 0) (r : Option T) → ((x : T) → P x → Q x) → IfSome r P → IfSome r Q
if_some P Q None turn h = tt
if_some P Q (Some x) turn h = turn x h

pub returns-clause-least : goal.returns-clause-least
returns-clause-least c =
    let bs = c.self.inside.bookings in
    let steps = c.self.inside.timeline.steps in
    let total = c.self.inside.total in
    let room : total ≡ c.in-Some.most + c.args.slots = omega (arith, c.in-Some.ensures) in
    rw (← c.self.view_is)
    (if_some _ _ c.earliest.result (λ x least y fitting. least y (fitting_low_start bs steps total c.self.invariant c.args.slots c.in-Some.most room c.args.from c.args.until c.args.span y fitting)) c.earliest.ensures.least)

pub returns-clause-none : goal.returns-clause-none
returns-clause-none c =
    let bs = c.self.inside.bookings in
    let steps = c.self.inside.timeline.steps in
    let total = c.self.inside.total in
    let room : total ≡ c.in-Some.most + c.args.slots = omega (arith, c.in-Some.ensures) in
    rw (← c.self.view_is) (
      λ none y fitting. if_none _ c.earliest.result c.earliest.ensures.none none y (fitting_low_start bs steps total c.self.invariant c.args.slots c.in-Some.most room c.args.from c.args.until c.args.span y fitting),
      λ never. none_if _ c.earliest.result c.earliest.ensures.low (λ x low. never x (low_start_fits bs steps total c.self.invariant c.args.slots c.in-Some.most room c.args.from c.args.until c.args.span x low)),
    )
