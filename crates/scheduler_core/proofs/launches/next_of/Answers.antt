use Rattle.std.proofs.Common.{◌≡◌, ◌+◌, ℕ, List, sym, ◌∙◌, ap, subst, arith}
use Rattle.drmaa_types.specs.declared.moments.End.{End}
use Rattle.drmaa_model.specs.declared.courses.Course.{Course}
use Rattle.drmaa_model.specs.declared.replies.Launch.{Launch}
use Rattle.drmaa_model.specs.Courses.{planned_end, launched}
use Rattle.scheduler_core.specs.declared.launches.NextLaunch.{NextLaunch}
use Rattle.plan_book.specs.declared.moves.Booked.{Booked}
use Rattle.plan_book.specs.declared.moves.Move.{Move}
use Rattle.plan_book.specs.declared.moves.Edit.TheVariants.{Keep}
use Rattle.plan_book.specs.Book.{plan_of}
use Rattle.scheduler_core.specs.Launches.{seen_row, launch_booking, launch-move, IsLaunchOf}
use Rattle.scheduler_core.proofs.LaunchSteps.{seen-ready, seen-slots}
use Rattle.scheduler_core.proofs.launches.next_of.Goals as goal

pub slots_at-slots-requires-clause-least : goal.slots_at-slots-requires-clause-least
slots_at-slots-requires-clause-least c = c.requires.least

pub slots_at-slots-requires-clause-free : goal.slots_at-slots-requires-clause-free
slots_at-slots-requires-clause-free c = (let free = (seen-ready (plan_of c.args.book.now) c.args.moment c.args.row.now c.requires.ready).free in let used = c.requires.used in omega arith)

pub slots_at-slots-requires-clause-has : goal.slots_at-slots-requires-clause-has
slots_at-slots-requires-clause-has c = (seen-ready (plan_of c.args.book.now) c.args.moment c.args.row.now c.requires.ready).has

pub returns : goal.returns
returns c =
    let p = plan_of c.args.book.now in
    let m = c.args.moment in
    let row = c.args.row.now in
    let n = c.slots_at-slots.result in
    let course = (seen_row m p row).course in
    let before : c.course_then-before.result ≡ course = c.course_then-before.ensures in
    let planned : c.planned_end-planned.result ≡ planned_end row.wants m = c.planned_end-planned.ensures in
    let after : c.launched-after.result ≡ launched m n (planned_end row.wants m) course =
    c.launched-after.ensures ∙ ap (λ (e : End). launched m n e c.course_then-before.result) planned ∙ ap (launched m n (planned_end row.wants m)) before in
    let booked : c.booking_of.result ≡ launch_booking row m n (planned_end row.wants m) = c.booking_of.ensures ∙ ap (launch_booking row m n) planned in
    let mk : Course → Course → Booked → Move = λ b a k. record { job = row.job; home = row.home; before = b; after = a; orders = Keep; booked = k } in
    let move : mk c.course_then-before.result c.launched-after.result c.booking_of.result ≡ launch-move m (record row { course = course }) n =
    ap (λ (b : Course). mk b c.launched-after.result c.booking_of.result) before ∙ ap (λ (a : Course). mk course a c.booking_of.result) after ∙ ap (mk course (launched m n (planned_end row.wants m) course)) booked in
    let told : Course → List (List ℕ) → Launch = λ b words. record { job = row.job; attempt = b.attempt + 1; slots = n; words = words } in
    let next : NextLaunch = record { m = mk c.course_then-before.result c.launched-after.result c.booking_of.result; launch = told c.course_then-before.result c.in_ok-words_of.field-0 } in
    subst (λ (k : ℕ). IsLaunchOf (record row { course = course }) m k next) (sym (seen-slots p m row n c.requires.ready c.requires.range c.slots_at-slots.ensures))
    (record {
      move_is = move;
      launch_is = ap (λ (b : Course). told b c.in_ok-words_of.field-0) before ∙ ap (told course) (c.in_ok-words_of.ensures {u = tt});
    })
