use Rattle.std.proofs.Common.{◌≡◌, ◌≤◌, ℕ, List, filter, length, sym, ◌∙◌, ap, arith}
use Rattle.drmaa_model.specs.declared.rows.Row.{Row}
use Rattle.drmaa_model.specs.Controlling.{is_controlled}
use Rattle.drmaa_model.specs.Fit.{IsFit}
use Rattle.drmaa_model.specs.FitLaws.{advance-fit}
use Rattle.drmaa_model.specs.Time.{advance_plan, come_to, let_go, lasts, lapsed, called_in, rows_at}
use Rattle.drmaa_model.specs.TimeLaws.{timed, map-twice, weight-advance}
use Rattle.plan_book.specs.Book.{plan_of}
use Rattle.plan_book.specs.Meant.{rows_of}
use Rattle.plan_book.specs.Sweeps.{acted}
use Rattle.plan_book.proofs.MeantLaws.{acted-part}
use Rattle.plan_book.proofs.SweepLaws.{filter-map, acted-promised}
use Rattle.plan_book.proofs.book.Book.acted.Goals as goal
use Rattle.plan_book.proofs.book.Book.acted.Goals.{After-moment_at}

-- those among these are those of all
among : (c : After-moment_at) → length (filter (λ (row : Row). is_controlled c.args.target.now c.args.what (timed c.moment_at.result (filter (lasts c.moment_at.result) (plan_of c.args.self.now).reservations) row)) (rows_of c.meant_rows.result)) ≡ acted c.args.target.now c.args.what (rows_at c.args.at (plan_of c.args.self.now))
among c =
    let p = plan_of c.args.self.now in
    let q = let_go (come_to c.args.at p) in
    let t = c.args.target.now in
    let what = c.args.what in
    let count : ℕ → ℕ = λ m. length (filter (λ (row : Row). is_controlled t what (timed m (filter (lasts m) p.reservations) row)) p.rows) in
    ap length (acted-part c.moment_at.result (filter (lasts c.moment_at.result) p.reservations) t what p.rows (rows_of c.meant_rows.result) c.meant_rows.ensures)
    ∙ ap count c.moment_at.ensures
    ∙ sym (filter-map (is_controlled t what) (timed q.moment q.reservations) p.rows)
    ∙ ap (λ (rows : List Row). length (filter (is_controlled t what) rows)) (map-twice (called_in q.moment q.reservations) (lapsed q.moment q.reservations) p.rows)

-- they are few
among-few : (c : After-moment_at) → acted c.args.target.now c.args.what (rows_at c.args.at (plan_of c.args.self.now)) ≤ 4_000_000
among-few c =
    let p = plan_of c.args.self.now in
    let q = advance_plan 0 c.args.at p in
    let fit : IsFit q = advance-fit 0 c.args.at p c.requires.book.fit in
    let few = acted-promised c.args.target.now c.args.what q.rows fit.sound in
    omega (arith, few, weight-advance 0 c.args.at p, c.requires.book.light)

pub acted_among-requires-clause-few : goal.acted_among-requires-clause-few
acted_among-requires-clause-few c =
    let here = (goal.at.acted_among-requires-clause-few c).After-moment_at in
    omega (arith, among here, among-few here)

pub returns-clause-value : goal.returns-clause-value
returns-clause-value c = c.acted_among.ensures ∙ among (goal.at.returns-clause-value c).After-moment_at

pub returns-clause-few : goal.returns-clause-few
returns-clause-few c =
    let here = (goal.at.returns-clause-few c).After-moment_at in
    omega (arith, c.acted_among.ensures, among here, among-few here)
