use Rattle.std.proofs.Common.{◌≡◌, sym, ap, ◌∙◌}
use Rattle.std.specs.Prelude.{Option, Some}
use Rattle.atomic_table.specs.declared.shared.Seat.{Seat}
use Rattle.turn_lock.specs.declared.views.View.{View}
use Rattle.turn_lock.specs.Tokens.{Token}
use Rattle.turn_lock.proofs.Passing.{same_value, arrived}
use Rattle.turn_lock.proofs.locks.TurnLock.try_enter.Goals as goal

pub returns-clause-enters : goal.returns-clause-enters
returns-clause-enters g c =
    let taken = c.attempt-drawn.ensures.tries.hit c.if-drawn-served.false in
    let arr = rw c.look-served.ensures.looks.after at taken in
    let value = same_value arr.value c.take-value.result c.attempt-drawn.new.seat.me.1 c.pass.inside.seat.me.1 arr.held c.take-value.ensures.value in
    let came = arrived g.V.Chronicle.entries g.V.Chronicle.fixed c.pass.inside.seat.me.0 arr.value c.take-value.result value c.pass.invariant.own arr.goes_on arr.own arr.same in
    let lock = ap (λ (t : Token g.row.V-Ask.Denot g.row.V-Answer.Denot g.row.V-Fixed.Denot). t.lock) c.pass.view_is ∙ c.requires.of_lock.lock_is in
    let fixed = ap (λ (t : Token g.row.V-Ask.Denot g.row.V-Answer.Denot g.row.V-Fixed.Denot). t.view.fixed) c.pass.view_is ∙ c.requires.of_lock.fixed_is in
    let same : Some (g.V.Chronicle.fixed c.take-value.result) ≡ Some c.args.self.now.fixed = sym came.same ∙ fixed in
    let kept = c.take-value.ensures.same.0 ∙ (c.attempt-drawn.ensures.same ∙ c.look-served.ensures.same) in
    rw (← c.pass.view_is) record {
      turn_lock = ap (λ (s : Seat (Option g.row.V.Denot) (View g.row.V-Ask.Denot g.row.V-Answer.Denot g.row.V-Fixed.Denot)). s.table_id) c.of.ensures ∙ (kept ∙ lock);
      turn_number = sym c.pass.invariant.number_is;
      pass_lock = kept;
      goes_on = came.goes_on;
      own = came.own;
      fixed_is = cc same;
    }
