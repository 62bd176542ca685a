use Rattle.std.proofs.Common.{◌≡◌, ◌+◌, ◌-◌, ◌&&◌, ℕ, Bool, true, false, List, filter, drop, sym, ◌∙◌, ap, arith}
use Rattle.std.proofs.Math.ListN.{drop_of_length-le}
use Rattle.job_template.specs.Texts.{text_length}
use Rattle.drmaa_model.specs.declared.rows.Row.{Row}
use Rattle.drmaa_model.specs.Controlling.{is_done}
use Rattle.drmaa_model.specs.Submitting.{kept_text}
use Rattle.drmaa_model.specs.Targets.{is_meant}
use Rattle.plan_book.proofs.TextLaws.{text-leaves}
use Rattle.plan_book.proofs.texts.room_without_done.Goals as goal
use Rattle.plan_book.proofs.texts.room_without_done.Goals.{then-is_reaped+in_ok-text-2, else-is_reaped}

pub loop-row-preserved : goal.loop-row-preserved
loop-row-preserved c =
    let leaves : Row → Bool = λ (row : Row). is_meant c.args.target.now row && is_done row in
    let xs = c.args.rows.now in
    let i = c.loop-row.row-index in
    let row = c.row-item.result in
    elim c.if-is_reaped.branch [
      | then-is_reaped+in_ok-text-2 w ↦
          (let next : kept_text (filter leaves (drop i xs)) ≡ text_length row.template + kept_text (filter leaves (drop (i + 1) xs)) =
          text-leaves leaves xs i row true c.loop-row-test.true c.row-item.is (sym c.is_reaped.ensures ∙ w.if-is_reaped.true) in
          let fits = w.in_ok-text-2.ensures {u = tt} in
          let size = ap text_length w.get.ensures in
          record {
            text = λ text beside. omega (arith, c.loop-row.invariant.text text beside, next, w.text-is, fits.0, fits.1, size);
            most = omega (arith, c.loop-row.invariant.most, w.text-is, fits.1);
          })
      | else-is_reaped w ↦
          (let next : kept_text (filter leaves (drop i xs)) ≡ 0 + kept_text (filter leaves (drop (i + 1) xs)) =
          text-leaves leaves xs i row false c.loop-row-test.true c.row-item.is (sym c.is_reaped.ensures ∙ w.if-is_reaped.false) in
          record {
            text = λ text beside. omega (arith, c.loop-row.invariant.text text beside, next, w.text-is);
            most = omega (arith, c.loop-row.invariant.most, w.text-is);
          })
    ]

pub returns-clause-room : goal.returns-clause-room
returns-clause-room c = λ text beside.
    (let leaves : Row → Bool = λ (row : Row). is_meant c.args.target.now row && is_done row in
    let none : kept_text (filter leaves (drop c.loop-row.row-index c.args.rows.now)) ≡ 0 = ap (λ (rs : List Row). kept_text (filter leaves rs)) (drop_of_length-le c.args.rows.now c.loop-row-test.false) in
    let is : c.loop-row.text ≡ text = omega (arith, c.loop-row.invariant.text text beside, none) in
    (omega (arith, is, c.loop-row.invariant.most), ap (λ (n : ℕ). 67_108_864 - n) is))
