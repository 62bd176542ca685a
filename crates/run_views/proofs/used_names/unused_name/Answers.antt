use Rattle.std.proofs.Common.{◌≡◌, ◌∙◌, ◌+◌, ◌-◌, true, ap, sym, length, arith}
use Rattle.session_table.specs.Sessions.{session_name}
use Rattle.session_table.specs.FirstFree.{first_free-next}
use Rattle.run_views.specs.Submitted.{is_used}
use Rattle.run_views.proofs.used_names.unused_name.Goals as goal

pub loop-number-preserved : goal.loop-number-preserved
loop-number-preserved c =
    let used : is_used c.args.used.now (session_name c.loop-number.number) ≡ true =
    ap (is_used c.args.used.now) (sym (c.in_ok-name.ensures {u = tt})) ∙ sym c.is_used.ensures ∙ c.if-not-is_used.false in
    first_free-next (λ n. is_used c.args.used.now (session_name n)) c.loop-number.number ((length c.args.used.now + 1) - c.loop-number.number) ((length c.args.used.now + 1) - (c.loop-number.number + 1)) (omega arith) used ∙ c.loop-number.invariant
