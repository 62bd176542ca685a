use Rattle.std.proofs.Common.{◌≡◌, ◌∙◌, ◌+◌, ◌-◌, true, is_some, not, ap, sym, arith}
use Rattle.session_table.specs.Sessions.{in_use, session_name}
use Rattle.session_table.specs.FirstFree.{first_free-next}
use Rattle.session_table.proofs.names.NamedSessions.unused_name.Goals as goal

pub loop-number-preserved : goal.loop-number-preserved
loop-number-preserved c =
    let used : in_use c.args.kind (session_name c.loop-number.number) c.args.self.now.rows ≡ true =
    ap (λ name. in_use c.args.kind name c.args.self.now.rows) (sym c.in_ok-name.ensures) ∙ ap is_some (sym c.home_of.ensures) ∙ c.is_none.ensures ∙ ap not c.if-is_none.false in
    first_free-next (λ n. in_use c.args.kind (session_name n) c.args.self.now.rows) c.loop-number.number ((c.len-count.result + 1) - c.loop-number.number) ((c.len-count.result + 1) - (c.loop-number.number + 1)) (omega arith) used ∙ c.loop-number.invariant
