use Rattle.std.proofs.Common.{◌≡◌, ◌∙◌, Some, sym, subst}
use Rattle.std.specs.Prelude.{IsTrue}
use Rattle.session_table.specs.Sessions.{Sessions, is_bound}
use Rattle.session_table.specs.SessionLaws.{bound-found}
use Rattle.session_table.proofs.table.SessionTable.attach.Goals as goal

pub open-requires-clause-bound : goal.open-requires-clause-bound
open-requires-clause-bound c =
    subst (λ (s : Sessions). IsTrue (is_bound s.named (record { number = s.next_session; kind = c.args.kind; home = Some c.in-Some.home }))) c.self.view_is
    (bound-found c.self.inside.named.rows c.args.kind c.args.name.now c.in-Some.home c.self.inside.next_session c.self.invariant.kinds (sym c.home_of.ensures ∙ c.in-Some.is))
