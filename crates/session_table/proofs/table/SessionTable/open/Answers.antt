use Rattle.std.proofs.Common.{◌≡◌, ◌∙◌, ◌<◌, Option, ap, sym, subst, length, arith}
use Rattle.std.specs.Prelude.{IsTrue}
use Rattle.session_table.specs.Sessions.{Sessions, ValidNumber, meaning_of, is_bound}
use Rattle.session_table.specs.TableView.{sessions_of}
use Rattle.session_table.specs.SessionLaws.{IsSound-opened, find-above}
use Rattle.session_table.proofs.table.SessionTable.open.Goals as goal

pub add-requires-clause-absent : goal.add-requires-clause-absent
add-requires-clause-absent c =
    ap (meaning_of c.self.inside.next_session) c.reserve.ensures.rows
    ∙ find-above (λ (v : ValidNumber). v.number) (λ (v : ValidNumber). (v.kind, v.home)) c.self.inside.next_session c.self.inside.valid.rows c.self.invariant.numbers_below

pub invariant_of-self-2 : goal.invariant_of-self-2
invariant_of-self-2 c =
    let few : length c.self.inside.valid.rows < 1_000 = omega arith in
    let bound = subst (λ (s : Sessions). IsTrue (is_bound s.named (record { number = s.next_session; kind = c.args.kind; home = c.args.home }))) (sym c.self.view_is) c.requires.bound in
    simp (c.add.ensures, c.reserve.ensures.rows) (IsSound-opened (sessions_of c.self.inside) c.args.kind c.args.home c.self.invariant few bound)

pub returns-clause-sound : goal.returns-clause-sound
returns-clause-sound c =
    let few : length c.self.inside.valid.rows < 1_000 = omega arith in
    let bound = subst (λ (s : Sessions). IsTrue (is_bound s.named (record { number = s.next_session; kind = c.args.kind; home = c.args.home }))) (sym c.self.view_is) c.requires.bound in
    simp (c.add.ensures, c.reserve.ensures.rows) (IsSound-opened (sessions_of c.self.inside) c.args.kind c.args.home c.self.invariant few bound)
