use Rattle.std.proofs.Common.{◌≡◌, ◌∙◌, Option, None, false, ap, sym, subst}
use Rattle.session_table.specs.Sessions.{NamedSession, Sessions, ValidNumber, IsLeastUnused, meaning_of, name_of, in_use, chosen_name, create_refusal, least_unused}
use Rattle.session_table.specs.TableView.{sessions_of}
use Rattle.session_table.specs.FirstFree.{least_unused-is}
use Rattle.session_table.specs.Permitted.{may_create}
use Rattle.session_table.specs.SessionLaws.{IsSound-created, find-above}
use Rattle.session_table.proofs.table.SessionTable.create.Goals as goal

pub returns-in_err-may_create-clause-least : goal.returns-in_err-may_create-clause-least
returns-in_err-may_create-clause-least c =
    subst (λ (s : Sessions). IsLeastUnused c.args.kind s.named (least_unused c.args.kind s.named)) c.self.view_is (least_unused-is c.args.kind c.self.inside.named.rows c.self.invariant.few_sessions)

pub returns-in_err-name-clause-least : goal.returns-in_err-name-clause-least
returns-in_err-name-clause-least c =
    subst (λ (s : Sessions). IsLeastUnused c.args.kind s.named (least_unused c.args.kind s.named)) c.self.view_is (least_unused-is c.args.kind c.self.inside.named.rows c.self.invariant.few_sessions)

pub returns-then-is_err-clause-least : goal.returns-then-is_err-clause-least
returns-then-is_err-clause-least c =
    subst (λ (s : Sessions). IsLeastUnused c.args.kind s.named (least_unused c.args.kind s.named)) c.self.view_is (least_unused-is c.args.kind c.self.inside.named.rows c.self.invariant.few_sessions)

pub add-requires-clause-absent : goal.add-requires-clause-absent
add-requires-clause-absent c =
    ap (name_of c.self.inside.next_home) c.reserve.ensures.rows
    ∙ find-above (λ (n : NamedSession). n.home) (λ (n : NamedSession). n.name) c.self.inside.next_home c.self.inside.named.rows c.self.invariant.homes_below

pub add-requires-2-clause-absent : goal.add-requires-2-clause-absent
add-requires-2-clause-absent c =
    ap (meaning_of c.self.inside.next_session) c.reserve-else-is_err.ensures.rows
    ∙ find-above (λ (v : ValidNumber). v.number) (λ (v : ValidNumber). (v.kind, v.home)) c.self.inside.next_session c.self.inside.valid.rows c.self.invariant.numbers_below

pub invariant_of-self-2 : goal.invariant_of-self-2
invariant_of-self-2 c =
    let s = sessions_of c.self.inside in
    let permitted = may_create c.args.kind c.args.name s c.self.invariant.few_sessions (subst (λ (s : Sessions). create_refusal c.args.kind c.args.name s ≡ None) (sym c.self.view_is) c.in_ok-may_create.ensures) in
    let name = c.in_ok-name.ensures.name ∙ ap (λ (s : Sessions). chosen_name c.args.kind c.args.name s.named) (sym c.self.view_is) in
    let free = ap (λ t. in_use c.args.kind t s.named) name ∙ permitted.free in
    simp (c.add.ensures, c.reserve.ensures.rows, c.add-2.ensures, c.reserve-else-is_err.ensures.rows)
    (IsSound-created s c.args.kind c.in_ok-name.name c.self.invariant permitted.few_sessions permitted.few_numbers c.requires.kind free)

pub returns-clause-least : goal.returns-clause-least
returns-clause-least c =
    subst (λ (s : Sessions). IsLeastUnused c.args.kind s.named (least_unused c.args.kind s.named)) c.self.view_is (least_unused-is c.args.kind c.self.inside.named.rows c.self.invariant.few_sessions)

pub returns-clause-sound : goal.returns-clause-sound
returns-clause-sound c =
    let s = sessions_of c.self.inside in
    let permitted = may_create c.args.kind c.args.name s c.self.invariant.few_sessions (subst (λ (s : Sessions). create_refusal c.args.kind c.args.name s ≡ None) (sym c.self.view_is) c.in_ok-may_create.ensures) in
    let name = c.in_ok-name.ensures.name ∙ ap (λ (s : Sessions). chosen_name c.args.kind c.args.name s.named) (sym c.self.view_is) in
    let free = ap (λ t. in_use c.args.kind t s.named) name ∙ permitted.free in
    simp (c.add.ensures, c.reserve.ensures.rows, c.add-2.ensures, c.reserve-else-is_err.ensures.rows)
    (IsSound-created s c.args.kind c.in_ok-name.name c.self.invariant permitted.few_sessions permitted.few_numbers c.requires.kind free)
