use Rattle.std.proofs.Common.{◌≡◌, ℕ, ◌≤◌, List, length, sym, ap, subst, arith}
use Rattle.drmaa_model.specs.declared.configs.Config.{Config}
use Rattle.call_history.specs.declared.desks.Desk.{Desk}
use Rattle.drmaa.specs.Closed.{IsHistory, IsAtRest, AllAskAsClients, HaveHeardAll}
use Rattle.drmaa.specs.Works.{AreLent, HaveMade}
use Rattle.beside_clients.proofs.Outside.{IsClosed}
use Rattle.drmaa.proofs.Whole.{Laws, is-history, have-made, at-rest, are-asked, outside-agrees, have-heard}
use Rattle.drmaa.proofs.machines.with_clients.Goals as goal

pub run_crew-requires-clause-callable : goal.run_crew-requires-clause-callable
run_crew-requires-clause-callable g c κs bound x lent =
    c.requires.callable c.in_ok-shared.shared x (subst (λ (n : ℕ). AreLent g.K.One.Clock.given c.in_ok-shared.shared n x.now) c.in-Ok-open_crew.ensures.desks.lent.count lent)

pub run_crew-requires-clause-leaves : goal.run_crew-requires-clause-leaves
run_crew-requires-clause-leaves g c κs bound x r y lent =
    c.requires.leaves c.in_ok-shared.shared x r y (subst (λ (n : ℕ). AreLent g.K.One.Clock.given c.in_ok-shared.shared n x.now) c.in-Ok-open_crew.ensures.desks.lent.count lent)

pub returns-clause-history : goal.returns-clause-history
returns-clause-history g c =
    let m = c.close.ensures in
    let closed : IsClosed c.in_ok-shared.shared.fixed c.run_crew.new.opener c.close.result.ledger.history = record { legal = m.legal; seen = m.seen; lists = m.lists; strangers = m.strangers } in
    let laws : Laws c.in_ok-shared.shared.fixed = record { consistent = λ es. c.a_legal_history_leads_to_a_consistent_world.ensures.consistent c.in_ok-shared.shared.fixed es; quiet = λ entry at p. c.a_settled_plan_is_quiet.ensures.before entry at p } in
    let n = length c.in-Ok-open_crew.crew.desks.items in
    let many : n ≡ c.args.clients = c.in-Ok-open_crew.ensures.desks.lent.count in
    let some : 1 ≤ n = (let l = c.requires.least_clients in omega arith) in
    subst (λ (k : ℕ). IsHistory c.args.config (length c.args.callbacks) k c.close.result.ledger.history) many
    (subst (λ (k : ℕ). IsHistory c.args.config k n c.close.result.ledger.history) (ap length c.as_slice-count.ensures)
    (subst (λ (f : Config). IsHistory f (length c.as_slice-count.result.now) n c.close.result.ledger.history) c.in_ok-shared.ensures.config
    (is-history g.B.Callback.counted g.B.Callback.told g.S.One.Child.told _ c.in_ok-shared.shared c.run_crew.new.opener n _ _ _ c.in-Ok.hub c.run_crew.new.hub _ _ c.in_ok-value.ensures.left some c.close.result.ledger.history laws closed)))

pub returns-clause-work : goal.returns-clause-work
returns-clause-work g c =
    let m = c.close.ensures in
    let closed : IsClosed c.in_ok-shared.shared.fixed c.run_crew.new.opener c.close.result.ledger.history = record { legal = m.legal; seen = m.seen; lists = m.lists; strangers = m.strangers } in
    let laws : Laws c.in_ok-shared.shared.fixed = record { consistent = λ es. c.a_legal_history_leads_to_a_consistent_world.ensures.consistent c.in_ok-shared.shared.fixed es; quiet = λ entry at p. c.a_settled_plan_is_quiet.ensures.before entry at p } in
    let n = length c.in-Ok-open_crew.crew.desks.items in
    let many : n ≡ c.args.clients = c.in-Ok-open_crew.ensures.desks.lent.count in
    let some : 1 ≤ n = (let l = c.requires.least_clients in omega arith) in
    let left = c.in_ok-value.ensures.left in
    let d = left.does in (
      c.in_ok-shared.shared,
      d.0,
      d.1,
      d.2,
      subst (λ (k : ℕ). AreLent g.K.One.Clock.given c.in_ok-shared.shared k d.0.now) many d.3,
      c.in_ok-shared.ensures.config,
      subst (λ (k : ℕ). HaveMade k c.close.result.ledger.history d.1.now) many (subst (λ (l : List (Desk g.row.K-One.Denot)). HaveMade n c.close.result.ledger.history l) (sym d.4)
          (have-made g.B.Callback.counted g.B.Callback.told g.S.One.Child.told _ c.in_ok-shared.shared c.run_crew.new.opener n _ _ _ c.in-Ok.hub c.run_crew.new.hub _ _ c.in_ok-value.ensures.left some c.close.result.ledger.history laws closed)),
    )

pub returns-clause-rest : goal.returns-clause-rest
returns-clause-rest g c ok =
    let m = c.close.ensures in
    let closed : IsClosed c.in_ok-shared.shared.fixed c.run_crew.new.opener c.close.result.ledger.history = record { legal = m.legal; seen = m.seen; lists = m.lists; strangers = m.strangers } in
    let laws : Laws c.in_ok-shared.shared.fixed = record { consistent = λ es. c.a_legal_history_leads_to_a_consistent_world.ensures.consistent c.in_ok-shared.shared.fixed es; quiet = λ entry at p. c.a_settled_plan_is_quiet.ensures.before entry at p } in
    let n = length c.in-Ok-open_crew.crew.desks.items in
    let many : n ≡ c.args.clients = c.in-Ok-open_crew.ensures.desks.lent.count in
    let some : 1 ≤ n = (let l = c.requires.least_clients in omega arith) in
    subst (λ (f : Config). IsAtRest f c.close.result.ledger.history) c.in_ok-shared.ensures.config
    (at-rest g.B.Callback.counted g.B.Callback.told g.S.One.Child.told _ c.in_ok-shared.shared c.run_crew.new.opener n _ _ _ c.in-Ok.hub c.run_crew.new.hub _ _ c.in_ok-value.ensures.left some c.close.result.ledger.history laws closed ok)

pub returns-clause-asked : goal.returns-clause-asked
returns-clause-asked g c none =
    let m = c.close.ensures in
    let closed : IsClosed c.in_ok-shared.shared.fixed c.run_crew.new.opener c.close.result.ledger.history = record { legal = m.legal; seen = m.seen; lists = m.lists; strangers = m.strangers } in
    let laws : Laws c.in_ok-shared.shared.fixed = record { consistent = λ es. c.a_legal_history_leads_to_a_consistent_world.ensures.consistent c.in_ok-shared.shared.fixed es; quiet = λ entry at p. c.a_settled_plan_is_quiet.ensures.before entry at p } in
    let n = length c.in-Ok-open_crew.crew.desks.items in
    let many : n ≡ c.args.clients = c.in-Ok-open_crew.ensures.desks.lent.count in
    let some : 1 ≤ n = (let l = c.requires.least_clients in omega arith) in
    are-asked g.B.Callback.counted g.B.Callback.told g.S.One.Child.told _ c.in_ok-shared.shared c.run_crew.new.opener n _ _ _ c.in-Ok.hub c.run_crew.new.hub _ _ c.in_ok-value.ensures.left some c.close.result.ledger.history laws closed none

pub returns-clause-outside : goal.returns-clause-outside
returns-clause-outside g c none ok aside =
    let m = c.close.ensures in
    let closed : IsClosed c.in_ok-shared.shared.fixed c.run_crew.new.opener c.close.result.ledger.history = record { legal = m.legal; seen = m.seen; lists = m.lists; strangers = m.strangers } in
    let laws : Laws c.in_ok-shared.shared.fixed = record { consistent = λ es. c.a_legal_history_leads_to_a_consistent_world.ensures.consistent c.in_ok-shared.shared.fixed es; quiet = λ entry at p. c.a_settled_plan_is_quiet.ensures.before entry at p } in
    let n = length c.in-Ok-open_crew.crew.desks.items in
    let many : n ≡ c.args.clients = c.in-Ok-open_crew.ensures.desks.lent.count in
    let some : 1 ≤ n = (let l = c.requires.least_clients in omega arith) in
    outside-agrees g.B.Callback.counted g.B.Callback.told g.S.One.Child.told _ c.in_ok-shared.shared c.run_crew.new.opener n _ _ _ c.in-Ok.hub c.run_crew.new.hub _ _ c.in_ok-value.ensures.left some c.close.result.ledger.history laws closed
    (λ starts at hand. c.the_outside_agrees.ensures 1 2 starts (g.S.Spawner.fate c.run_crew.new.spawner) c.close.result.ledger.history at hand) none ok
    (subst (λ (k : ℕ). AllAskAsClients k c.close.result.ledger.history) (sym many) aside)

pub returns-clause-heard : goal.returns-clause-heard
returns-clause-heard g c =
    let m = c.close.ensures in
    let closed : IsClosed c.in_ok-shared.shared.fixed c.run_crew.new.opener c.close.result.ledger.history = record { legal = m.legal; seen = m.seen; lists = m.lists; strangers = m.strangers } in
    let laws : Laws c.in_ok-shared.shared.fixed = record { consistent = λ es. c.a_legal_history_leads_to_a_consistent_world.ensures.consistent c.in_ok-shared.shared.fixed es; quiet = λ entry at p. c.a_settled_plan_is_quiet.ensures.before entry at p } in
    let n = length c.in-Ok-open_crew.crew.desks.items in
    let many : n ≡ c.args.clients = c.in-Ok-open_crew.ensures.desks.lent.count in
    let some : 1 ≤ n = (let l = c.requires.least_clients in omega arith) in
    subst (λ (f : Config). HaveHeardAll g.B.Callback.counted g.B.Callback.told f c.close.result.ledger.history c.args.callbacks c.take_back.result) c.in_ok-shared.ensures.config
    (have-heard g.B.Callback.counted g.B.Callback.told g.S.One.Child.told _ c.in_ok-shared.shared c.run_crew.new.opener n _ _ _ c.in-Ok.hub c.run_crew.new.hub _ _ c.in_ok-value.ensures.left some c.close.result.ledger.history laws closed
    c.args.callbacks c.take_back.result (ap (λ (h : _). h.ears.begun) c.in-Ok.ensures.ok) (ap length c.as_slice-count.ensures) c.in-Ok.ensures.heard c.take_back.ensures.all)
