use Rattle.std.proofs.Common.{◌≡◌, ℕ, zero, suc, ◌<◌, List, ◌∙◌, sym, ap, subst, length, arith, slice_index_or}
use Rattle.std.proofs.lemmas.Result.{IfOk-weaker}
use Rattle.drmaa_model.specs.declared.entries.Entry.{Entry}
use Rattle.turn_lock.specs.Tokens.{Named}
use Rattle.drmaa_model.specs.declared.configs.Config.{Config}
use Rattle.call_history.specs.declared.desks.Desk.{Desk}
use Rattle.call_history.specs.Callers.{calls_of}
use Rattle.call_history.specs.Clients.{Seat, mine_of, number_of}
use Rattle.drmaa.specs.Closed.{AsksAsClient, AllAskAsClients}
use Rattle.drmaa.specs.Works.{caller_at, IsUnread, HasMade}
use Rattle.drmaa.proofs.machines.with_machine.Goals as goal

-- the only client of a work is 0
first-number : (n place : ℕ) → place < 1 → n ≡ caller_at place → n ≡ 0
first-number n zero below is = is
first-number n (suc place) below is = absurd (omega arith)

first-made : (history : List Entry) (client : Seat) → HasMade 1 history client → mine_of client ≡ calls_of history 0
first-made history client made = made.mine ∙ ap (λ (n : ℕ). calls_of history n) (first-number (number_of client) made.number.0 made.number.1 made.number.2)

one-asks : (history : List Entry) → AsksAsClient (calls_of history 0) → AllAskAsClients 1 history
one-asks history aside zero below = aside
one-asks history aside (suc place) below = absurd (omega arith)

pub with_clients-requires-clause-callable : goal.with_clients-requires-clause-callable
with_clients-requires-clause-callable g c κs bound shared x lent = (lent.count, ((λ d. (lent.lent 0 d (omega arith)).begins), (c.requires.callable, c.requires.leaves)))

pub with_clients-requires-clause-leaves : goal.with_clients-requires-clause-leaves
with_clients-requires-clause-leaves g c κs bound shared x r y lent post = post.0

pub returns-clause-work : goal.returns-clause-work
returns-clause-work g c = IfOk-weaker c.with_clients.result _ _ (λ ended d.
    let w = d.3.1 in
    let lent = d.4 in
    let x = w.0.now in
    let y = w.1.now in
    let first = lent.lent 0 x (omega arith) in
    let size : length d.2.now ≡ 1 = d.3.0.count ∙ lent.count in
    let below : 0 < length d.2.now = omega arith in (
      w.0,
      w.1,
      w.2,
      w.3,
      ap (λ (k : Desk g.row.K-One.Denot). k.shared.now.fixed) (w.4 x) ∙ (ap (λ (n : Named Config). n.fixed) (lent.shared_is 0 x (let n = lent.count in omega arith)) ∙ d.5),
      subst (λ (k : Desk g.row.K-One.Denot). IsUnread g.K.One.Clock.given 0 k.clock) (sym (w.4 x)) first.clock,
      ap (λ (k : Desk g.row.K-One.Denot). mine_of k.client) (w.5 y) ∙ first-made ended.machine.ledger.history (slice_index_or d.2.now 0 y).client (d.6 0 y below),
    ))
    c.with_clients.ensures.work

pub returns-clause-outside : goal.returns-clause-outside
returns-clause-outside g c = IfOk-weaker c.with_clients.result _ _ (λ ended h none ok aside. h none ok (one-asks ended.machine.ledger.history aside)) c.with_clients.ensures.outside
