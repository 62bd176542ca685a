use Rattle.std.proofs.Common.{◌≡◌, refl, ap, subst, ◌∙◌}
use Rattle.drmaa_model.specs.declared.configs.Config.{Config}
use Rattle.drmaa_model.specs.History.{IsLegal}
use Rattle.turn_lock.specs.Tokens.{IsFree}
use Rattle.call_history.specs.Clients.{seen_of}
use Rattle.call_history.specs.Clocks.{dial}
use Rattle.wait_calls.proofs.Waiting.{so-far-first, over-ok, over-err, early-so-far, early-same, IsOver}
use Rattle.wait_calls.proofs.Timing.{timed-wait, begins-wait}
use Rattle.wait_calls.proofs.waits.wait.Goals as goal

pub loop-init : goal.loop-init
loop-init g c = (
  so-far-first c.args.desk.now.shared.now.fixed _ c.args.desk.now.client _ c.now-begun.result _ (record { told = c.now-begun.ensures.given; least = c.now-begun.ensures.least; rising = c.now-begun.ensures.rising }),
  refl,
  refl,
  c.requires,
  refl,
)

pub returns-in-Over-clause-ok : goal.returns-in-Over-clause-ok
returns-in-Over-clause-ok g c =
    let inv = c.loop.invariant in
    let config : c.loop.desk.shared.now.fixed ≡ c.args.desk.now.shared.now.fixed = ap (λ n. n.fixed) inv.2 in
    over-ok c.args.desk.now.shared.now.fixed _ c.args.desk.now.client c.args.session c.args.jobs c.args.kind c.args.timeout _ c.loop.desk.client c.loop.awaited _ c.look_at_wait.new.self.client
    (record { so_far = inv.0; same = inv.4; awaited_is = inv.1; legal = subst (λ (k : Config). IsLegal k (seen_of c.look_at_wait.new.self.client)) config c.look_at_wait.ensures.legal })
    c.loop.desk.shared.now.fixed config c.in-Over.made c.told.result
    c.in-Over.ensures.look
    c.told.ensures.ok

pub returns-in-Over-clause-err : goal.returns-in-Over-clause-err
returns-in-Over-clause-err g c =
    let inv = c.loop.invariant in
    let config : c.loop.desk.shared.now.fixed ≡ c.args.desk.now.shared.now.fixed = ap (λ n. n.fixed) inv.2 in
    over-err c.args.desk.now.shared.now.fixed _ c.args.desk.now.client c.args.session c.args.jobs c.args.kind c.args.timeout _ c.loop.desk.client c.loop.awaited _ c.look_at_wait.new.self.client
    (record { so_far = inv.0; same = inv.4; awaited_is = inv.1; legal = subst (λ (k : Config). IsLegal k (seen_of c.look_at_wait.new.self.client)) config c.look_at_wait.ensures.legal })
    c.loop.desk.shared.now.fixed config c.in-Over.made c.told.result
    c.in-Over.ensures.decided
    c.in-Over.ensures.look
    c.told.ensures.err

pub loop-preserved : goal.loop-preserved
loop-preserved g c =
    let inv = c.loop.invariant in
    let config : c.loop.desk.shared.now.fixed ≡ c.args.desk.now.shared.now.fixed = ap (λ n. n.fixed) inv.2 in
    let over : IsOver c.args.desk.now.shared.now.fixed (dial (g.C.Clock.given c.args.desk.now.clock) (g.C.Clock.least c.args.desk.now.clock)) c.args.desk.now.client c.args.session c.args.jobs c.args.kind c.args.timeout
    (dial (g.C.Clock.given c.loop.desk.clock) (g.C.Clock.least c.loop.desk.clock)) c.loop.desk.client c.loop.awaited (dial (g.C.Clock.given c.look_at_wait.new.self.clock) (g.C.Clock.least c.look_at_wait.new.self.clock)) c.look_at_wait.new.self.client = record { so_far = inv.0; same = inv.4; awaited_is = inv.1; legal = subst (λ (k : Config). IsLegal k (seen_of c.look_at_wait.new.self.client)) config c.look_at_wait.ensures.legal } in (
      early-so-far c.args.desk.now.shared.now.fixed _ c.args.desk.now.client c.args.session c.args.jobs c.args.kind c.args.timeout _ c.loop.desk.client c.loop.awaited _ c.look_at_wait.new.self.client over
          c.loop.desk.shared.now.fixed config c.in-NotYet.back c.in-NotYet.ensures.look,
      early-same c.args.desk.now.shared.now.fixed _ c.args.desk.now.client c.args.session c.args.jobs c.args.kind c.args.timeout _ c.loop.desk.client c.loop.awaited _ c.look_at_wait.new.self.client over
          c.loop.desk.shared.now.fixed c.in-NotYet.back c.in-NotYet.ensures.look,
      c.look_at_wait.ensures.shared ∙ inv.2,
      subst (λ n. IsFree n c.look_at_wait.new.self.client) inv.2 c.look_at_wait.ensures.client,
      c.look_at_wait.ensures.number ∙ inv.4,
    )

pub returns-in-Over-clause-begins : goal.returns-in-Over-clause-begins
returns-in-Over-clause-begins g c =
    begins-wait c.args.desk.now.shared.now.fixed _ _ c.args.desk.now.client c.look_at_wait.new.self.client c.args.session c.args.jobs c.args.kind c.args.timeout c.told.result
    (returns-in-Over-clause-ok g c) (returns-in-Over-clause-err g c)

pub returns-in-Over-clause-timed : goal.returns-in-Over-clause-timed
returns-in-Over-clause-timed g c =
    timed-wait c.args.desk.now.shared.now.fixed _ _ c.args.desk.now.client c.look_at_wait.new.self.client c.args.session c.args.jobs c.args.kind c.args.timeout c.told.result
    (returns-in-Over-clause-ok g c) (returns-in-Over-clause-err g c)
