use Rattle.std.proofs.Common.{◌≡◌, ◌+◌, ◌++◌, ◌∷◌, [], Some, ap, sym, ◌∙◌, length, length-append, arith, rules}
use Rattle.std.specs.Prelude.{Ok}
use Rattle.thread_play.specs.declared.workers.Worker.{Worker}
use Rattle.thread_play.specs.Stages.{IsNew}
use Rattle.thread_play.proofs.Clients.{hired-count, hired-more}
use Rattle.thread_play.proofs.workers.hire.Goals as goal

pub open_client-requires-clause-room : goal.open_client-requires-clause-room
open_client-requires-clause-room g c =
    let i = c.loop-place.invariant in
    let n = hired-count g.K.One.Clock.given c.args.shared.now c.args.opener.now c.loop-place.opener c.loop-place.workers.items i.hired in
    let k = i.count in
    let first = c.requires.first in
    let few = c.requires.few in
    let within = i.within in
    omega arith

pub loop-place-preserved : goal.loop-place-preserved
loop-place-preserved g c =
    let i = c.loop-place.invariant in
    let o = c.open_client.ensures in
    let n = hired-count g.K.One.Clock.given c.args.shared.now c.args.opener.now c.loop-place.opener c.loop-place.workers.items i.hired in
    let worker : Worker g.row.K-One.Denot = record { client = c.open_client.result; clock = c.clock.result; place = c.loop-place.place; ended = Ok tt } in
    let more : c.push.new.self.items ≡ c.loop-place.workers.items ++ worker ∷ [] = c.in_ok-push.ensures.items in
    let new : IsNew c.args.shared.now c.args.opener.now (length c.loop-place.workers.items + 1) c.open_client.result = record {
      free = o.client;
      number_is = o.number ∙ (let first = c.requires.first in omega arith);
      seen = o.begins ∙ i.hired.seen;
      mine = o.mine;
      own = o.own;
    } in
    record {
      hired = hired-more g.K.One.Clock.given c.args.shared.now c.args.opener.now c.loop-place.opener c.open_client.new.opener c.loop-place.workers.items c.push.new.self.items worker i.hired o.opener o.retired o.seen
          (record { client = new; caller = c.clock.ensures.caller ∙ ap Some (let k = i.count in omega arith); fresh = c.clock.ensures.unread; place_is = sym i.count }) more;
      count = (let a = ap length more in let b = length-append c.loop-place.workers.items (worker ∷ []) in let k = i.count in omega arith);
      within = search rules;
    }
