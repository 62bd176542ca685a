use Rattle.std.proofs.Common.{◌≡◌, ℕ, List, [], Option, None, refl, sym, ap, ◌∙◌, subst, slice_index_or, length}
use Rattle.std.specs.Prelude.{All}
use Rattle.slab.specs.Slab.{Slab, get}
use Rattle.turn_lock.specs.Tokens.{IsFree}
use Rattle.call_history.specs.declared.desks.Desk.{Desk}
use Rattle.attendant.specs.declared.pairs.Pair.{Pair}
use Rattle.drmaa.specs.Works.{AreLent}
use Rattle.drmaa.proofs.Making.{left-made}
use Rattle.drmaa.proofs.Opening.{left-free, left-many}
use Rattle.drmaa.proofs.machines.run_crew.Goals as goal

no-child : {X : Type 0} (children : Slab X) → children.slots ≡ [] → (k : ℕ) → get children k ≡ None
no-child {X = X} children none k = ap (λ (l : List (Option X)). slice_index_or l k None) none

pub work_beside-attended-requires-clause-callable : goal.work_beside-attended-requires-clause-callable
work_beside-attended-requires-clause-callable g c κs bound x same =
    c.requires.callable x (subst (λ (l : List (Desk g.row.C.Denot)). AreLent g.C.Clock.given c.args.shared.now (length c.args.crew.desks.items) l) (sym same) c.requires.opened.desks.lent)

pub take_back-requires-clause-each : goal.take_back-requires-clause-each
take_back-requires-clause-each g c =
    let w = c.work_beside-attended.ensures.worked in
    let lent = subst (λ (l : List (Desk g.row.C.Denot)). AreLent g.C.Clock.given c.args.shared.now (length c.args.crew.desks.items) l) (sym w.3) c.requires.opened.desks.lent in
    let left = c.requires.leaves w.0 c.work_beside-attended.result.1 w.1 lent w.2 in
    subst (λ (l : List (Desk g.row.C.Denot)). All (λ (d : Desk g.row.C.Denot). IsFree c.args.shared.now d.client) l) w.4
    (left-free g.C.Clock.given c.args.shared.now (length c.args.crew.desks.items) w.0.now w.1.now lent left)

pub returns-clause-left : goal.returns-clause-left
returns-clause-left g c =
    let shared = c.args.shared.now in
    let n = length c.args.crew.desks.items in
    let w = c.work_beside-attended.ensures.worked in
    let lent = subst (λ (l : List (Desk g.row.C.Denot)). AreLent g.C.Clock.given shared n l) (sym w.3) c.requires.opened.desks.lent in
    let left = c.requires.leaves w.0 c.work_beside-attended.result.1 w.1 lent w.2 in
    let many = left-many g.C.Clock.given shared n w.0.now w.1.now lent left in
    let pb : Pair g.row.C.Denot = c.work_beside-attended.result.0.pair in
    let pc : Pair g.row.C.Denot = record pb { launcher = c.tell_launcher.new.launcher } in
    let none : (k : ℕ) → get c.new-reaper.result.children k ≡ None = no-child c.new-reaper.result.children c.new-reaper.ensures.children in
    let laws = c.nothing_is_kept.ensures in
    let at0 = get c.new-reaper.result.children in
    left-made g.B.Callback.counted g.B.Callback.told g.S.One.Child.told g.C.Clock.given g.C.Clock.least _ shared n
    c.args.opener.now c.take_back.new.opener c.release.new.opener c.args.crew c.requires.opened c.requires.some
    c.args.hub.now c.register_all.new.hub c.work_beside-attended.new.hub c.pump_last.new.hub
    c.register_all.new.hub_seat.client c.work_beside-attended.new.hub_seat.client c.tell_launcher.new.hub_seat c.pump_last.new.hub_seat.client c.take_back.new.launcher c.work_beside-attended.new.desks.items
    pb pc c.attend_last-pair.result.pair c.pump_last.new.pair c.args.count
    (g.S.Spawner.asked c.args.spawner.now) (g.S.Spawner.asked c.work_beside-attended.new.spawner) (g.S.Spawner.asked c.attend_last-pair.new.spawner)
    (g.S.Spawner.fate c.args.spawner.now) (g.S.Spawner.fate c.work_beside-attended.new.spawner) (g.S.Spawner.fate c.attend_last-pair.new.spawner)
    at0 (get c.work_beside-attended.new.reaper.children) (get c.attend_last-pair.new.reaper.children)
    c.new-reaper.result.order c.work_beside-attended.new.reaper.order c.attend_last-pair.new.reaper.order
    c.work_beside-attended.result.0.ended c.attend_last-pair.result.ended
    c.in_ok-register_all.ensures.ok c.work_beside-attended.ensures.attended (w.0, w.1, w.2, lent, w.4) (ap length (sym w.4) ∙ many) c.work_beside-attended.ensures.hub
    c.take_back.ensures c.tell_launcher.ensures.still c.tell_launcher.ensures.knows c.tell_launcher.ensures.hub_seat c.tell_launcher.ensures.from_hub_seat
    refl c.attend_last-pair.ensures c.pump_last.ensures.on c.pump_last.ensures.follows c.pump_last.ensures.launcher c.pump_last.ensures.reaping c.pump_last.ensures.pair c.release.ensures
    (record { untold = λ fate. laws.untold fate at0 none; keeps = λ fate. laws.keeps fate at0 none; agrees = laws.agrees }) c.new-reaper.ensures.order
