use Rattle.std.proofs.Common.{◌≡◌, [], ◌∷◌, ◌∙◌, ap}
use Rattle.session_table.specs.Sessions.{Sessions, closed}
use Rattle.drmaa_types.specs.declared.sessions.SessionKind.TheVariants.{Jobs, Reservations, Monitoring}
use Rattle.drmaa_model.specs.Time.{advance}
use Rattle.drmaa_model.specs.World.{counted}
use Rattle.machine_readings.specs.Stores.{world_of}
use Rattle.machine_calls.specs.declared.replies.Replies.{Replies}
use Rattle.machine_calls.proofs.ClosedOnes.{close-ok}
use Rattle.machine_calls.proofs.closings.close_now.Goals as goal

pub returns-clause-world : goal.returns-clause-world
returns-clause-world c =
    (let w = world_of c.args.store.now in
    let made : c.close.new.self ≡ closed c.args.session.0 w.sessions =
    close-ok (Jobs ∷ Reservations ∷ Monitoring ∷ []) w.sessions c.args.session c.close.result (c.close.new.self ≡ closed c.args.session.0 w.sessions) c.requires.valid c.close.ensures.refusal c.close.ensures.effect in
    c.go_on.ensures.world ∙ ap (λ (s : Sessions). counted (advance (record w { sessions = s }) c.args.at)) made)

pub returns-clause-unit : goal.returns-clause-unit
returns-clause-unit c = record {
  told = ap (λ (r : Replies). r.told) c.go_on.ensures.replies ∙ c.unit.ensures.told;
  recorded = ap (λ (r : Replies). r.recorded) c.go_on.ensures.replies ∙ c.unit.ensures.recorded;
}
