use Rattle.std.proofs.Common.{◌≡◌, ◌∙◌, ◌++◌, [], List, ℕ, filter, ap}
use Rattle.drmaa_model.specs.declared.reservations.Accepted.{Accepted}
use Rattle.drmaa_model.specs.Fit.{reservation_number}
use Rattle.drmaa_model.specs.Homes.{is_same_home}
use Rattle.drmaa_model.specs.Infos.{reservation_numbers}
use Rattle.drmaa_model.specs.Time.{advance_plan}
use Rattle.machine_readings.specs.Walks.{on-all, from_on}
use Rattle.machine_readings.proofs.store.Store.reservations_of.Goals as goal

pub loop-accepted-init : goal.loop-accepted-init
loop-accepted-init c =
    (let s = c.args.self.now in
    let F : List Accepted → List ℕ = λ rs. reservation_numbers (filter (λ (a : Accepted). is_same_home c.args.home a.home) rs) in
    let none : c.new-list.result.items ≡ [] = cc in
    ap (λ items. items ++ F (from_on reservation_number 0 (advance_plan 0 c.args.at s.core.plan).reservations)) none ∙ ap F (on-all reservation_number (advance_plan 0 c.args.at s.core.plan).reservations))
