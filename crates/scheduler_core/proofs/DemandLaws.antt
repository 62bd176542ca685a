-- Where so many slots do not fit, no more of them do, and none for longer.
use Rattle.std.proofs.Common.{◌≡◌, ℕ, ◌≤◌, Bool, true, false, Option, Some, None, refl, arith}
use Rattle.drmaa_types.specs.declared.moments.End.{End}
use Rattle.drmaa_model.specs.Load.{bound_of, fits}
use Rattle.drmaa_model.specs.MomentLaws.{fits-at, fits-from}
use Rattle.drmaa_model.specs.Plan.{Plan}
use Rattle.scheduler_core.specs.declared.demands.Demand.{Demand}
use Rattle.scheduler_core.specs.Demands.{IsBeyond, IsUnmet}
use Rattle.scheduler_core.specs.Launches.{seen}

fits-less : (q : Plan) (less more from : ℕ) (end until : End) → less ≤ more → bound_of end ≤ bound_of until → fits q more from until ≡ true → fits q less from end ≡ true
fits-less q less more from end until fewer sooner is =
    fits-from q less from end (λ x low high. (let at = fits-at q more from until is x low (omega (arith, high, sooner)) in omega (arith, at, fewer)))

unmet-more : (q : Plan) (less more from : ℕ) (end until : End) → less ≤ more → bound_of end ≤ bound_of until → fits q less from end ≡ false → fits q more from until ≡ false
unmet-more q less more from end until fewer sooner none =
    (elim (fits q more from until) as (λ (b : Bool). fits q more from until ≡ b → b ≡ false) [
      | false ↦ λ e. refl
      | true ↦ λ e. (let yes = fits-less q less more from end until fewer sooner e in absurd (cc))
    ]) refl

-- what asks for no less than what does not fit does not fit
pub beyond-unmet : (moment : ℕ) (p : Plan) (unmet : Option Demand) (demand : Demand) → IsUnmet moment p unmet → IsBeyond unmet demand
    → fits (seen moment p) demand.slots moment demand.until ≡ false
beyond-unmet moment p None demand none beyond = absurd beyond
beyond-unmet moment p (Some least) demand none beyond =
    unmet-more (seen moment p) least.slots demand.slots moment least.until demand.until beyond.0 beyond.1 none
