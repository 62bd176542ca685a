-- What is answered in the plan of a core's book is answered in the plan that contracts see.
use Rattle.std.proofs.Common.{◌≡◌, Some, subst}
use Rattle.std.specs.Prelude.{Result}
use Rattle.drmaa_types.specs.declared.refusals.Refusal.{Refusal}
use Rattle.drmaa_model.specs.declared.faults.NoEntry.{NoEntry}
use Rattle.drmaa_model.specs.Operation.{Operation}
use Rattle.drmaa_model.specs.Plan.{Plan}
use Rattle.plan_book.specs.declared.book.Book.{Book}
use Rattle.plan_book.specs.declared.occasions.Occasion.{Occasion}
use Rattle.plan_book.specs.Book.{plan_of, spare}
use Rattle.plan_book.specs.MeetLaws.{refused-meets}
use Rattle.plan_book.specs.Occasions.{MeetsAt, RefusesAt, plan_at}
use Rattle.scheduler_core.specs.View.{View}

-- what contracts see of a core that has this book
abbrev pub view_of : Book → View
view_of b = record { plan = plan_of b; spare = spare b }

module _ {A : Type 0} (op : Operation A) (o : Occasion) (b : Book) {v : View} (seen : view_of b ≡ v) where
  pub seen-meets : (result : Result (Result A Refusal) NoEntry) (new : Plan) → MeetsAt o op (plan_of b) result new → MeetsAt o op v.plan result new
  seen-meets result new met = subst (λ (w : View). MeetsAt o op w.plan result new) seen met

  pub seen-refused : (why : Refusal) (result : Result (Result A Refusal) NoEntry) (new : Plan) → op.refusal (plan_at o (plan_of b)) ≡ Some why
      → RefusesAt o why (plan_of b) result new → MeetsAt o op v.plan result new
  seen-refused why result new is met = seen-meets result new (refused-meets op o (plan_of b) new why result is met)
