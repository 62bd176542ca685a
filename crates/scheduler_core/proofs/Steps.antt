-- What a move that is an operation's comes to.
use Rattle.std.proofs.Common.{◌≡◌, ◌≢◌, ℕ, false, List, Some, None, refl, sym, ◌∙◌, ap, subst}
use Rattle.std.specs.Prelude.{Result, Ok, Err}
use Rattle.std.specs.Option.{option_map}
use Rattle.drmaa_types.specs.declared.identifiers.JobId.{JobId}
use Rattle.drmaa_types.specs.declared.refusals.Refusal.{Refusal}
use Rattle.drmaa_model.specs.declared.faults.NoEntry.{NoEntry}
use Rattle.drmaa_model.specs.declared.faults.NoEntry.TheVariants.{OutOfMemory}
use Rattle.drmaa_model.specs.declared.rows.Row.{Row}
use Rattle.drmaa_model.specs.Fit.{IsFit}
use Rattle.drmaa_model.specs.Operation.{Operation}
use Rattle.drmaa_model.specs.Plan.{Plan}
use Rattle.drmaa_model.specs.Rows.{row_of}
use Rattle.plan_book.specs.declared.moves.Move.{Move}
use Rattle.plan_book.specs.declared.occasions.Occasion.{Occasion}
use Rattle.plan_book.specs.declared.rows.Facts.{Facts}
use Rattle.plan_book.specs.Book.{IsMove, moved, grows, more_orders}
use Rattle.plan_book.specs.Facts.{facts_of}
use Rattle.plan_book.specs.MeetLaws.{free-meets, ok-meets, err-meets}
use Rattle.plan_book.specs.Occasions.{Meets, MeetsAt, StepsAt, plan_at}
use Rattle.plan_book.specs.Ties.{KeepsTie, is_booking}

-- the row that facts were read from
pub record IsRead (job : JobId) (rows : List Row) (facts : Facts) : Type 0 where
  pub row : Row
  pub found : row_of job rows ≡ Some row
  pub read : facts ≡ facts_of row

pub read-row : (job : JobId) (rows : List Row) (facts : Facts) → Some facts ≡ option_map facts_of (row_of job rows) → IsRead job rows facts
read-row job rows facts is =
    (elim (row_of job rows) as (λ o. row_of job rows ≡ o → Some facts ≡ option_map facts_of o → IsRead job rows facts) [
      | None ↦ λ e same. absurd (cc)
      | Some row ↦ λ e same. record { row = row; found = e; read = cc }
    ]) refl is

-- a move that is an operation's, which is not refused
pub record Makes (op : Operation (Unit {0})) (entry : ℕ) (q : Plan) (m : Move) : Type 0 where
  pub is : IsMove q m
  pub free : op.refusal q ≡ None
  pub effect : op.effect entry q ≡ moved entry m q
  pub ties : KeepsTie m.booked m.job q (moved entry m q)
  pub fits : IsFit (moved entry m q)

-- what an operation that tells nothing is answered where nothing refuses it, by what the book has made of it
module _ (op : Operation (Unit {0})) (o : Occasion) (p new : Plan) (made : Result (Unit {0}) NoEntry) (free : op.refusal (plan_at o p) ≡ None) (met : StepsAt o (op.effect o.entry) p made new) where
  pub unit-served : (x : Unit {0}) → made ≡ Ok x → (let r : Result (Result (Unit {0}) Refusal) NoEntry = Ok (Ok tt) in MeetsAt o op p r new)
  unit-served x is =
      let told : Result (Unit {0}) Refusal = Ok tt in
      free-meets op o p new (Ok told) free (ok-meets o tt x told (op.effect o.entry (plan_at o p)) p new made is met)

  pub unit-missed : (why : NoEntry) → made ≡ Err why → (let r : Result (Result (Unit {0}) Refusal) NoEntry = Err why in MeetsAt o op p r new)
  unit-missed why is =
      let told : Result (Unit {0}) Refusal = Ok tt in
      free-meets op o p new (Err why) free (err-meets o tt told why (op.effect o.entry (plan_at o p)) p new made is met)

-- what is handed on wants memory only where it did before
pub err-lacks : {A B : Type 0} (made : Result A NoEntry) (why : NoEntry) (result : Result B NoEntry) (fault : NoEntry) → made ≡ Err why → result ≡ Err fault → fault ≡ why
    → made ≢ Err OutOfMemory → result ≢ Err OutOfMemory
err-lacks {A} made why result fault is hands same other = λ e.
    (let lacks : why ≡ OutOfMemory = cc in other (is ∙ ap (λ (x : NoEntry). let r : Result A NoEntry = Err x in r) lacks))

pub move-steps : (op : Operation (Unit {0})) (o : Occasion) (p new : Plan) (m : Move) (made : Result (Unit {0}) NoEntry) → Makes op o.entry (plan_at o p) m
    → StepsAt o (moved o.entry m) p made new → StepsAt o (op.effect o.entry) p made new
move-steps op o p new m made makes met = subst (λ (n : Plan). Meets o tt n p made new) (sym makes.effect) met

-- a move that wants no room beside what is promised, and no booking
pub record IsFree (m : Move) : Type 0 where
  pub changes : grows m ≡ 0
  pub orders : more_orders m ≡ 0
  pub books : is_booking m.booked ≡ false
