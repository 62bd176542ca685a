-- From a refusal, or from what is told, to the reply.
use Rattle.std.proofs.Common.{◌≡◌, ℕ, Option, Some, None, refl, sym, ◌∙◌}
use Rattle.std.specs.Prelude.{Result, Ok, Err, IfOk}
use Rattle.std.specs.Option.{option_map, option_map_or}
use Rattle.std.specs.declared.alloc.AllocError.{AllocError}
use Rattle.drmaa_types.specs.declared.refusals.Refusal.{Refusal}
use Rattle.drmaa_model.specs.declared.calls.Call.{Call}
use Rattle.drmaa_model.specs.declared.replies.Reply.{Reply}
use Rattle.drmaa_model.specs.declared.replies.Reply.TheVariants.{Refused}
use Rattle.drmaa_model.specs.declared.replies.Reply.TheVariants as reply
use Rattle.drmaa_model.specs.declared.rows.Row.{Row}
use Rattle.drmaa_model.specs.Infos.{info}
use Rattle.drmaa_model.specs.World.{World}
use Rattle.drmaa_model.specs.AnswerLaws.{refused-gives, served-gives}
use Rattle.drmaa_model.specs.Effects.{effect, makes}
use Rattle.drmaa_model.specs.Refusals.{refusal}
use Rattle.machine_readings.specs.declared.store.Store.{Store}
use Rattle.machine_readings.specs.Stores.{world_at}
use Rattle.machine_readings.specs.Telling.{IsReply}

pub refused : (s : Store) (at : ℕ) (asked : Call) (why : Refusal) → Some why ≡ refusal (world_at at s) asked → IsReply s at asked (Refused why)
refused s at asked why is = refused-gives at (world_at at s) asked why (sym is)

pub told : (s : Store) (at : ℕ) (asked : Call) (r : Reply) → None ≡ refusal (world_at at s) asked → effect at (world_at at s) asked ≡ makes r (world_at at s) → IsReply s at asked r
told s at asked r is does = served-gives at (world_at at s) asked (sym is) ∙ does

pub told-info : (w : World) (o : Option Row) → option_map_or (λ (row : Row). reply.Info (info w row)) o reply.Unit ≡ option_map_or reply.Info (option_map (info w) o) reply.Unit
told-info w None = refl
told-info w (Some row) = refl

pub ok-then : (r : Result Reply AllocError) (P Q : Reply → Type 0) → IfOk r P → ((x : Reply) → P x → Q x) → IfOk r Q
ok-then (Ok x) P Q is implies = implies x is
ok-then (Err e) P Q is implies = tt
