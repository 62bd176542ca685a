use Rattle.std.proofs.Common.{◌≡◌, false, Option, Some, None, refl, ◌∙◌, ap}
use Rattle.std.specs.Option.{option_map, option_map_or}
use Rattle.drmaa_types.specs.Filters.{matches}
use Rattle.drmaa_types.specs.declared.filters.JobFilter.{JobFilter}
use Rattle.drmaa_types.specs.declared.infos.JobInfo.{JobInfo}
use Rattle.drmaa_model.specs.declared.rows.Row.{Row}
use Rattle.drmaa_model.specs.Infos.{info}
use Rattle.drmaa_model.specs.Rows.{row_of}
use Rattle.drmaa_model.specs.Time.{rows_at}
use Rattle.drmaa_model.specs.World.{World}
use Rattle.machine_readings.specs.Stores.{world_at}
use Rattle.machine_readings.proofs.store.Store.is_let_through.Goals as goal

passes : (f : JobFilter) (w : World) (o : Option Row) → option_map_or (matches f) (option_map (info w) o) false ≡ option_map_or (λ (row : Row). matches f (info w row)) o false
passes f w None = refl
passes f w (Some row) = refl

pub returns : goal.returns
returns c =
    let w = world_at c.args.at c.args.self.now in
    c.lets_through.ensures ∙ ap (λ (o : Option JobInfo). option_map_or (matches c.args.filter.now) o false) (c.in_ok-info.ensures {u = tt})
    ∙ passes c.args.filter.now w (row_of c.args.job (rows_at c.args.at c.args.self.now.core.plan))
