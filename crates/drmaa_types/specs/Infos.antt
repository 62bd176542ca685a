-- Infos that agree in a part of their fields.
use Rattle.std.specs.Prelude.{◌≡◌}
use Rattle.drmaa_types.specs.declared.infos.JobInfo.{JobInfo}

abbrev pub IsSameJob : JobInfo → JobInfo → Type 0
IsSameJob one other = (one.job ≡ other.job) × (one.session ≡ other.session) × (one.name ≡ other.name) × (one.array ≡ other.array) × (one.index ≡ other.index)

abbrev pub IsSameStand : JobInfo → JobInfo → Type 0
IsSameStand one other = (one.state ≡ other.state) × (one.slots ≡ other.slots) × (one.queue ≡ other.queue) × (one.exit ≡ other.exit) × (one.note ≡ other.note)

abbrev pub IsSameTime : JobInfo → JobInfo → Type 0
IsSameTime one other = (one.wallclock ≡ other.wallclock) × (one.submitted ≡ other.submitted) × (one.dispatched ≡ other.dispatched) × (one.finished ≡ other.finished)
