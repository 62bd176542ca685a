-- What a caller is refused for where its call made no entry: our profile.
use Rattle.drmaa_types.specs.declared.refusals.Limit.TheVariants as limit
use Rattle.drmaa_types.specs.declared.refusals.Refusal.{Refusal}
use Rattle.drmaa_types.specs.declared.refusals.Refusal.TheVariants as why
use Rattle.drmaa_model.specs.declared.faults.NoEntry.{NoEntry}
use Rattle.drmaa_model.specs.declared.faults.NoEntry.TheVariants as fault

-- The refusal that stands for a fault. No refusal says that nothing has come, or that there is nothing to hand out: whoever makes a
-- wait, or takes a launch or a signal, tells these by other means.
abbrev pub refusal_for : NoEntry → Refusal
refusal_for fault.OutOfMemory = why.OutOfMemory
refusal_for fault.NotYet = why.OutOfMemory
refusal_for fault.Nothing = why.OutOfMemory
refusal_for (fault.Journal size) = why.OutOfResource (limit.Journal size)
