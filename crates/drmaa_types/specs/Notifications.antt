-- What a callback hears of a change: GFD.231, notifications; that each change is one event NewState is our profile.
use Rattle.drmaa_types.specs.declared.changes.Change.{Change}
use Rattle.drmaa_types.specs.declared.changes.Notification.{Notification}
use Rattle.drmaa_types.specs.declared.states.Event.TheVariants.{NewState}

abbrev pub notification_of : Change → Notification
notification_of change = record { event = NewState; job = change.job; home = change.home; state = change.to }
