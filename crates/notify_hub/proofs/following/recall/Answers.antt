use Rattle.std.proofs.Common.{sym, subst}
use Rattle.call_history.specs.Clients.{seen_of}
use Rattle.turn_lock.specs.Histories.{BeginsWith}
use Rattle.call_history.specs.Clients.{Seat}
use Rattle.std.proofs.Common.{Option, refl}
use Rattle.notify_hub.specs.Hubs.{noted}
use Rattle.change_callbacks.specs.Places.{changes_of}
use Rattle.notify_hub.proofs.Growing.{changes-begin}
use Rattle.notify_hub.proofs.Noting.{begins-nothing}
use Rattle.notify_hub.proofs.following.recall.Goals as goal

pub returns-in_default-clause-recalled : goal.returns-in_default-clause-recalled
returns-in_default-clause-recalled c = subst (λ o. BeginsWith (seen_of c.note.new.client) (noted o)) (sym c.in_default.is) (begins-nothing (seen_of c.note.new.client))

pub returns-in_default-clause-changes : goal.returns-in_default-clause-changes
returns-in_default-clause-changes c =
    subst (λ (o : Option Seat). BeginsWith (changes_of c.args.shared.now.fixed (seen_of c.note.new.client)) (changes_of c.args.shared.now.fixed (noted o))) (sym c.in_default.is)
    (record { rest = changes_of c.args.shared.now.fixed (seen_of c.note.new.client); whole = refl })

pub returns-clause-changes : goal.returns-clause-changes
returns-clause-changes c =
    subst (λ (o : Option Seat). BeginsWith (changes_of c.args.shared.now.fixed (seen_of c.learn.new.client)) (changes_of c.args.shared.now.fixed (noted o))) (sym c.in-Some.is)
    (changes-begin c.args.shared.now.fixed (seen_of c.in-Some.note) (seen_of c.learn.new.client) c.learn.ensures.legal c.learn.ensures.from_note)
