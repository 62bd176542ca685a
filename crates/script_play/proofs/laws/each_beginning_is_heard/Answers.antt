use Rattle.std.proofs.Common.{◌<◌, sym, subst}
use Rattle.std.proofs.lemmas.List.{length-map}
use Rattle.drmaa_model.specs.History.{now_of}
use Rattle.change_callbacks.specs.Places.{registrations_of}
use Rattle.script_play.specs.Along.{along_play, histories}
use Rattle.script_play.proofs.Along.{heard-at}
use Rattle.script_play.proofs.laws.each_beginning_is_heard.Goals as goal

pub returns : goal.returns
returns g c = λ ledger script before after along lines inside.
    heard-at g.B.Callback.counted g.B.Callback.told (registrations_of ledger.config ledger.history) ledger.config (histories ledger.history (along_play (now_of ledger) script)) lines before after
    (subst (λ n. lines < n) (sym (length-map (along_play (now_of ledger) script) _)) inside) along
