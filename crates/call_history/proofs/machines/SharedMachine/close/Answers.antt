use Rattle.std.proofs.Common.{ℕ, List, map, sym, subst, ◌∙◌, ◌≤◌}
use Rattle.drmaa_model.specs.declared.entries.Entry.{Entry}
use Rattle.drmaa_model.specs.History.{IsLegal}
use Rattle.drmaa_machine.specs.ChronicleLaws.{history-told}
use Rattle.drmaa_machine.specs.Chronicles.{told, history_of}
use Rattle.turn_lock.specs.Histories.{BeginsWith}
use Rattle.drmaa_model.specs.declared.configs.Config.{Config}
use Rattle.turn_lock.specs.Tokens.{Named}
use Rattle.call_history.specs.Clients.{seen_of}
use Rattle.call_history.proofs.Tellings.{legal-history, begins, calls-told, retired-at, told-back, left-same, length-retired}
use Rattle.call_history.proofs.machines.SharedMachine.close.Goals as goal

pub close-requires-clause-none_left : goal.close-requires-clause-none_left
close-requires-clause-none_left c = sym (left-same c.args.opener.view.retired) ∙ c.requires.back

pub returns-clause-legal : goal.returns-clause-legal
returns-clause-legal c =
    let h = c.close.result.ledger.history in
    subst (λ (l : List Entry). IsLegal c.args.self.fixed l) (history-told h)
    (subst (λ (n : Named Config). IsLegal n.fixed (history_of (map told h))) c.self.view_is (legal-history c.self.inside.lock.fixed (map told h) c.close.ensures.is_legal))

pub returns-clause-seen : goal.returns-clause-seen
returns-clause-seen c =
    let h = c.close.result.ledger.history in
    subst (λ (l : List Entry). BeginsWith l (seen_of c.args.opener)) (history-told h) (begins (map told h) c.args.opener.view.seen c.close.ensures.goes_on)

pub returns-clause-lists : goal.returns-clause-lists
returns-clause-lists c = λ number own is.
    let h = c.close.result.ledger.history in
    let back = told-back _ own (sym (retired-at c.args.opener.view.retired number) ∙ is) in
    calls-told h number back.list (c.close.ensures.retired number back.list back.is) ∙ back.told

pub returns-clause-strangers : goal.returns-clause-strangers
returns-clause-strangers c = λ number above.
    let h = c.close.result.ledger.history in
    calls-told h number _ (c.close.ensures.strangers number (subst (λ (l : ℕ). l ≤ number) (length-retired c.args.opener.view.retired) above))
