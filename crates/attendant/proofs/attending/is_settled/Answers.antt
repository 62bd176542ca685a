use Rattle.std.proofs.Common.{◌≡◌, inl, inr, true, refl, ap, subst}
use Rattle.drmaa_model.specs.declared.configs.Config.{Config}
use Rattle.drmaa_model.specs.declared.looks.Answer.{Answer}
use Rattle.drmaa_model.specs.declared.looks.Answer.TheVariants as told
use Rattle.drmaa_model.specs.declared.looks.Question.TheVariants as question
use Rattle.call_history.specs.Calls.{IsLookedAt}
use Rattle.call_history.specs.Clients.{Seat}
use Rattle.call_history.specs.Clocks.{Dial}
use Rattle.attendant.specs.Acts.{acts_of}
use Rattle.attendant.specs.Outside.{EndsSettled}
use Rattle.attendant.specs.Posts.{Post}
use Rattle.attendant.proofs.Desks.{still-learnt, still-look}
use Rattle.attendant.proofs.attending.is_settled.Goals as goal

pub returns-clause-launcher : goal.returns-clause-launcher
returns-clause-launcher g c = still-look _ c.hand_over.new.to _ _ _ _ c.look-answer.ensures.shared c.look-answer.ensures.client c.hand_over.ensures.number c.look-answer.ensures.number c.hand_over.ensures.mine
    c.hand_over.ensures.from_old c.look-answer.ensures.own c.look-answer.ensures.legal c.look-answer.ensures.answer

pub returns-then-not-idle-clause-launcher : goal.returns-then-not-idle-clause-launcher
returns-then-not-idle-clause-launcher g c = still-learnt _ c.hand_over.new.to c.hand_over.ensures.to c.hand_over.ensures.number c.hand_over.ensures.mine c.hand_over.ensures.own
    c.hand_over.ensures.from_old c.hand_over.ensures.legal

pub returns-clause-between : goal.returns-clause-between
returns-clause-between g c =
    let h = c.hand_over.ensures in
    record {
      learnt = _;
      learns = still-learnt _ c.hand_over.new.to h.to h.number h.mine h.own h.from_old h.legal;
      mine_is = ap acts_of h.mine;
      unread = refl;
      looks = inr (c.look-answer.result, c.look-answer.ensures.answer);
    }

pub returns-then-not-idle-clause-between : goal.returns-then-not-idle-clause-between
returns-then-not-idle-clause-between g c =
    let h = c.hand_over.ensures in
    record {
      learnt = _;
      learns = still-learnt _ c.hand_over.new.to h.to h.number h.mine h.own h.from_old h.legal;
      mine_is = ap acts_of h.mine;
      unread = refl;
      looks = inl refl;
    }

-- a look that says so leaves the machine settled at its reading
ends-settled : (config : Config) (before : Dial) (old : Seat) (now : Post) (a : Answer) → IsLookedAt config before old question.Settled a now.clock now.client → a ≡ told.Settled true
    → EndsSettled config now
ends-settled config before old now a look is = record {
  before = before;
  old = old;
  look = subst (λ (x : Answer). IsLookedAt config before old question.Settled x now.clock now.client) is look;
}

pub returns-clause-settled : goal.returns-clause-settled
returns-clause-settled g c = λ yes. ends-settled _ _ _ _ c.look-answer.result c.look-answer.ensures.answer (c.says_settled.ensures yes)
