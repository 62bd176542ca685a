use Rattle.std.proofs.Common.{refl, sym, ap, subst, ◌∙◌}
use Rattle.std.specs.Option.{is_some}
use Rattle.child_spawner.proofs.Edges.{sending_failed, sent_after_end}
use Rattle.child_spawner.specs.Deeds.{Withholds}
use Rattle.child_spawner.proofs.local.LocalChildChild.signal.Goals as goal
use Rattle.child_spawner.proofs.local.LocalChildChild.signal.Goals.{else-is_none-via-then-is_none+else-deliver, else-is_none-via-else-is_none}

pub returns-clause-withheld : goal.returns-clause-withheld
returns-clause-withheld g c = λ failed. elim c.else-is_none.branch [
  | else-is_none-via-then-is_none+else-deliver w ↦
      sending_failed c.args.kind c.args.self.now.number c.id-number.result c.args.self.now.file w.as_str.result.now (g.H.Host.told c.args.self.now.host) (g.H.Host.told c.self.inside.host) (g.H.Host.told c.else-is_none.self-inside.host) c.args.self.now.ended
      (c.id-number.ensures ∙ ap (λ s. s.number) c.self.view_is) (w.as_str.ensures.value ∙ ap (λ s. s.file) c.self.view_is) (ap (λ s. g.H.Host.told s.host) c.self.view_is)
      (subst (λ host. Withholds c.args.kind c.id-number.result w.as_str.result.now (g.H.Host.told c.self.inside.host) (g.H.Host.told host)) (sym (ap (λ s. s.host) w.self-inside-is)) (w.if-deliver.ensures.withheld refl))
  | else-is_none-via-else-is_none w ↦ sent_after_end (Withholds c.args.kind c.args.self.now.number c.args.self.now.file (g.H.Host.told c.args.self.now.host) (g.H.Host.told c.else-is_none.self-inside.host)) c.args.self.now.ended
      (sym (ap (λ s. is_some s.ended) c.self.view_is) ∙ w.if-is_none.ensures)
]
