use Rattle.std.proofs.Common.{◌≡◌, List, [], ◌∷◌, ◌++◌, ap, refl, ◌∙◌, subst}
use Rattle.std.specs.Prelude.{Err}
use Rattle.std.proofs.lemmas.Result.{IfOk-weaker}
use Rattle.block_play.specs.declared.stops.Stopped.{Stopped}
use Rattle.thread_play.specs.Others.{OthersHeard, setup_alone, with_others}
use Rattle.thread_play.proofs.runs.play_blocks.Goals as goal

pub returns-in-Ok-clause-blocks : goal.returns-in-Ok-clause-blocks
returns-in-Ok-clause-blocks g c =
    let f = c.play_first-clock.result in
    let one : c.push_reserved.new.self.items ≡ f.clock ∷ [] = c.push_reserved.ensures.items ∙ ap (λ (l : List g.row.K-One.Denot). l ++ f.clock ∷ []) c.requires.none in
    IfOk-weaker c.play_others.result _ _ (λ full y.
    with_others c.play_first-clock.new.opener f c.play_first-clock.new.hub c.in-Ok.names c.play_first-clock.ensures c.in-Ok.is c.play_others.ensures.keeps.places
    (subst (λ (l : List g.row.K-One.Denot). OthersHeard g.K.One.Clock.given g.S.One.Child.told c.args.script.now c.in-Ok.names c.args.shared.now c.play_first-clock.new.opener c.play_others.new.opener
    (g.S.Spawner.asked c.args.spawner.now) (g.S.Spawner.asked c.play_others.new.spawner) (g.S.Spawner.fate c.play_others.new.spawner) l c.play_others.new.given.items full c.play_others.new.hub) one y)) c.play_others.ensures.others

pub returns-in-Err-Full-clause-blocks : goal.returns-in-Err-Full-clause-blocks
returns-in-Err-Full-clause-blocks g c =
    let f = c.play_first-clock.result in
    setup_alone f c.in-Err-Full.size c.play_first-clock.ensures (c.in-Err-Full.is ∙ ap (λ (w : Stopped). Err w) (rw c.in-Err-Full.is at c.in-Err-Full.field-0-is)) refl
    (c.push_reserved.ensures.items ∙ ap (λ (l : List g.row.K-One.Denot). l ++ f.clock ∷ []) c.requires.none) refl
