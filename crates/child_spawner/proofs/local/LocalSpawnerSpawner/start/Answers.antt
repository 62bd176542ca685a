use Rattle.std.proofs.Common.{ap, ◌∙◌}
use Rattle.child_spawner.proofs.Edges.{launch_failed}
use Rattle.child_spawner.proofs.local.LocalSpawnerSpawner.start.Goals as goal

pub returns-in-Err-clause-failed : goal.returns-in-Err-clause-failed
returns-in-Err-clause-failed g c =
    launch_failed c.args.job.0 c.args.attempt c.args.self.now.folder c.as_str.result.now c.args.words.now (g.H.Host.told c.args.self.now.host) (g.H.Host.told c.self.inside.host) (g.H.Host.told c.launch.new.host)
    (c.as_str.ensures.value ∙ ap (λ s. s.folder) c.self.view_is) (ap (λ s. g.H.Host.told s.host) c.self.view_is) c.in-Err.ensures.failed
