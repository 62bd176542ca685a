use Rattle.std.proofs.Common.{[], ◌∷◌, ◌++◌, ap, ◌∙◌}
use Rattle.std.specs.Map.{lookup}
use Rattle.std.specs.Str.{bytes_eq}
use Rattle.indexmap.proofs.CallerLemmas.{insert_entry-new}
use Rattle.script_text.proofs.keyed.Keyed.add.Goals as goal

pub returns-in-Ok : goal.returns-in-Ok
returns-in-Ok g c =
    c.in-Ok.ensures.entries
    ∙ insert_entry-new bytes_eq c.self.inside.entries c.args.name c.args.value (ap (lookup (bytes_eq c.args.name)) c.self.view_is ∙ c.requires)
    ∙ ap (λ es. es ++ (c.args.name, c.args.value) ∷ []) c.self.view_is
