use Rattle.std.proofs.Common.{List, Option, ℕ, ap, ◌∙◌, rules}
use Rattle.run_views.specs.Submitted.{session_in, name_in, name_after}
use Rattle.run_views.specs.Tables.{name_in_table}
use Rattle.run_views.proofs.Tellings.{one_named}
use Rattle.run_views.proofs.session_names.names_of.Goals as goal

pub loop-entry-preserved : goal.loop-entry-preserved
loop-entry-preserved c = λ session.
    let old = name_in_table c.loop-entry.names session in
    one_named session c.args.entries.now c.loop-entry.entry-index _ c.entry-item.result c.loop-entry.used.items c.note_use.new.used.items old (name_in_table c.in_ok-names.names session)
    (search rules) c.entry-item.is (c.in_ok-note_use.ensures {u = tt})
    ((c.in_ok-names.ensures {u = tt}) session
    ∙ ap (λ n. name_after session n c.in_ok-name.name old) c.session_in.ensures
    ∙ ap (λ (n : Option (List ℕ)). name_after session (session_in c.entry-item.result.reply) n old)
    ((c.in_ok-name.ensures {u = tt}) ∙ ap (λ (us : List (List ℕ)). name_in us c.entry-item.result.call) c.as_slice.ensures.value))
    (c.loop-entry.invariant session)
