use Rattle.std.proofs.Common.{◌≡◌, List, Option, ℕ, [], ◌∷◌, ◌++◌, ◌+◌, ap, ◌∙◌, rules}
use Rattle.run_views.specs.Submitted.{submission}
use Rattle.run_views.proofs.Tellings.{one_added}
use Rattle.run_views.proofs.submissions.push_jobs.Goals as goal

pub loop-place-preserved : goal.loop-place-preserved
loop-place-preserved c =
    let place = c.loop-place.place in
    let first = c.args.jobs.now.first.0 in
    let subs = c.loop-place.submissions.items in
    let pushed : c.push.new.self.items ≡ subs ++ submission c.args.at c.args.session c.args.name.now (first + place) ∷ [] =
    (c.in_ok-push.ensures {u = tt}).items ∙ ap (λ (name : Option (List ℕ)). subs ++ submission c.args.at c.args.session name (first + place) ∷ []) (c.in_ok-copied.ensures {u = tt}) in
    one_added (submission c.args.at c.args.session c.args.name.now) first place c.args.jobs.now.count _ subs c.push.new.self.items (search rules) pushed c.loop-place.invariant
