use Rattle.std.proofs.Common.{◌≡◌, ◌++◌, drop, map}
use Rattle.std.specs.List.{AllByRecursion}
use Rattle.drmaa_model.specs.RecordedCalls.{recorded_limit}
use Rattle.text_codec.specs.Formats.{spell_each}
use Rattle.text_codec.specs.TemplateParts.{resource_limit}
use Rattle.text_forms.proofs.template_printing.push_limits.Given as goal

-- what was printed, with what will be, is all of it; and where the limits left are in their ranges, all are
abbrev pub invariant-loop-limit : goal.invariant-loop-limit
invariant-loop-limit l =
    (l.out.items ++ spell_each l.key resource_limit.spell (map recorded_limit (drop l.limit-index l.limits)) ≡ l.initial.out.items ++ spell_each l.key resource_limit.spell (map recorded_limit l.limits))
    × (AllByRecursion resource_limit.valid (map recorded_limit (drop l.limit-index l.limits)) → AllByRecursion resource_limit.valid (map recorded_limit l.limits))
