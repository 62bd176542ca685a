-- The names of limits: a journal can print each of them.
use Rattle.std.specs.Prelude.{Bool, List}
use Rattle.std.specs.List.{list_all}
use Rattle.drmaa_types.specs.declared.template_parts.ResourceLimit.{ResourceLimit}
use Rattle.drmaa_model.specs.RecordedCalls.{is_word}

abbrev pub has_words : List ResourceLimit → Bool
has_words limits = list_all (λ (limit : ResourceLimit). is_word limit.name) limits
