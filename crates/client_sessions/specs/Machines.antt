-- The machine that is made from its slots and its name alone: our profile.
use Rattle.std.specs.Prelude.{ℕ, List, [], true}
use Rattle.drmaa_model.specs.declared.configs.Config.{Config}

-- jobs can be suspended, the journal may have the greatest size, and there are no queues
abbrev pub plain_config : ℕ → List ℕ → Config
plain_config slots name = record { slots = slots; name = name; suspend = true; journal = 4000000; queues = [] }
