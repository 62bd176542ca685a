-- A queue of a machine: our profile.
use Rattle.std.specs.Prelude.{◌^◌}
use Rattle.drmaa_types.specs.declared.queues.QueueSpec.{QueueSpec}
use Rattle.text_codec.specs.Formats.{Format, number, pair, mapped}
use Rattle.text_codec.specs.Quotes.{text}

-- its name and its limit
unfoldable pub queue : Format QueueSpec
queue = mapped (λ p. record { name = p.0; limit = p.1 }) (λ q. (q.name, q.limit)) (pair text (number (2 ^ 32)))
