-- The queues of a journal's machine. Our profile.
use Rattle.std.specs.Prelude.{List}
use Rattle.drmaa_types.specs.declared.queues.QueueSpec.{QueueSpec}
use Rattle.text_codec.specs.Formats.{Format, list_of}
use Rattle.text_codec.specs.Queues.{queue}

-- a list in brackets: each with its name and its limit
unfoldable pub queues : Format (List QueueSpec)
queues = list_of queue
