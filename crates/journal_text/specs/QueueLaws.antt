-- The laws of the queues of a journal's machine.
use Rattle.std.proofs.Common.{[], ◌∷◌, refl}
use Rattle.text_codec.specs.Formats.{IsFormat, Avoids, pair, mapped}
use Rattle.text_codec.specs.FieldLaws.{list_laws}
use Rattle.text_codec.specs.Quotes.{text}
use Rattle.text_codec.specs.Queues.{queue}
use Rattle.text_codec.specs.QueueLaws.{queue_laws}
use Rattle.journal_text.specs.Queues.{queues}

-- a queue begins with the quote of its name
queue_avoids : Avoids (93 ∷ []) queue
unfolding queue mapped pair text
queue_avoids q rest v = refl

pub queues_laws : IsFormat queues
unfolding queues
queues_laws = list_laws queue queue_laws queue_avoids
