-- The laws of queues.
use Rattle.std.proofs.Common.{◌^◌, refl}
use Rattle.text_codec.specs.Formats.{IsFormat, number, pair}
use Rattle.text_codec.specs.FormatLaws.{pair_laws, mapped_laws}
use Rattle.text_codec.specs.BaseLaws.{text_laws, number_laws_32}
use Rattle.text_codec.specs.Quotes.{text}
use Rattle.text_codec.specs.Queues.{queue}

pub queue_laws : IsFormat queue
unfolding queue
queue_laws = mapped_laws _ _ (pair text (number (2 ^ 32))) (pair_laws text _ text_laws number_laws_32) (λ x v. refl) (λ y v. refl)
