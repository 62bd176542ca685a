-- The law of the first line.
use Rattle.std.proofs.Common.{◌^◌, codes, refl}
use Rattle.text_codec.specs.Formats.{IsFormat, number}
use Rattle.text_codec.specs.FormatLaws.{behind_laws, pair_laws, checked_laws}
use Rattle.text_codec.specs.BaseLaws.{text_laws, number_laws_32, one_of_laws}
use Rattle.text_codec.specs.Quotes.{text}
use Rattle.script_text.specs.declared.header.TheConstants.{SUSPENDS}
use Rattle.script_text.specs.Header.{suspend_word, suspend, is_machine, header}

suspend_laws : IsFormat suspend
unfolding suspend
suspend_laws = one_of_laws suspend_word SUSPENDS refl

pub header_laws : IsFormat header
unfolding header
header_laws = checked_laws (λ m. is_machine m.0 m.1.0) _ (behind_laws (codes "machine ") _ refl (pair_laws (number (2 ^ 32)) _ number_laws_32 (pair_laws text suspend text_laws suspend_laws)))
