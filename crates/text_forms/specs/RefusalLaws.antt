-- The laws of refusals: two lines for each.
use Rattle.std.proofs.Common.{◌≡◌, [], codes, Some, refl}
use Rattle.drmaa_types.specs.declared.refusals.Refusal.{Refusal}
use Rattle.drmaa_types.specs.declared.refusals.Refusal.TheVariants as refusal
use Rattle.text_codec.specs.Formats.{IsFormat, first_spelled, moment}
use Rattle.text_codec.specs.FormatLaws.{or_else_laws}
use Rattle.text_codec.specs.BaseLaws.{moment_laws, moment_avoids}
use Rattle.text_codec.specs.Sums.{sum_of, read_sum, IsArm, Stands}
use Rattle.text_codec.specs.SumLaws.{alone_found, keyed_found, alone_stands, keyed_stands, sum_laws, sum_form}
use Rattle.text_forms.specs.declared.refusals.RefusalWord.{RefusalWord}
use Rattle.text_forms.specs.declared.refusals.RefusalWord.TheVariants as why
use Rattle.text_forms.specs.declared.refusals.TheConstants.{REFUSAL_WORDS}
use Rattle.text_codec.specs.ValueWords.{which_form, state_form, limit_form, attribute_form}
use Rattle.text_codec.specs.ValueWordLaws.{which_laws, state_laws, limit_laws, attribute_laws}
use Rattle.text_forms.specs.Refusals.{refusal_word, overfull, refusal_form, refusal_arms, refusal_sum, refusals}

-- each number of a refusal stands in the table, and is no other's
pub refusal_word_stands : (k : RefusalWord) → first_spelled refusal_word REFUSAL_WORDS (refusal_word k) ≡ Some k
refusal_word_stands why.Denied = refl
refusal_word_stands why.Timeout = refl
refusal_word_stands why.Argument = refl
refusal_word_stands why.Session = refl
refusal_word_stands why.State = refl
refusal_word_stands why.Resource = refl
refusal_word_stands why.Attribute = refl
refusal_word_stands why.Operation = refl

pub overfull_laws : IsFormat overfull
unfolding overfull
overfull_laws = or_else_laws (codes "-") moment refl moment_laws (moment_avoids 45 [] refl)

found : (k : RefusalWord) → IsArm refusal_form (refusal_word k) (refusal_arms k)
found why.Denied = keyed_found refusal_form (refusal_word why.Denied) overfull _ overfull_laws (λ x. refl)
found why.Timeout = alone_found refusal_form (refusal_word why.Timeout) refusal.Timeout refl
found why.Argument = keyed_found refusal_form (refusal_word why.Argument) which_form _ which_laws (λ x. refl)
found why.Session = alone_found refusal_form (refusal_word why.Session) refusal.InvalidSession refl
found why.State = keyed_found refusal_form (refusal_word why.State) state_form _ state_laws (λ x. refl)
found why.Resource = keyed_found refusal_form (refusal_word why.Resource) limit_form _ limit_laws (λ x. refl)
found why.Attribute = keyed_found refusal_form (refusal_word why.Attribute) attribute_form _ attribute_laws (λ x. refl)
found why.Operation = alone_found refusal_form (refusal_word why.Operation) refusal.UnsupportedOperation refl

stands : (r : Refusal) → Stands (read_sum refusal_word REFUSAL_WORDS refusal_arms) [] r (refusal_form r)
stands (refusal.DeniedByDrms at) = keyed_stands refusal_word REFUSAL_WORDS refusal_arms [] why.Denied overfull refusal.DeniedByDrms overfull_laws at refl refl (λ bs. refl)
stands (refusal.TryLater served drawn) = record { again = λ tail v p c. absurd v; clean = λ v. absurd v }
stands refusal.Timeout = alone_stands refusal_word REFUSAL_WORDS refusal_arms [] why.Timeout refusal.Timeout refl refl (λ bs. refl)
stands (refusal.InvalidArgument which) = keyed_stands refusal_word REFUSAL_WORDS refusal_arms [] why.Argument which_form refusal.InvalidArgument which_laws which refl refl (λ bs. refl)
stands refusal.InvalidSession = alone_stands refusal_word REFUSAL_WORDS refusal_arms [] why.Session refusal.InvalidSession refl refl (λ bs. refl)
stands (refusal.InvalidState state) = keyed_stands refusal_word REFUSAL_WORDS refusal_arms [] why.State state_form refusal.InvalidState state_laws state refl refl (λ bs. refl)
stands (refusal.OutOfResource limit) = keyed_stands refusal_word REFUSAL_WORDS refusal_arms [] why.Resource limit_form refusal.OutOfResource limit_laws limit refl refl (λ bs. refl)
stands refusal.OutOfMemory = record { again = λ tail v p c. absurd v; clean = λ v. absurd v }
stands (refusal.UnsupportedAttribute attribute) = keyed_stands refusal_word REFUSAL_WORDS refusal_arms [] why.Attribute attribute_form refusal.UnsupportedAttribute attribute_laws attribute refl refl (λ bs. refl)
stands refusal.UnsupportedOperation = alone_stands refusal_word REFUSAL_WORDS refusal_arms [] why.Operation refusal.UnsupportedOperation refl refl (λ bs. refl)

pub refusals_laws : IsFormat refusals
unfolding refusals refusal_sum sum_of
refusals_laws = sum_form refusal_sum refl (sum_laws refusal_word REFUSAL_WORDS refusal_arms refusal_form [] found stands)
