-- Refusals as they stand in a journal: our profile. The numbers 2 and 8, and the journal's own limit, never stand in an entry.
use Rattle.std.specs.Prelude.{ℕ, Bool, true, false, List, [], Option, codes}
use Rattle.drmaa_types.specs.declared.refusals.Refusal.{Refusal}
use Rattle.drmaa_types.specs.declared.refusals.Refusal.TheVariants as refusal
use Rattle.text_codec.specs.Formats.{Format, moment, or_else}
use Rattle.text_codec.specs.Fields.{Fields}
use Rattle.text_codec.specs.Sums.{Spelled, alone, keyed, arm_alone, arm, sum_of}
use Rattle.text_forms.specs.declared.refusals.RefusalWord.{RefusalWord}
use Rattle.text_forms.specs.declared.refusals.RefusalWord.TheVariants as why
use Rattle.text_forms.specs.declared.refusals.TheConstants.{REFUSAL_WORDS}
use Rattle.text_codec.specs.ValueWords.{which_form, state_form, limit_form, attribute_form, is_told}

-- a refusal is spelled as its number
abbrev pub refusal_word : RefusalWord → List ℕ
refusal_word why.Denied = codes "1"
refusal_word why.Timeout = codes "3"
refusal_word why.Argument = codes "4"
refusal_word why.Session = codes "5"
refusal_word why.State = codes "6"
refusal_word why.Resource = codes "7"
refusal_word why.Attribute = codes "9"
refusal_word why.Operation = codes "10"

-- the moment that is overfull, or -
unfoldable pub overfull : Format (Option ℕ)
overfull = or_else (codes "-") moment

-- what no entry has: its number, for the reader's eye alone
abbrev pub never : List ℕ → Spelled
never word = record { text = word; valid = ⊥ }

abbrev pub refusal_form : Refusal → Spelled
refusal_form (refusal.DeniedByDrms at) = keyed (refusal_word why.Denied) overfull at
refusal_form (refusal.TryLater served drawn) = never (codes "2")
refusal_form refusal.Timeout = alone (refusal_word why.Timeout)
refusal_form (refusal.InvalidArgument which) = keyed (refusal_word why.Argument) which_form which
refusal_form refusal.InvalidSession = alone (refusal_word why.Session)
refusal_form (refusal.InvalidState state) = keyed (refusal_word why.State) state_form state
refusal_form (refusal.OutOfResource limit) = keyed (refusal_word why.Resource) limit_form limit
refusal_form refusal.OutOfMemory = never (codes "8")
refusal_form (refusal.UnsupportedAttribute attribute) = keyed (refusal_word why.Attribute) attribute_form attribute
refusal_form refusal.UnsupportedOperation = alone (refusal_word why.Operation)

-- the refusals that a journal may have
abbrev pub may_stand : Refusal → Bool
may_stand (refusal.DeniedByDrms at) = true
may_stand (refusal.TryLater served drawn) = false
may_stand refusal.Timeout = true
may_stand (refusal.InvalidArgument which) = true
may_stand refusal.InvalidSession = true
may_stand (refusal.InvalidState state) = true
may_stand (refusal.OutOfResource limit) = is_told limit
may_stand refusal.OutOfMemory = false
may_stand (refusal.UnsupportedAttribute attribute) = true
may_stand refusal.UnsupportedOperation = true

abbrev pub refusal_arms : RefusalWord → List ℕ → Option (Refusal × List ℕ)
refusal_arms why.Denied = arm overfull refusal.DeniedByDrms
refusal_arms why.Timeout = arm_alone refusal.Timeout
refusal_arms why.Argument = arm which_form refusal.InvalidArgument
refusal_arms why.Session = arm_alone refusal.InvalidSession
refusal_arms why.State = arm state_form refusal.InvalidState
refusal_arms why.Resource = arm limit_form refusal.OutOfResource
refusal_arms why.Attribute = arm attribute_form refusal.UnsupportedAttribute
refusal_arms why.Operation = arm_alone refusal.UnsupportedOperation

unfoldable pub refusal_sum : Fields Refusal
refusal_sum = sum_of refusal_word REFUSAL_WORDS refusal_arms refusal_form []

unfoldable pub refusals : Format Refusal
refusals = refusal_sum.body
