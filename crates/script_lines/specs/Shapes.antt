-- What stands behind the words of lines: our profile.
use Rattle.std.specs.Prelude.{ℕ, ◌^◌, List, Option, Some, None, codes}
use Rattle.drmaa_types.specs.declared.moments.Timeout.{Timeout}
use Rattle.drmaa_types.specs.declared.moments.Timeout.TheVariants.{Seconds, Infinite}
use Rattle.drmaa_types.specs.declared.states.JobState.{JobState}
use Rattle.drmaa_types.specs.declared.states.SignalKind.{SignalKind}
use Rattle.text_codec.specs.Formats.{Format, number, mapped, or_else}
use Rattle.text_codec.specs.Fields.{Fields, always, field, repeated, no_more}
use Rattle.text_codec.specs.Quotes.{text}
use Rattle.text_codec.specs.Words.{name}
use Rattle.text_dates.specs.declared.said.Said.{Said}
use Rattle.text_dates.specs.Said.{said}
use Rattle.text_codec.specs.ValueWords.{state_form, kind_form}
use Rattle.script_lines.specs.declared.refs.Ref.{Ref}
use Rattle.script_lines.specs.declared.lines.Filter.{Filter}
use Rattle.script_lines.specs.Refs.{reference}

-- one item
unfoldable pub text_fields : Fields (List ℕ × Unit {0})
text_fields = always (codes " ") text no_more

unfoldable pub name_fields : Fields (List ℕ × Unit {0})
name_fields = always (codes " ") name no_more

unfoldable pub ref_fields : Fields (Ref × Unit {0})
ref_fields = always (codes " ") reference no_more

unfoldable pub said_fields : Fields (Said × Unit {0})
said_fields = always (codes " ") said no_more

-- a name, and a text that may be left out
unfoldable pub create_fields : Fields (List ℕ × (Option (List ℕ) × Unit {0}))
create_fields = always (codes " ") name (field (codes " ") text no_more)

-- a name and a text
unfoldable pub open_fields : Fields (List ℕ × (List ℕ × Unit {0}))
open_fields = always (codes " ") name (always (codes " ") text no_more)

-- a session, and what it has
unfoldable pub two_fields : Fields (Ref × (Ref × Unit {0}))
two_fields = always (codes " ") reference (always (codes " ") reference no_more)

-- a name, a session and a reservation's template
unfoldable pub reserve_fields : Fields (List ℕ × (Ref × (List ℕ × Unit {0})))
reserve_fields = always (codes " ") name (always (codes " ") reference (always (codes " ") name no_more))

-- a job, and a code or a signal
unfoldable pub exit_fields : Fields (Ref × (ℕ × Unit {0}))
exit_fields = always (codes " ") reference (always (codes " ") (number (2 ^ 8)) no_more)

-- a job, and a kind of signal
unfoldable pub kind_fields : Fields (Ref × (SignalKind × Unit {0}))
kind_fields = always (codes " ") reference (always (codes " ") kind_form no_more)

-- how long a wait lasts: a number of seconds, or without end
abbrev pub make_timeout : Option ℕ → Timeout
make_timeout None = Infinite
make_timeout (Some seconds) = Seconds seconds

abbrev pub timeout_part : Timeout → Option ℕ
timeout_part Infinite = None
timeout_part (Seconds seconds) = Some seconds

unfoldable pub timeout_form : Format Timeout
timeout_form = mapped make_timeout timeout_part (or_else (codes "infinite") (number (2 ^ 64)))

-- a session, a timeout, and jobs
unfoldable pub wait_fields : Fields (Ref × (Timeout × (List Ref × Unit {0})))
wait_fields = always (codes " ") reference (always (codes " ") timeout_form (repeated (codes " ") reference no_more))

-- a session, a template, and a reservation that may be left out
unfoldable pub ran_fields : Fields (Ref × (List ℕ × (Option Ref × Unit {0})))
ran_fields = always (codes " ") reference (always (codes " ") name (field (codes " reserved ") reference no_more))

-- a name, and the same behind it
unfoldable pub run_fields : Fields (List ℕ × (Ref × (List ℕ × (Option Ref × Unit {0}))))
run_fields = always (codes " ") name ran_fields

-- how many at once: a number, or - for any
unfoldable pub bound_form : Format (Option ℕ)
bound_form = or_else (codes "-") (number (2 ^ 32))

-- the indices of an array, with their bound, and a reservation that may be left out
unfoldable pub index_fields : Fields (ℕ × (ℕ × (ℕ × (Option ℕ × (Option Ref × Unit {0})))))
index_fields =
    always (codes " ") (number (2 ^ 32)) (
    always (codes " ") (number (2 ^ 32)) (
    always (codes " ") (number (2 ^ 32)) (
    always (codes " ") bound_form (
    field (codes " reserved ") reference no_more))))

-- a session, a template, and the indices
unfoldable pub member_fields : Fields (Ref × (List ℕ × (ℕ × (ℕ × (ℕ × (Option ℕ × (Option Ref × Unit {0})))))))
member_fields = always (codes " ") reference (always (codes " ") name index_fields)

-- a name, and the same behind it
unfoldable pub bulk_fields : Fields (List ℕ × (Ref × (List ℕ × (ℕ × (ℕ × (ℕ × (Option ℕ × (Option Ref × Unit {0}))))))))
bulk_fields = always (codes " ") name member_fields

-- the items of a filter, in three groups, the last one first
abbrev pub Sought : Type 0
Sought = Option ℕ × (Option ℕ × (Option Said × (Option Said × (Option Said × Unit {0}))))

unfoldable pub sought_fields : Fields Sought
sought_fields =
    field (codes " status=") (number (2 ^ 8)) (
    field (codes " wallclock=") (number (2 ^ 64)) (
    field (codes " submitted=") said (
    field (codes " dispatched=") said (
    field (codes " finished=") said no_more))))

abbrev pub Standing : Type 0
Standing = Option JobState × (Option ℕ × (Option (List ℕ) × Sought))

unfoldable pub standing_fields : Fields Standing
standing_fields =
    field (codes " state=") state_form (
    field (codes " slots=") (number (2 ^ 32)) (
    field (codes " queue=") text sought_fields))

abbrev pub Filters : Type 0
Filters = Option Ref × (Option (List ℕ) × Standing)

unfoldable pub filter_fields : Fields Filters
filter_fields = field (codes " id=") reference (field (codes " name=") text standing_fields)

abbrev pub make_filter : Filters → Filter
make_filter p =
    let sought = p.1.1.1.1.1 in
    record {
      job = p.0;
      name = p.1.0;
      state = p.1.1.0;
      slots = p.1.1.1.0;
      queue = p.1.1.1.1.0;
      status = sought.0;
      wallclock = sought.1.0;
      submitted = sought.1.1.0;
      dispatched = sought.1.1.1.0;
      finished = sought.1.1.1.1.0;
    }

abbrev pub filter_parts : Filter → Filters
filter_parts f = (f.job, (f.name, (f.state, (f.slots, (f.queue, (f.status, (f.wallclock, (f.submitted, (f.dispatched, (f.finished, tt))))))))))

-- a session, and the items of a filter
unfoldable pub jobs_fields : Fields (Ref × Filters)
jobs_fields = always (codes " ") reference filter_fields
